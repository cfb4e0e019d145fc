-- Readers of edges, by the parts of a plan.
use Rattle.std.proofs.Common.{◌≡◌, ℕ, Bool, Option, Some, if◌then◌else◌, ◌==◌, ap, sym, ◌∙◌}
use Rattle.std.proofs.lemmas.Bool.{eq-eqb, ne_eqb}
use Rattle.plan_trees.specs.PlanParts.{parts_of}
use Rattle.plan_trees.specs.Plans.{PlanTree, root_of}
use Rattle.plan_trees.specs.declared.plans.Parts.TheVariants.{OverOne, OverTwo}
use Rattle.flow_instance.specs.Worlds.{first_of, reader_of}
use Rattle.plan_trees.proofs.RootParts.{is_both, is_over}

pub read_here : (tree : PlanTree) (e at : ℕ) (input : PlanTree) → parts_of tree ≡ OverOne at input → e ≡ root_of input → Some (at, 0) ≡ reader_of e tree
read_here tree e at input is here =
    sym (ap (reader_of e) (is_over tree input at (sym is)) ∙ ap (λ (b : Bool). if b then Some (at, 0) else reader_of e input) (eq-eqb e (root_of input) here))

pub read_below : (tree : PlanTree) (e at : ℕ) (input : PlanTree) (found : Option (ℕ × ℕ)) → parts_of tree ≡ OverOne at input → (e ≡ root_of input → ⊥) → found ≡ reader_of e input → found ≡ reader_of e tree
read_below tree e at input found is other below =
    below ∙ sym (ap (reader_of e) (is_over tree input at (sym is)) ∙ ap (λ (b : Bool). if b then Some (at, 0) else reader_of e input) (ne_eqb e (root_of input) other))

pub read_at_left : (tree : PlanTree) (e at : ℕ) (left right : PlanTree) → parts_of tree ≡ OverTwo at left right → e ≡ root_of left → Some (at, 0) ≡ reader_of e tree
read_at_left tree e at left right is here =
    let rest = if (e == root_of right) then Some (at, 1) else first_of (reader_of e left) (reader_of e right) in
    sym (ap (reader_of e) (is_both tree left right at (sym is)) ∙ ap (λ (b : Bool). if b then Some (at, 0) else rest) (eq-eqb e (root_of left) here))

-- the edge isn't the left input
past_left : (tree : PlanTree) (e at : ℕ) (left right : PlanTree) → parts_of tree ≡ OverTwo at left right → (e ≡ root_of left → ⊥)
    → reader_of e tree ≡ (if (e == root_of right) then Some (at, 1) else first_of (reader_of e left) (reader_of e right))
past_left tree e at left right is other =
    let rest = if (e == root_of right) then Some (at, 1) else first_of (reader_of e left) (reader_of e right) in
    ap (reader_of e) (is_both tree left right at (sym is)) ∙ ap (λ (b : Bool). if b then Some (at, 0) else rest) (ne_eqb e (root_of left) other)

pub read_at_right : (tree : PlanTree) (e at : ℕ) (left right : PlanTree) → parts_of tree ≡ OverTwo at left right → (e ≡ root_of left → ⊥) → e ≡ root_of right → Some (at, 1) ≡ reader_of e tree
read_at_right tree e at left right is other here =
    let below = first_of (reader_of e left) (reader_of e right) in
    sym (past_left tree e at left right is other ∙ ap (λ (b : Bool). if b then Some (at, 1) else below) (eq-eqb e (root_of right) here))

pub read_below_two : (tree : PlanTree) (e at : ℕ) (left right : PlanTree) (found : Option (ℕ × ℕ)) → parts_of tree ≡ OverTwo at left right → (e ≡ root_of left → ⊥) → (e ≡ root_of right → ⊥)
    → found ≡ first_of (reader_of e left) (reader_of e right) → found ≡ reader_of e tree
read_below_two tree e at left right found is other other_too is_found =
    let below = first_of (reader_of e left) (reader_of e right) in
    is_found ∙ sym (past_left tree e at left right is other ∙ ap (λ (b : Bool). if b then Some (at, 1) else below) (ne_eqb e (root_of right) other_too))
