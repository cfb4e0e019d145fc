-- Whether a tree is unique, decided by the findings about its root.
use Rattle.std.proofs.Common.{◌≡◌, ◌≤◌, ◌↔◌, ◌==◌, ◌||◌, ℕ, Bool, false, if◌then◌else◌, List, slice_get, sym, ap, subst}
use Rattle.std.proofs.lemmas.Bool.{or_parts}
use Rattle.pact_record.specs.FieldSets.{has_field}
use Rattle.tac_syntax.specs.declared.declarations.OpKind.{OpKind}
use Rattle.tac_syntax.specs.declared.declarations.OpKind.TheVariants.{Map, Reduce}
use Rattle.plan_trees.specs.Plans.{PlanTree, leaf, over, both, has, subtree_of}
use Rattle.pact_operators.specs.PlanOps.{kind_at, left_keys_in}
use Rattle.pact_operators.specs.Programs.{ProgramData}
use Rattle.reorder_pair.specs.declared.finding.Found.{Found}
use Rattle.reorder_pair.specs.Conditions.{Uses}
use Rattle.reorder_pair.specs.Places.{IsFound}
use Rattle.reorder_pair.specs.Unique.{AreNoneOf, GivesEachOnce, IsUnique, IsUniqueTree}
use Rattle.reorder_pair.proofs.OneFinding.{uses_one}

-- the conditions on an operator depend only on its greatest number of records and on what it writes
same_once : (q : OpKind) (own keys : List ℕ) (s r : Found) (below : Type 0) → s.hi ≡ r.hi → has_field s.sets.writes ≡ has_field r.sets.writes → GivesEachOnce q own keys s below → GivesEachOnce q own keys r below
same_once Reduce own keys s r below e f h = (subst (λ (n : ℕ). n ≤ 1) e h.0, h.1, subst (AreNoneOf own) f h.2)
same_once Map own keys s r below e f h = (subst (λ (n : ℕ). n ≤ 1) e h.0, subst (AreNoneOf keys) f h.1, h.2)
same_once q own keys s r below e f h = absurd h

module _ (p : ProgramData) (n : ℕ) (t : PlanTree) (keys : List ℕ) where
  abbrev own : List ℕ
  own = left_keys_in (slice_get p.ops n)

  pub told_by_root : (s : Found) (q : OpKind) → kind_at p.ops n ≡ q → IsFound p n (over n t) (over n t) s → (B : Type 0) → B ↔ GivesEachOnce q own keys s (IsUniqueTree p keys t) → B ↔ IsUniqueTree p keys (over n t)
  told_by_root s q e found B h = (
    (λ b. (s, found, subst (λ (k : OpKind). GivesEachOnce k own keys s (IsUniqueTree p keys t)) (sym e) (h.0 b))),
    (λ u.
        let same = uses_one p n (over n t) (over n t) u.0 s u.1 found in
        h.1 (same_once q own keys u.0 s (IsUniqueTree p keys t) (ap (λ (x : Uses). x.high) same) (ap (λ (x : Uses). x.sets.writes) same)
        (subst (λ (k : OpKind). GivesEachOnce k own keys u.0 (IsUniqueTree p keys t)) e u.2))),
  )

-- for a tree that is known to be one over another
pub told_by_tree : (p : ProgramData) (keys : List ℕ) (tree : PlanTree) (n : ℕ) (t : PlanTree) (s : Found) (q : OpKind) → tree ≡ over n t → kind_at p.ops n ≡ q → IsFound p n tree tree s → (B : Type 0)
    → B ↔ GivesEachOnce q (left_keys_in (slice_get p.ops n)) keys s (IsUniqueTree p keys t) → B ↔ IsUniqueTree p keys tree
told_by_tree p keys tree n t s q is e found B h =
    subst (λ (u : PlanTree). B ↔ IsUniqueTree p keys u) (sym is) (told_by_root p n t keys s q e (subst (λ (u : PlanTree). IsFound p n u u s) is found) B h)

-- a number that a tree doesn't have names no operator of it
pub absent-not_unique : (p : ProgramData) (plan : PlanTree) (at : ℕ) (keys : List ℕ) → has at plan ≡ false → IsUnique p plan at keys → ⊥
absent-not_unique p (leaf n) at keys e u = u
absent-not_unique p (over n t) at keys e u =
    let parts = or_parts (at == n) (has at t) e in
    absent-not_unique p t at keys parts.1 (subst (λ (b : Bool). IsUniqueTree p keys (if b then over n t else subtree_of at t)) parts.0 u)
absent-not_unique p (both n t w) at keys e u =
    let parts = or_parts (at == n) (has at t || has at w) e in
    let sides = or_parts (has at t) (has at w) parts.1 in
    let below = subst (λ (b : Bool). IsUniqueTree p keys (if b then both n t w else (if has at t then subtree_of at t else subtree_of at w))) parts.0 u in
    absent-not_unique p w at keys sides.1 (subst (λ (b : Bool). IsUniqueTree p keys (if b then subtree_of at t else subtree_of at w)) sides.0 below)
