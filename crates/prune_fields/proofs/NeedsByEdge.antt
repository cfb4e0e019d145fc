-- The needed fields by number, edge by edge.
use Rattle.std.proofs.Common.{◌≡◌, ◌≢◌, ◌∙◌, ◌==◌, ◌&&◌, ◌||◌, inl, inr, ℕ, Bool, true, false, ◌++◌, refl, sym, ap, subst}
use Rattle.std.proofs.lemmas.Bool.{cases_Bool, eq-eqb, eqb-true, false_from_ne_true, ne_eqb, or_left, or_right, true≢false}
use Rattle.tac_syntax.specs.Contexts.{FieldSet}
use Rattle.plan_trees.specs.Distinct.{AreDifferent}
use Rattle.plan_trees.specs.Plans.{PlanTree, leaf, over, both, has, nodes, root_of, subtree_of}
use Rattle.plan_trees.proofs.DifferentNumbers.{AreDifferent-parts, IsIn-left, IsIn-right}
use Rattle.plan_trees.proofs.EverySubtree.{other_than}
use Rattle.plan_trees.proofs.NodesOfTrees.{nodes-has}
use Rattle.plan_trees.proofs.SubtreesOfPlans.{has-root, subtree_of-root}
use Rattle.pact_operators.specs.Programs.{ProgramData}
use Rattle.ship_strategy.specs.PlanFacts.{attribute}
use Rattle.prune_fields.specs.Needs.{needs_from, wants_of, within}

-- the needed fields at the root of an input
abbrev pub IsNeededAt : ProgramData → (ℕ → FieldSet) → (whole input : PlanTree) → Type 0
IsNeededAt p needs whole input = needs (root_of input) ≡ within (wants_of p whole (needs (root_of whole))) (attribute p input)

abbrev pub AreNeeds : ProgramData → (ℕ → FieldSet) → PlanTree → Type 0
AreNeeds p needs (leaf n) = Unit {0}
AreNeeds p needs (over n t) = IsNeededAt p needs (over n t) t × AreNeeds p needs t
AreNeeds p needs (both n t u) = IsNeededAt p needs (both n t u) t × IsNeededAt p needs (both n t u) u × AreNeeds p needs t × AreNeeds p needs u

pub needs_root : (p : ProgramData) (above : FieldSet) (t : PlanTree) → needs_from p above t (root_of t) ≡ above
needs_root p above (leaf n) = refl
needs_root p above (over n t) = rw (eq-eqb n n refl) refl
needs_root p above (both n t u) = rw (eq-eqb n n refl) refl

pub are_needs : (p : ProgramData) (needs : ℕ → FieldSet) (t : PlanTree) (above : FieldSet) → AreDifferent (nodes t)
    → ((at : ℕ) → has at t ≡ true → needs at ≡ needs_from p above t at) → AreNeeds p needs t
are_needs p needs (leaf n) above d h = tt
are_needs p needs (over n t) above d h =
    let own : needs n ≡ above = h n (or_left (n == n) (has n t) (eq-eqb n n refl)) ∙ needs_root p above (over n t) in
    let below = within (wants_of p (over n t) above) (attribute p t) in
    let inner : (at : ℕ) → has at t ≡ true → needs at ≡ needs_from p below t at = λ at there.
    let e = other_than n at (nodes t) d.0 (nodes-has at t there) in
    let same : needs_from p above (over n t) at ≡ needs_from p below t at = rw e refl in
    h at (or_right (at == n) (has at t) there) ∙ same in (
      inner (root_of t) (has-root t) ∙ needs_root p below t ∙ ap (λ (s : FieldSet). within (wants_of p (over n t) s) (attribute p t)) (sym own),
      are_needs p needs t below d.1 inner,
    )
are_needs p needs (both n t u) above d h =
    let own : needs n ≡ above = h n (or_left (n == n) (has n t || has n u) (eq-eqb n n refl)) ∙ needs_root p above (both n t u) in
    let parts = AreDifferent-parts (nodes t) (nodes u) d.1 in
    let left_below = within (wants_of p (both n t u) above) (attribute p t) in
    let right_below = within (wants_of p (both n t u) above) (attribute p u) in
    let in_left : (at : ℕ) → has at t ≡ true → needs at ≡ needs_from p left_below t at = λ at there.
    let e = other_than n at (nodes t ++ nodes u) d.0 (IsIn-left at (nodes t) (nodes u) (nodes-has at t there)) in
    let same : needs_from p above (both n t u) at ≡ needs_from p left_below t at = rw (e, there) refl in
    h at (or_right (at == n) (has at t || has at u) (or_left (has at t) (has at u) there)) ∙ same in
    let in_right : (at : ℕ) → has at u ≡ true → needs at ≡ needs_from p right_below u at = λ at there.
    let e = other_than n at (nodes t ++ nodes u) d.0 (IsIn-right at (nodes t) (nodes u) (nodes-has at u there)) in
    let elsewhere = false_from_ne_true (has at t) (λ (l : has at t ≡ true). parts.2 at (nodes-has at t l) (nodes-has at u there)) in
    let same : needs_from p above (both n t u) at ≡ needs_from p right_below u at = rw (e, elsewhere) refl in
    h at (or_right (at == n) (has at t || has at u) (or_right (has at t) (has at u) there)) ∙ same in (
      in_left (root_of t) (has-root t) ∙ needs_root p left_below t
          ∙ ap (λ (s : FieldSet). within (wants_of p (both n t u) s) (attribute p t)) (sym own),
      in_right (root_of u) (has-root u) ∙ needs_root p right_below u
          ∙ ap (λ (s : FieldSet). within (wants_of p (both n t u) s) (attribute p u)) (sym own),
      are_needs p needs t left_below parts.0 in_left,
      are_needs p needs u right_below parts.1 in_right,
    )

-- ---- below the root, only attributes are needed

pub second : (a b : Bool) → (a && b) ≡ true → b ≡ true
second true b e = e
second false b e = absurd (true≢false (sym e))

pub is_attribute : (p : ProgramData) (needs : ℕ → FieldSet) (whole t : PlanTree) (k : ℕ) → IsNeededAt p needs whole t → needs (root_of t) k ≡ true
    → attribute p t k ≡ true
is_attribute p needs whole t k needed e =
    second (wants_of p whole (needs (root_of whole)) k) (attribute p t k) (sym (ap (λ (s : FieldSet). s k) needed) ∙ e)

-- the number is that of an input, or further below
module _ (p : ProgramData) (needs : ℕ → FieldSet) (n k : ℕ) where
  abbrev Holds : PlanTree → Type 0
  Holds t = attribute p (subtree_of n t) k ≡ true

  at_input : (whole t : PlanTree) → IsNeededAt p needs whole t → needs n k ≡ true → (n ≢ root_of t → Holds t) → Holds t
  at_input whole t needed e below = elim (cases_Bool (n == root_of t)) as (λ _. Holds t) [
    | inl here ↦
        let same : n ≡ root_of t = eqb-true n (root_of t) here in
        let is : subtree_of n t ≡ t = ap (λ (m : ℕ). subtree_of m t) same ∙ subtree_of-root t in
        subst (λ (s : PlanTree). attribute p s k ≡ true) (sym is) (is_attribute p needs whole t k needed (subst (λ (m : ℕ). needs m k ≡ true) same e))
    | inr there ↦ below (λ same. true≢false (sym (eq-eqb n (root_of t) same) ∙ there))
  ]

  pub needed_attribute : (t : PlanTree) → AreNeeds p needs t → has n t ≡ true → n ≢ root_of t → needs n k ≡ true → Holds t
  needed_attribute (leaf m) d there other e = absurd (other (eqb-true n m there))
  needed_attribute (over m t) d there other e =
      let f = ne_eqb n m other in
      let in_t : has n t ≡ true = simp f at there in
      rw f (at_input (over m t) t d.0 e (λ o. needed_attribute t d.1 in_t o e))
  needed_attribute (both m t u) d there other e =
      let f = ne_eqb n m other in
      elim (cases_Bool (has n t)) as (λ _. Holds (both m t u)) [
        | inl l ↦ rw (f, l) (at_input (both m t u) t d.0 e (λ o. needed_attribute t d.2 l o e))
        | inr l ↦
            let in_u : has n u ≡ true = simp (f, l) at there in
            rw (f, l) (at_input (both m t u) u d.1 e (λ o. needed_attribute u d.3 in_u o e))
      ]
