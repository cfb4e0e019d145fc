-- A walk over a plan enters the needed fields of each of its numbers.
use Rattle.std.proofs.Common.{◌≡◌, ◌==◌, ◌∙◌, inl, inr, ℕ, true, false, refl, sym, ap, subst}
use Rattle.std.proofs.lemmas.Bool.{cases_Bool, or_parts}
use Rattle.tac_syntax.specs.Contexts.{FieldSet}
use Rattle.plan_trees.specs.Plans.{PlanTree, leaf, over, both, has}
use Rattle.pact_operators.specs.Programs.{ProgramData}
use Rattle.ship_strategy.specs.PlanFacts.{attribute, left_attribute, right_attribute}
use Rattle.prune_fields.specs.Needs.{entered, needs_from, put, wants_of, within}

-- the fields that are needed of an input
abbrev on_input : ProgramData → FieldSet → (whole input : PlanTree) → FieldSet
on_input p above whole input = within (wants_of p whole above) (attribute p input)

entered_else : (p : ProgramData) (above : FieldSet) (t : PlanTree) (old : ℕ → FieldSet) (k : ℕ) → has k t ≡ false → entered p above t old k ≡ old k
entered_else p above (leaf n) old k h = rw h refl
entered_else p above (over n t) old k h =
    let q = or_parts (k == n) (has k t) h in rw q.0 (entered_else p (on_input p above (over n t) t) t old k q.1)
entered_else p above (both n t u) old k h =
    let q = or_parts (k == n) _ h in
    let r = or_parts (has k t) (has k u) q.1 in
    let below = entered p (on_input p above (both n t u) u) u old in
    rw q.0 (entered_else p (on_input p above (both n t u) t) t below k r.0 ∙ entered_else p (on_input p above (both n t u) u) u old k r.1)

pub entered_at : (p : ProgramData) (above : FieldSet) (t : PlanTree) (old : ℕ → FieldSet) (k : ℕ) → has k t ≡ true
    → entered p above t old k ≡ needs_from p above t k
entered_at p above (leaf n) old k h = rw h refl
entered_at p above (over n t) old k h =
    elim (cases_Bool (k == n)) as (λ _. entered p above (over n t) old k ≡ needs_from p above (over n t) k) [
      | inl e ↦ rw e refl
      | inr e ↦ rw e (entered_at p (on_input p above (over n t) t) t old k (simp e at h))
    ]
entered_at p above (both n t u) old k h =
    let first = on_input p above (both n t u) t in
    let second = on_input p above (both n t u) u in
    let below = entered p second u old in
    elim (cases_Bool (k == n)) as (λ _. entered p above (both n t u) old k ≡ needs_from p above (both n t u) k) [
      | inl e ↦ rw e refl
      | inr e ↦ elim (cases_Bool (has k t)) as (λ _. entered p above (both n t u) old k ≡ needs_from p above (both n t u) k) [
        | inl l ↦ rw (e, l) (entered_at p first t below k l)
        | inr l ↦ rw (e, l) (entered_else p first t below k l ∙ entered_at p second u old k (simp (e, l) at h))
      ]
    ]

-- ---- at each root, from the findings for it

pub entered_leaf : (p : ProgramData) (s : PlanTree) (n : ℕ) (above : FieldSet) (old new : ℕ → FieldSet) → s ≡ leaf n
    → new ≡ put n above old → new ≡ entered p above s old
entered_leaf p s n above old new is e = e ∙ ap (λ (z : PlanTree). entered p above z old) (sym is)

pub entered_over : (p : ProgramData) (s t : PlanTree) (n : ℕ) (above own : FieldSet) (old below new : ℕ → FieldSet) → s ≡ over n t
    → own ≡ within (wants_of p s above) (left_attribute p s) → below ≡ entered p own t old → new ≡ put n above below
    → new ≡ entered p above s old
entered_over p s t n above own old below new is e b h =
    let given = subst (λ (z : PlanTree). own ≡ within (wants_of p z above) (left_attribute p z)) is e in
    h ∙ ap (put n above) (b ∙ ap (λ (set : FieldSet). entered p set t old) given) ∙ ap (λ (z : PlanTree). entered p above z old) (sym is)

pub entered_both : (p : ProgramData) (s t u : PlanTree) (n : ℕ) (above l r : FieldSet) (old first second new : ℕ → FieldSet) → s ≡ both n t u
    → l ≡ within (wants_of p s above) (left_attribute p s) → r ≡ within (wants_of p s above) (right_attribute p s)
    → first ≡ entered p r u old → second ≡ entered p l t first → new ≡ put n above second → new ≡ entered p above s old
entered_both p s t u n above l r old first second new is el er a b h =
    let left = subst (λ (z : PlanTree). l ≡ within (wants_of p z above) (left_attribute p z)) is el in
    let right = subst (λ (z : PlanTree). r ≡ within (wants_of p z above) (right_attribute p z)) is er in
    let one : first ≡ entered p (on_input p above (both n t u) u) u old = a ∙ ap (λ (set : FieldSet). entered p set u old) right in
    let two : second ≡ entered p (on_input p above (both n t u) t) t (entered p (on_input p above (both n t u) u) u old) =
    b ∙ (λ i. entered p (left i) t (one i)) in
    h ∙ ap (put n above) two ∙ ap (λ (z : PlanTree). entered p above z old) (sym is)
