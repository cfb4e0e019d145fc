-- The sets found for a tree's root yield the fields that it needs of its inputs.
use Rattle.std.proofs.Common.{◌≡◌, ◌∙◌, ◌↔◌, ◌&&◌, ◌||◌, ◌≢◌, not, ℕ, true, false, IsTrue, Some, slice_get, refl, sym, ap, subst}
use Rattle.std.proofs.lemmas.Bool.{eq-eqb, ne_eqb}
use Rattle.pact_record.specs.FieldSets.{has_field}
use Rattle.pact_record.proofs.Members.{same_tests}
use Rattle.tac_syntax.specs.Contexts.{FieldSet}
use Rattle.tac_flow.specs.declared.found_sets.Sets.{Sets}
use Rattle.tac_flow.specs.Views.{found_of, sets_in}
use Rattle.tac_syntax.specs.declared.contexts.Context.{Context}
use Rattle.tac_syntax.specs.declared.declarations.OpKind.TheVariants.{Source}
use Rattle.tac_syntax.specs.Valid.{WithFields}
use Rattle.pact_operators.specs.PlanOps.{function_in, kind_at, left_keys_in, right_keys_in}
use Rattle.ship_strategy.proofs.PlanSets.{sets_are}
use Rattle.plan_trees.specs.Plans.{PlanTree, leaf, over, both, has, root_of, subtree_of}
use Rattle.plan_trees.proofs.SubtreesOfPlans.{subtree_of-root}
use Rattle.pact_operators.specs.Programs.{HasLeftAttribute, HasRightAttribute, IsProgram, ProgramData}
use Rattle.ship_strategy.specs.PlanFacts.{attribute, left_attribute, right_attribute, sets_at}
use Rattle.ship_strategy.proofs.PlanAttributes.{left_true, right_true}
use Rattle.prune_fields.specs.Needs.{needs_from, root_sets, wants_of, within}

pub left_set : (p : ProgramData) (t : PlanTree) (s : ℕ)
    → ((k : ℕ) → IsTrue (has_field s k) ↔ HasLeftAttribute p.functions p.ops (subtree_of (root_of t) t) k) → has_field s ≡ left_attribute p t
left_set p t s h =
    let g = subst (λ (u : PlanTree). (k : ℕ) → IsTrue (has_field s k) ↔ HasLeftAttribute p.functions p.ops u k) (subtree_of-root t) h in
    λ i k. same_tests (has_field s k) (left_attribute p t k) (λ e. (left_true p t k).1 ((g k).0 e)) (λ e. (g k).1 ((left_true p t k).0 e)) i

pub right_set : (p : ProgramData) (t : PlanTree) (s : ℕ)
    → ((k : ℕ) → IsTrue (has_field s k) ↔ HasRightAttribute p.functions p.ops (subtree_of (root_of t) t) k) → has_field s ≡ right_attribute p t
right_set p t s h =
    let g = subst (λ (u : PlanTree). (k : ℕ) → IsTrue (has_field s k) ↔ HasRightAttribute p.functions p.ops u k) (subtree_of-root t) h in
    λ i k. same_tests (has_field s k) (right_attribute p t k) (λ e. (right_true p t k).1 ((g k).0 e)) (λ e. (g k).1 ((right_true p t k).0 e)) i

pub needs_found : (p : ProgramData) (t : PlanTree) (found : Sets) (left right above less wanted own meet : ℕ) (attr : FieldSet)
    → found_of found ≡ sets_at p (root_of t) (has_field left) (has_field right)
    → has_field left ≡ left_attribute p t → has_field right ≡ right_attribute p t → has_field own ≡ attr
    → ((k : ℕ) → has_field less k ≡ (has_field above k && not (has_field found.writes k)))
    → ((k : ℕ) → has_field wanted k ≡ (has_field found.reads k || has_field less k))
    → ((k : ℕ) → has_field meet k ≡ (has_field wanted k && has_field own k)) → has_field meet ≡ within (wants_of p t (has_field above)) attr
needs_found p t found left right above less wanted own meet attr e l r o m w h =
    let sets : found_of found ≡ root_sets p t = e ∙ (λ i. sets_at p (root_of t) (l i) (r i)) in
    λ i k. (h k ∙ (λ j. (w k ∙ (λ z. has_field found.reads k || m k z)) j && o j k) ∙
    (λ j. ((sets j).reads k || (has_field above k && not ((sets j).writes k))) && attr k)) i

-- from the contracts of the calls for the root
pub root_found : (p : ProgramData) (t : PlanTree) → IsProgram p
    → (v : WithFields) (at : ℕ) (x : Context) (found : Sets) (above less wanted own meet : ℕ) (attr : FieldSet) → at ≡ root_of t
    → (kind_at p.ops (root_of t) ≡ Source → ⊥) → slice_get p.functions (function_in (slice_get p.ops at)) ≡ Some v
    → x.left_keys ≡ left_keys_in (slice_get p.ops at) → x.right_keys ≡ right_keys_in (slice_get p.ops at)
    → found_of found ≡ sets_in v x
    → ((k : ℕ) → IsTrue (has_field x.left k) ↔ HasLeftAttribute p.functions p.ops (subtree_of at t) k)
    → ((k : ℕ) → IsTrue (has_field x.right k) ↔ HasRightAttribute p.functions p.ops (subtree_of at t) k)
    → (has_field x.left ≡ left_attribute p t → has_field x.right ≡ right_attribute p t → has_field own ≡ attr)
    → ((k : ℕ) → has_field less k ≡ (has_field above k && not (has_field found.writes k)))
    → ((k : ℕ) → has_field wanted k ≡ (has_field found.reads k || has_field less k))
    → ((k : ℕ) → has_field meet k ≡ (has_field wanted k && has_field own k)) → has_field meet ≡ within (wants_of p t (has_field above)) attr
root_found p t program v at x found above less wanted own meet attr e operator function left_keys right_keys sets l r pick m w h =
    let left =
    left_set p t x.left (subst (λ (n : ℕ). (k : ℕ) → IsTrue (has_field x.left k) ↔ HasLeftAttribute p.functions p.ops (subtree_of n t) k) e l) in
    let right =
    right_set p t x.right
    (subst (λ (n : ℕ). (k : ℕ) → IsTrue (has_field x.right k) ↔ HasRightAttribute p.functions p.ops (subtree_of n t) k) e r) in
    let is =
    sets_are p program (root_of t) v operator x (found_of found)
    (subst (λ (n : ℕ). slice_get p.functions (function_in (slice_get p.ops n)) ≡ Some v) e function)
    (subst (λ (n : ℕ). x.left_keys ≡ left_keys_in (slice_get p.ops n)) e left_keys)
    (subst (λ (n : ℕ). x.right_keys ≡ right_keys_in (slice_get p.ops n)) e right_keys) sets in
    needs_found p t found x.left x.right above less wanted own meet attr is left right (pick left right) m w h

-- ---- one step down

pub at_root : (p : ProgramData) (above : FieldSet) (s : PlanTree) (at : ℕ) → at ≡ root_of s → needs_from p above s at ≡ above
at_root p above (leaf n) at e = refl
at_root p above (over n t) at e = rw (eq-eqb at n e) refl
at_root p above (both n t u) at e = rw (eq-eqb at n e) refl

-- the parts of the tree, by the inputs of its root
pub below_one : (p : ProgramData) (s t : PlanTree) (n at above own : ℕ) (need : FieldSet) → s ≡ over n t → at ≢ n
    → has_field own ≡ within (wants_of p s (has_field above)) (left_attribute p s) → need ≡ needs_from p (has_field own) t at
    → need ≡ needs_from p (has_field above) s at
below_one p s t n at above own need e other is h =
    let f = ne_eqb at n other in
    let given = subst (λ (u : PlanTree). has_field own ≡ within (wants_of p u (has_field above)) (left_attribute p u)) e is in
    let step : needs_from p (has_field above) (over n t) at ≡ needs_from p (within (wants_of p (over n t) (has_field above)) (attribute p t)) t at =
    rw f refl in
    h ∙ ap (λ (set : FieldSet). needs_from p set t at) given ∙ sym step ∙ ap (λ (u : PlanTree). needs_from p (has_field above) u at) (sym e)

pub below_left : (p : ProgramData) (s t u : PlanTree) (n at above own : ℕ) (need : FieldSet) → s ≡ both n t u → at ≢ n → has at t ≡ true
    → has_field own ≡ within (wants_of p s (has_field above)) (left_attribute p s)
    → need ≡ needs_from p (has_field own) t at → need ≡ needs_from p (has_field above) s at
below_left p s t u n at above own need e other there is h =
    let f = ne_eqb at n other in
    let given = subst (λ (z : PlanTree). has_field own ≡ within (wants_of p z (has_field above)) (left_attribute p z)) e is in
    let step : needs_from p (has_field above) (both n t u) at ≡ needs_from p
    (within (wants_of p (both n t u) (has_field above)) (attribute p t)) t at =
    rw (f, there) refl in
    h ∙ ap (λ (set : FieldSet). needs_from p set t at) given ∙ sym step ∙ ap (λ (z : PlanTree). needs_from p (has_field above) z at) (sym e)

pub below_right : (p : ProgramData) (s t u : PlanTree) (n at above own : ℕ) (need : FieldSet) → s ≡ both n t u → at ≢ n → has at t ≡ false
    → has_field own ≡ within (wants_of p s (has_field above)) (right_attribute p s)
    → need ≡ needs_from p (has_field own) u at → need ≡ needs_from p (has_field above) s at
below_right p s t u n at above own need e other there is h =
    let f = ne_eqb at n other in
    let given = subst (λ (z : PlanTree). has_field own ≡ within (wants_of p z (has_field above)) (right_attribute p z)) e is in
    let step : needs_from p (has_field above) (both n t u) at ≡ needs_from p
    (within (wants_of p (both n t u) (has_field above)) (attribute p u)) u at =
    rw (f, there) refl in
    h ∙ ap (λ (set : FieldSet). needs_from p set u at) given ∙ sym step ∙ ap (λ (z : PlanTree). needs_from p (has_field above) z at) (sym e)
