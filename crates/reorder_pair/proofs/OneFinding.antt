-- There is only one finding about an operator, also as the code stores it; and if a condition fails they don't all
-- hold.
use Rattle.std.proofs.Common.{◌≡◌, ◌↔◌, inl, inr, ℕ, true, false, List, [], ◌∷◌, sym, ap, subst, ◌∙◌}
use Rattle.std.proofs.lemmas.Option.{same_Some}
use Rattle.pact_record.specs.FieldSets.{has_field}
use Rattle.pact_record.proofs.Members.{same_fields, same_tests}
use Rattle.tac_syntax.specs.Contexts.{FieldSet, Has}
use Rattle.tac_syntax.specs.declared.contexts.Context.{Context}
use Rattle.tac_syntax.specs.EmitBounds.{least_emits, most_emits}
use Rattle.tac_syntax.specs.Valid.{WithFields}
use Rattle.tac_flow.specs.Results.{FoundSets, IsTouched, sets_of}
use Rattle.tac_flow.specs.Steps.{Scope}
use Rattle.tac_flow.specs.Views.{found_of, scope_in, sets_in}
use Rattle.plan_trees.specs.Plans.{PlanTree, root_of, subtree_of}
use Rattle.pact_operators.specs.Programs.{ProgramData}
use Rattle.reorder_pair.specs.declared.finding.Found.{Found}
use Rattle.reorder_pair.specs.declared.legality.Condition.{Condition}
use Rattle.reorder_pair.specs.declared.legality.NotLegal.{NotLegal}
use Rattle.reorder_pair.specs.declared.rules.Rule.{Rule}
use Rattle.reorder_pair.specs.Conditions.{AllPass, Fails, FirstFails, Line, Passes, Uses, anchored, keeps_groups, lines, no_common, told, uses_of}
use Rattle.reorder_pair.specs.Legal.{IsConditionOf, IsFoundAt, IsLegal, IsRefusal, lines_at}
use Rattle.reorder_pair.specs.Places.{IsFound, IsUnionOf}
use Rattle.reorder_pair.specs.Rules.{exchanged_by}

-- ---- sets of the same fields

same_set : (s t : FieldSet) → ((k : ℕ) → Has s k ↔ Has t k) → s ≡ t
same_set s t h = λ i k. same_tests (s k) (t k) (h k).0 (h k).1 i

both_by : {A B C : Type 0} → A ↔ C → B ↔ C → A ↔ B
both_by h g = ((λ a. g.1 (h.0 a)), (λ b. h.1 (g.0 b)))

-- ---- findings

module _ (p : ProgramData) (n : ℕ) (before after : PlanTree) where
  scope_one : (f : WithFields) (c d : Context) → IsUnionOf p n before after c → IsUnionOf p n before after d → scope_in f.function f.fields c ≡ scope_in f.function f.fields d
  scope_one f c d h g =
      let left = same_set (has_field c.left) (has_field d.left) (λ k. both_by (h.left k) (g.left k)) in
      let right = same_set (has_field c.right) (has_field d.right) (λ k. both_by (h.right k) (g.right k)) in
      let left_keys = h.left_keys ∙ sym g.left_keys in
      let right_keys = h.right_keys ∙ sym g.right_keys in
      λ i. record { kind = f.function.kind; fields = f.fields; left = left i; right = right i; left_keys = left_keys i; right_keys = right_keys i }

  sets_one : (f : WithFields) (c d : Context) → IsUnionOf p n before after c → IsUnionOf p n before after d → sets_in f c ≡ sets_in f d
  sets_one f c d h g = ap (λ (s : Scope). sets_of s f.function.body) (scope_one f c d h g)

  pub uses_one : (s r : Found) → IsFound p n before after s → IsFound p n before after r → uses_of s ≡ uses_of r
  uses_one s r h g =
      let f = same_Some h.found.called g.found.called (sym h.found.function ∙ g.found.function) in
      let sets : found_of s.sets ≡ found_of r.sets =
      h.found.sets ∙ sets_one h.found.called h.context g.context h.union g.union ∙ ap (λ (w : WithFields). sets_in w g.context) f ∙ sym g.found.sets in
      let touches = λ (k : ℕ). subst (λ (x : FoundSets). Has (has_field s.sets.touched) k ↔ IsTouched x g.found.called.fields g.found.called.function.body k) sets
      (subst (λ (w : WithFields). Has (has_field s.sets.touched) k ↔ IsTouched (found_of s.sets) w.fields w.function.body k) f (h.found.touched k)) in
      let touched = same_set (has_field s.sets.touched) (has_field r.sets.touched) (λ k. both_by (touches k) (g.found.touched k)) in
      let low = h.found.least ∙ ap (λ (w : WithFields). least_emits w.function.body) f ∙ sym g.found.least in
      let high = h.found.most ∙ ap (λ (w : WithFields). most_emits w.function.body) f ∙ sym g.found.most in
      λ i. record { sets = sets i; touched = touched i; low = low i; high = high i }

-- ---- as the code stores them

same_number : (a b : ℕ) → has_field a ≡ has_field b → a ≡ b
same_number a b e = same_fields a b (λ k i. e i k)

same_found : (s r : Found) → uses_of s ≡ uses_of r → s ≡ r
same_found s r e =
    let reads = same_number s.sets.reads r.sets.reads (ap (λ (u : Uses). u.sets.reads) e) in
    let writes = same_number s.sets.writes r.sets.writes (ap (λ (u : Uses). u.sets.writes) e) in
    let control = same_number s.sets.control r.sets.control (ap (λ (u : Uses). u.sets.control) e) in
    let touched = same_number s.sets.touched r.sets.touched (ap (λ (u : Uses). u.touched) e) in
    let anchor_left : s.sets.anchor_left ≡ r.sets.anchor_left = ap (λ (u : Uses). u.sets.anchor_left) e in
    let anchor_right : s.sets.anchor_right ≡ r.sets.anchor_right = ap (λ (u : Uses). u.sets.anchor_right) e in
    let low : s.lo ≡ r.lo = ap (λ (u : Uses). u.low) e in
    let high : s.hi ≡ r.hi = ap (λ (u : Uses). u.high) e in
    λ i. record {
      sets = record { reads = reads i; writes = writes i; control = control i; touched = touched i; anchor_left = anchor_left i; anchor_right = anchor_right i };
      lo = low i;
      hi = high i;
    }

-- There is only one finding about each of the two operators of an exchange.
pub found_one : (p : ProgramData) (plan : PlanTree) (at : ℕ) (rule : Rule) (u l v m : Found) → IsFoundAt p plan at rule u l → IsFoundAt p plan at rule v m → (u ≡ v) × (l ≡ m)
found_one p plan at rule u l v m h k =
    let before = subtree_of at plan in
    let after = exchanged_by rule before in (
      same_found u v (uses_one p (root_of before) before after u v h.found.of_upper k.found.of_upper),
      same_found l m (uses_one p (root_of after) before after l m h.found.of_lower k.found.of_lower),
    )

-- A legal exchange has only one condition.
pub one_condition : (p : ProgramData) (plan : PlanTree) (at : ℕ) (rule : Rule) (c d : Condition) → IsConditionOf p plan at rule c → IsConditionOf p plan at rule d → c ≡ d
one_condition p plan at rule c d h k =
    let sets = found_one p plan at rule c.upper c.lower d.upper d.lower h.legal.found k.legal.found in
    let same_rule = h.same_rule ∙ sym k.same_rule in
    let place = h.place ∙ sym k.place in
    λ i. record { rule = same_rule i; at = place i; upper = sets.0 i; lower = sets.1 i }

-- ---- conditions

pub passes_or_fails : (line : Line) (why : NotLegal) → Passes line → Fails line why → ⊥
passes_or_fails (no_common ours theirs refusal) why p f = p f.0 f.1.one f.1.other
passes_or_fails (anchored true) why p f = let e = f.0 in cc
passes_or_fails (anchored false) why p f = cc
passes_or_fails (keeps_groups mover keys) why p f = f.0 p
passes_or_fails (told holds refusal) why p f = f.0 p

pass_or_first : (rest : List Line) (why : NotLegal) → AllPass rest → FirstFails rest why → ⊥
pass_or_first [] why p f = f
pass_or_first (line ∷ rest) why p (inl f) = passes_or_fails line why p.0 f
pass_or_first (line ∷ rest) why p (inr f) = pass_or_first rest why p.1 f.1

-- A legal exchange has no refusal.
pub legal_or_refused : (p : ProgramData) (plan : PlanTree) (at : ℕ) (rule : Rule) (why : NotLegal) → IsLegal p plan at rule → IsRefusal p plan at rule why → ⊥
legal_or_refused p plan at rule why l (inl r) = r.0 l.2.found.place
legal_or_refused p plan at rule why l (inr r) =
    let legal = l.2 in
    let before = subtree_of at plan in
    let after = exchanged_by rule before in
    let upper = uses_one p (root_of before) before after l.0 r.0 legal.found.found.of_upper r.2.found.of_upper in
    let lower = uses_one p (root_of after) before after l.1 r.1 legal.found.found.of_lower r.2.found.of_lower in
    pass_or_first (lines_at p plan at rule r.0 r.1) why
    (subst (λ (u : Uses). AllPass (lines p rule before after u (uses_of r.1))) upper (subst (λ (u : Uses). AllPass (lines p rule before after (uses_of l.0) u)) lower legal.passes)) r.3
