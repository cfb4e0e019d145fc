-- The findings composed from those in four contexts are the findings in the context.
use Rattle.std.proofs.Common.{◌≡◌, ◌<◌, ◌↔◌, ◌⊎◌, ◌^◌, ◌-◌, inl, inr, ℕ, Bool, true, false, Some, slice_get, nat_lt, refl, sym, ap, subst, ◌∙◌, true≢false, arith}
use Rattle.std.proofs.lemmas.Bool.{cases_lt, le-ltb, lt-ltb}
use Rattle.std.proofs.lemmas.Option.{same_Some}
use Rattle.pact_record.specs.FieldSets.{has_field, IsEmpty}
use Rattle.pact_record.proofs.Members.{has_field-ones, same_fields}
use Rattle.tac_syntax.specs.declared.contexts.Context.{Context}
use Rattle.tac_syntax.specs.declared.functions.Kind.{Kind}
use Rattle.tac_syntax.specs.declared.functions.Kind.TheVariants.{CoGroup}
use Rattle.tac_syntax.specs.Bounded.{Names}
use Rattle.tac_syntax.specs.Contexts.{Has, IsBelow, IsContextOf}
use Rattle.tac_syntax.specs.EmitBounds.{least_emits, most_emits}
use Rattle.tac_syntax.specs.Valid.{IsValid, WithFields}
use Rattle.tac_flow.specs.Results.{FoundSets, IsTouched}
use Rattle.tac_flow.specs.Sharing.{takes_numbers}
use Rattle.tac_flow.specs.Views.{found_of, sets_in}
use Rattle.tac_flow.proofs.SameAtField.{SetsAt}
use Rattle.tac_flow.proofs.SharedSets.{all_fields, empty_is, has_field-zero, sets-at_field}
use Rattle.pact_operators.specs.PlanOps.{function_in}
use Rattle.pact_operators.specs.Programs.{ProgramData}
use Rattle.reorder_pair.specs.declared.corners.Corners.{Corners}
use Rattle.reorder_pair.specs.declared.finding.Found.{Found}
use Rattle.reorder_pair.specs.Corners.{whole, corner, chosen, has_corners, has_corners_by, AreCorners, IsComposed}
use Rattle.reorder_pair.specs.Places.{IsFoundFor, IsOperatorIn}

whole_at : (m : ℕ) (b : Bool) (k : ℕ) → (b ≡ true → k < m) → has_field (whole m b) k ≡ b
whole_at m true k lt = has_field-ones m k ∙ lt-ltb k m (lt refl)
whole_at m false k lt = has_field-zero k

pub whole-all : (m s : ℕ) (b : Bool) → b ≡ true → ((k : ℕ) → has_field s k ≡ nat_lt k m) → s ≡ whole m b
whole-all m s true e h = same_fields s (2 ^ m - 1) (λ k. h k ∙ sym (has_field-ones m k))
whole-all m s false e h = absurd (true≢false (sym e))

pub whole-none : (m s : ℕ) (b : Bool) → b ≡ false → IsEmpty s → s ≡ whole m b
whole-none m s true e h = absurd (true≢false e)
whole-none m s false e h = empty_is s h

within : (m s k : ℕ) → IsBelow m (has_field s) → has_field s k ≡ true → k < m
within m s k below e = elim (cases_lt k m) as (λ _. k < m) [ inl lt ↦ lt | inr le ↦ absurd (true≢false (sym e ∙ below k le)) ]

cornered_group : (kind : Kind) (takes : Bool) → has_corners_by kind takes ≡ true → kind ≡ CoGroup
cornered_group CoGroup takes e = refl
cornered_group kind takes e = absurd (true≢false (sym e))

-- the findings about the function itself
record IsFoundOf (f : WithFields) (c : Context) (s : Found) : Type 0 where
  pub sets : found_of s.sets ≡ sets_in f c
  pub touched : (k : ℕ) → Has (has_field s.sets.touched) k ↔ IsTouched (found_of s.sets) f.fields f.function.body k
  pub least : s.lo ≡ least_emits f.function.body
  pub most : s.hi ≡ most_emits f.function.body

TouchedBy : (t r w : Bool) (N : Type 0) → Type 0
TouchedBy t r w N = (t ≡ true) ↔ ((r ≡ true) ⊎ (w ≡ true) ⊎ N)

module _ (p : ProgramData) (n : ℕ) (f : WithFields) (c : Context) (s : Corners) (valid : IsValid f.function f.fields) (fields : IsContextOf p.fields c) (called : slice_get p.functions (function_in (slice_get p.ops n)) ≡ Some f) (cornered : has_corners f ≡ true) (h : AreCorners p n c s) where
  found_of_it : (d : Context) (x : Found) → IsFoundFor p n d x → IsFoundOf f d x
  found_of_it d x g = subst (λ (w : WithFields). IsFoundOf w d x) (same_Some g.called f (sym g.function ∙ called)) (record { sets = g.sets; touched = g.touched; least = g.least; most = g.most })

  pick : Bool → Bool → Found
  pick x y = chosen x y s.neither s.left s.right s.both

  picked : (x y : Bool) → IsFoundOf f (corner p.fields x y c) (pick x y)
  unfolding pick
  picked false false = found_of_it _ _ h.neither
  picked true false = found_of_it _ _ h.left
  picked false true = found_of_it _ _ h.right
  picked true true = found_of_it _ _ h.both

  chosen_is : (g : Found → Bool) (x y : Bool) → chosen x y (g s.neither) (g s.left) (g s.right) (g s.both) ≡ g (pick x y)
  unfolding pick
  chosen_is g false false = refl
  chosen_is g true false = refl
  chosen_is g false true = refl
  chosen_is g true true = refl

  group : f.function.kind ≡ CoGroup
  group = cornered_group f.function.kind (takes_numbers f.function.body) cornered

  -- the finding that is chosen at a field
  there : ℕ → Found
  there k = pick (has_field c.left k) (has_field c.right k)

  there_is : (k : ℕ) → IsFoundOf f (corner p.fields (has_field c.left k) (has_field c.right k) c) (there k)
  unfolding there
  there_is k = picked (has_field c.left k) (has_field c.right k)

  at_field : (k : ℕ) → SetsAt k (sets_in f (corner p.fields (has_field c.left k) (has_field c.right k) c)) (sets_in f c)
  at_field k = sets-at_field f c (whole p.fields (has_field c.left k)) (whole p.fields (has_field c.right k)) k valid group
      (whole_at p.fields (has_field c.left k) k (within p.fields c.left k fields.left)) (whole_at p.fields (has_field c.right k) k (within p.fields c.right k fields.right))

  -- the anchors are those in any of the four contexts
  at_none : SetsAt p.fields (sets_in f (corner p.fields false false c)) (sets_in f c)
  at_none = sets-at_field f c 0 0 p.fields valid group (has_field-zero p.fields ∙ sym (fields.left p.fields (omega arith))) (has_field-zero p.fields ∙ sym (fields.right p.fields (omega arith)))

  module _ (r : Found) (is : IsComposed c s r) where
    reads_there : (k : ℕ) → has_field r.sets.reads k ≡ has_field (there k).sets.reads k
    unfolding there
    reads_there k = is.reads k ∙ chosen_is (λ x. has_field x.sets.reads k) (has_field c.left k) (has_field c.right k)

    writes_there : (k : ℕ) → has_field r.sets.writes k ≡ has_field (there k).sets.writes k
    unfolding there
    writes_there k = is.writes k ∙ chosen_is (λ x. has_field x.sets.writes k) (has_field c.left k) (has_field c.right k)

    control_there : (k : ℕ) → has_field r.sets.control k ≡ has_field (there k).sets.control k
    unfolding there
    control_there k = is.control k ∙ chosen_is (λ x. has_field x.sets.control k) (has_field c.left k) (has_field c.right k)

    touched_there : (k : ℕ) → has_field r.sets.touched k ≡ has_field (there k).sets.touched k
    unfolding there
    touched_there k = is.touched k ∙ chosen_is (λ x. has_field x.sets.touched k) (has_field c.left k) (has_field c.right k)

    composed_at : (k : ℕ) → SetsAt k (found_of r.sets) (sets_in f c)
    composed_at k =
        let sets = (there_is k).sets in
        let same = at_field k in
        let none = (picked false false).sets in
        record {
          reads = reads_there k ∙ ap (λ (x : FoundSets). x.reads k) sets ∙ same.reads;
          writes = writes_there k ∙ ap (λ (x : FoundSets). x.writes k) sets ∙ same.writes;
          control = control_there k ∙ ap (λ (x : FoundSets). x.control k) sets ∙ same.control;
          anchor_left = is.anchor_left ∙ anchors_left ∙ at_none.anchor_left;
          anchor_right = is.anchor_right ∙ anchors_right ∙ at_none.anchor_right;
        } where
          anchors_left : s.neither.sets.anchor_left ≡ (sets_in f (corner p.fields false false c)).anchor_left
          anchors_left = ap (λ (x : FoundSets). x.anchor_left) (found_of_it _ _ h.neither).sets

          anchors_right : s.neither.sets.anchor_right ≡ (sets_in f (corner p.fields false false c)).anchor_right
          anchors_right = ap (λ (x : FoundSets). x.anchor_right) (found_of_it _ _ h.neither).sets

    touched_at : (k : ℕ) → Has (has_field r.sets.touched) k ↔ IsTouched (found_of r.sets) f.fields f.function.body k
    unfolding TouchedBy
    touched_at k =
        let N = Names f.fields k f.function.body in
        let w = has_field (there k).sets.writes k in
        let t = has_field (there k).sets.touched k in
        subst (λ (b : Bool). TouchedBy b (has_field r.sets.reads k) (has_field r.sets.writes k) N) (sym (touched_there k))
        (subst (λ (b : Bool). TouchedBy t b (has_field r.sets.writes k) N) (sym (reads_there k))
        (subst (λ (b : Bool). TouchedBy t (has_field (there k).sets.reads k) b N) (sym (writes_there k)) ((there_is k).touched k)))

    pub composed-found : IsFoundFor p n c r
    composed-found =
        let none = found_of_it _ _ h.neither in
        record {
          called = f;
          function = called;
          sets = all_fields (found_of r.sets) (sets_in f c) composed_at;
          touched = touched_at;
          least = is.lo ∙ none.least;
          most = is.hi ∙ none.most;
        }

-- ---- the contexts under which findings are kept

whole_below : (m : ℕ) (b : Bool) → IsBelow m (has_field (whole m b))
whole_below m true k le = has_field-ones m k ∙ le-ltb k m le
whole_below m false k le = has_field-zero k

pub corner-operator : (p : ProgramData) (n m : ℕ) (l r : Bool) (c d : Context) → m ≡ p.fields → d ≡ corner m l r c → IsOperatorIn p n c → IsOperatorIn p n d
corner-operator p n m l r c d same is h =
    subst (IsOperatorIn p n) (sym is)
    (record {
      operator = h.operator;
      fields = subst (λ (z : ℕ). IsContextOf p.fields (corner z l r c)) (sym same)
          (record { left = whole_below p.fields l; right = whole_below p.fields r; left_keys = h.fields.left_keys; right_keys = h.fields.right_keys });
    })

pub shared-found : (p : ProgramData) (n : ℕ) (f : WithFields) (c d : Context) → slice_get p.functions (function_in (slice_get p.ops n)) ≡ Some f → sets_in f d ≡ sets_in f c → (s : Found) → IsFoundFor p n d s → IsFoundFor p n c s
shared-found p n f c d is same s g = record {
  called = g.called;
  function = g.function;
  sets = g.sets ∙ subst (λ (w : WithFields). sets_in w d ≡ sets_in w c) (sym (same_Some g.called f (sym g.function ∙ is))) same;
  touched = g.touched;
  least = g.least;
  most = g.most;
}
