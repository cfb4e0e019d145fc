-- What the read and write sets promise.
use Rattle.std.proofs.Common.{◌≡◌, ℕ, Bool, true, false, List, [], ◌∷◌, inl, inr, length, refl, sym, ap, subst, ◌∙◌, arith}
use Rattle.std.specs.List.{AllByRecursion, AllZip}
use Rattle.std.proofs.lemmas.Bool.{or_left, or_right, and_from, cases_lt, lt-ltb, not_from_false}
use Rattle.std.proofs.lemmas.List.{get_or_past}
use Rattle.pact_record.specs.declared.values.Value.{Value}
use Rattle.pact_record.specs.declared.values.Value.TheVariants.{Null}
use Rattle.pact_record.specs.Record.{Agree, at_field}
use Rattle.tac_syntax.specs.declared.functions.Kind.{Kind}
use Rattle.tac_syntax.specs.declared.functions.Kind.TheVariants.{Map, Match, Cross, Reduce, CoGroup}
use Rattle.tac_syntax.specs.Rules.{is_cogroup}
use Rattle.tac_syntax.specs.Limits.{value_registers, record_registers}
use Rattle.tac_syntax.specs.Code.{Code}
use Rattle.tac_syntax.specs.Call.{CallInput, of_record, of_pair, of_group, of_groups, start_store, empty_record, Out}
use Rattle.tac_syntax.specs.Exec.{exec}
use Rattle.tac_syntax.proofs.StepsAsRecursion.{Out-exec}
use Rattle.tac_flow.specs.Known.{FieldSet, fields_below, Side, left, right}
use Rattle.tac_flow.specs.Steps.{Scope, fresh, constant, start_state}
use Rattle.tac_flow.specs.Walks.{Note}
use Rattle.tac_flow.specs.Results.{writes_in, common_in, depends_in, control_in, anchored_in, reads_in, notes_of, summary, found_by, by_anchors, sets_of, IsAnchoredOn, IsAlone}
use Rattle.tac_syntax.specs.Forms.{AreAnchoredAt, IsWithin, IsLawful, InputsAgree, HaveAnchors, HasForm, HasFormAlone, anchors, left_records, right_records}
use Rattle.tac_syntax.specs.Contexts.{Has}
use Rattle.tac_syntax.specs.CallInputs.{IsInputOf}
use Rattle.tac_flow.specs.Views.{ports_in}
use Rattle.tac_flow.proofs.ThreeLists.{Each-replicate}
use Rattle.tac_flow.proofs.TwoCalls.{Sub, SameValue, SameRecord, AreCalls, AreTwins}
use Rattle.tac_syntax.specs.WellFormed.{IsWellFormed}
use Rattle.tac_flow.proofs.SmallScopes.{IsSmallScope}
use Rattle.tac_flow.proofs.SetsBelowFields.{start-small}
use Rattle.tac_flow.proofs.SamePaths.{IsTold, body_same}
use Rattle.tac_flow.proofs.LawfulInputs.{calls_of, lists_of}
use Rattle.tac_flow.proofs.BasesOnTheLeft.{walk-left, start-left}
use Rattle.tac_flow.proofs.NotesCover.{IsCovered, are_covered, anchored_left, told_anchored, told_alone}

-- two calls at their beginning
start_twins : (R : FieldSet) (c : Scope) (x y : CallInput) → AreCalls R c x y → AreTwins R c x y [] (start_state c) (start_store c.fields x) (start_store c.fields y)
start_twins R c x y calls = record {
  values = Each-replicate (SameValue R x y 0 [] []) value_registers constant Null Null (record { same = λ _. refl; own = tt; other = tt });
  records = Each-replicate (SameRecord R c.fields x y 0 [] []) record_registers (fresh c) (empty_record c.fields) (empty_record c.fields) (calls.fresh 0 [] []);
  loops = record {
    long = omega arith;
    other_long = omega arith;
    place = λ n. 0;
    there = λ n lt. absurd (omega (arith, lt));
    own = λ n lt. absurd (omega (arith, lt));
    other = λ n lt. absurd (omega (arith, lt));
  };
  input = refl;
  other_input = refl;
  fields = refl;
  other_fields = refl;
}

module _ (c : Scope) (body : Code) (fine : IsWellFormed c.kind c.fields 0 body) (small : IsSmallScope c) where
  -- what holds for each emitted record, step by step, holds for all
  pub told_of : (R : FieldSet) (x y : CallInput) → IsLawful c.kind c.fields (ports_in c) x → IsLawful c.kind c.fields (ports_in c) y → (agree : InputsAgree R x y) → (Good : Note → Type 0) (Rel : List (List Value) → List (List Value) → Type 0)
      → (AreCalls R c x y → IsTold R c x y Good Rel) → AllByRecursion Good (notes_of c body) → Rel [] [] → Rel (Out c.fields body x) (Out c.fields body y)
  told_of R x y h g agree Good Rel told good none =
      let calls = calls_of R c x y h g agree in
      let done = body_same R c x y calls (lists_of R c x y h g agree) small Good Rel (told calls) body [] 0 (start_state c) (start_store c.fields x) (start_store c.fields y) refl fine (start-small c small) good
      (record { twins = start_twins R c x y calls; outputs = none }) in
      subst (λ (l : List (List Value)). Rel l (Out c.fields body y)) (sym (Out-exec c.fields body x))
      (subst (λ (l : List (List Value)). Rel (exec body (start_store c.fields x)).emitted l) (sym (Out-exec c.fields body y)) done.outputs)

  -- ---- anchored on a side

  reads_depends : Sub (depends_in (notes_of c body)) (reads_in c (notes_of c body))
  reads_depends k m = or_left _ _ (or_left _ _ (or_left _ _ (or_left _ _ m)))

  reads_control : Sub (control_in (notes_of c body)) (reads_in c (notes_of c body))
  reads_control k m = or_left _ _ (or_left _ _ (or_left _ _ (or_right _ _ m)))

  reads_common : (k : ℕ) → writes_in (notes_of c body) k ≡ true → common_in c.fields (notes_of c body) k ≡ false → reads_in c (notes_of c body) k ≡ true
  reads_common k m out = or_right _ _ (and_from _ _ m (not_from_false _ out))

  -- the calls have this form on a side
  abbrev FormOn : FieldSet → FieldSet → Side → Type 0
  FormOn reads writes side = HasForm c.kind c.fields (ports_in c) reads writes side (Out c.fields body)

  form_on : (side : Side) → anchored_in side (notes_of c body) ≡ true → FormOn (reads_in c (notes_of c body)) (writes_in (notes_of c body)) side
  form_on side on x y h g agree =
      let ns = notes_of c body in
      told_of (reads_in c ns) x y h g agree (IsCovered (reads_in c ns) (writes_in ns) side) (HaveAnchors (writes_in ns) side x y)
      (λ calls. told_anchored (reads_in c ns) (writes_in ns) c x y calls side)
      (are_covered c.fields (reads_in c ns) (writes_in ns) side ns reads_depends reads_control (λ k m. m) reads_common on)
      ([], tt)

  left_notes : is_cogroup c.kind ≡ false → anchored_in left (notes_of c body) ≡ true
  left_notes single = anchored_left (notes_of c body) (walk-left c single body [] 0 (start_state c) refl tt fine (start-left c single)).1

  -- ---- anchored on neither side

  same_all : (a b : List Value) → length a ≡ c.fields → length b ≡ c.fields → Agree (fields_below c.fields) a b → Agree (λ k. true) a b
  same_all a b wa wb h k m = elim (cases_lt k c.fields) as (λ _. at_field a k ≡ at_field b k) [
    | inl p ↦ h k (lt-ltb k c.fields p)
    | inr p ↦ get_or_past a k Null (omega (arith, wa, p)) ∙ sym (get_or_past b k Null (omega (arith, wb, p)))
  ]

  all_rows : (s : ℕ → Type 0) (as1 bs : List (List Value)) → AllByRecursion (IsWithin c.fields s) as1 → AllByRecursion (IsWithin c.fields s) bs → AllZip (Agree (fields_below c.fields)) as1 bs
      → AllZip (Agree (λ k. true)) as1 bs
  all_rows s [] [] f g h = tt
  all_rows s [] (b ∷ bs) f g h = absurd h
  all_rows s (a ∷ as1) [] f g h = absurd h
  all_rows s (a ∷ as1) (b ∷ bs) f g h = (same_all a b f.0.width g.0.width h.0, all_rows s as1 bs f.1 g.1 h.1)

  agree_all : (x y : CallInput) → IsLawful c.kind c.fields (ports_in c) x → IsLawful c.kind c.fields (ports_in c) y → InputsAgree (fields_below c.fields) x y → InputsAgree (λ k. true) x y
  agree_all x y h g e = record {
    left = all_rows (Has c.left) (left_records x) (left_records y) h.left g.left e.left;
    right = all_rows (Has c.right) (right_records x) (right_records y) h.right g.right e.right;
  }

  all_good : (ns : List Note) → AllByRecursion (λ n. Unit {0}) ns
  all_good [] = tt
  all_good (n ∷ ns) = (tt, all_good ns)

  form_alone : HasFormAlone c.kind c.fields (ports_in c) (fields_below c.fields) (fields_below c.fields) (Out c.fields body)
  form_alone x y h g agree =
      told_of (λ k. true) x y h g (agree_all x y h g agree)
      (λ n. Unit {0}) (AllZip (Agree (fields_below c.fields))) (told_alone c x y (fields_below c.fields)) (all_good (notes_of c body)) tt

  -- ---- all kinds

  -- the side matters only for a CoGroup
  same_anchors : (kind : Kind) (x : CallInput) → is_cogroup kind ≡ false → IsInputOf kind x → anchors right x ≡ anchors left x
  same_anchors kind (of_record row) single h = refl
  same_anchors kind (of_pair l r) single h = refl
  same_anchors kind (of_group key g) single h = refl
  same_anchors CoGroup (of_groups key l r) single h = cc
  same_anchors kind x single h = absurd h

  form_single : is_cogroup c.kind ≡ false → (side : Side) → FormOn (reads_in c (notes_of c body)) (writes_in (notes_of c body)) side
  form_single single left x y h g agree = form_on left (left_notes single) x y h g agree
  form_single single right x y h g agree =
      let found = form_on left (left_notes single) x y h g agree in
      let own = same_anchors c.kind x single h.called in
      let other = same_anchors c.kind y single g.called in (
        found.0,
        subst (λ (l : List (List Value)). AreAnchoredAt (writes_in (notes_of c body)) l (anchors right y) found.0 (Out c.fields body x) (Out c.fields body y)) (sym own)
            (subst (λ (l : List (List Value)). AreAnchoredAt (writes_in (notes_of c body)) (anchors left x) l found.0 (Out c.fields body x) (Out c.fields body y)) (sym other) found.1),
      )

  by_sides : (l r : Bool) → anchored_in left (notes_of c body) ≡ l → anchored_in right (notes_of c body) ≡ r → (side : Side)
      → IsAnchoredOn CoGroup side (by_anchors l r c (summary c.fields (notes_of c body)))
      → FormOn (by_anchors l r c (summary c.fields (notes_of c body))).reads (by_anchors l r c (summary c.fields (notes_of c body))).writes side
  by_sides false false p q left on = cc
  by_sides false false p q right on = cc
  by_sides true false p q left on = form_on left p
  by_sides true false p q right on = cc
  by_sides false true p q left on = cc
  by_sides false true p q right on = form_on right q
  by_sides true true p q left on = form_on left p
  by_sides true true p q right on = form_on right q

  by_kind : (kind : Kind) → c.kind ≡ kind → (side : Side) → IsAnchoredOn kind side (found_by kind c (summary c.fields (notes_of c body)))
      → FormOn (found_by kind c (summary c.fields (notes_of c body))).reads (found_by kind c (summary c.fields (notes_of c body))).writes side
  by_kind Map is side on = form_single (ap is_cogroup is) side
  by_kind Match is side on = form_single (ap is_cogroup is) side
  by_kind Cross is side on = form_single (ap is_cogroup is) side
  by_kind Reduce is side on = form_single (ap is_cogroup is) side
  by_kind CoGroup is side on = by_sides (anchored_in left (notes_of c body)) (anchored_in right (notes_of c body)) refl refl side on

  pub form_of : (side : Side) → IsAnchoredOn c.kind side (sets_of c body) → FormOn (sets_of c body).reads (sets_of c body).writes side
  form_of side on = by_kind c.kind refl side on

  none_by_sides : (l r : Bool) → (by_anchors l r c (summary c.fields (notes_of c body))).anchor_left ≡ false → (by_anchors l r c (summary c.fields (notes_of c body))).anchor_right ≡ false
      → HasFormAlone c.kind c.fields (ports_in c) (by_anchors l r c (summary c.fields (notes_of c body))).reads (by_anchors l r c (summary c.fields (notes_of c body))).writes (Out c.fields body)
  none_by_sides false false p q = form_alone
  none_by_sides true r p q = cc
  none_by_sides false true p q = cc

  none_by_kind : (kind : Kind) → IsAlone kind (found_by kind c (summary c.fields (notes_of c body)))
      → HasFormAlone c.kind c.fields (ports_in c) (found_by kind c (summary c.fields (notes_of c body))).reads (found_by kind c (summary c.fields (notes_of c body))).writes (Out c.fields body)
  none_by_kind Map h = let e = h.groups in cc
  none_by_kind Match h = let e = h.groups in cc
  none_by_kind Cross h = let e = h.groups in cc
  none_by_kind Reduce h = let e = h.groups in cc
  none_by_kind CoGroup h = none_by_sides (anchored_in left (notes_of c body)) (anchored_in right (notes_of c body)) h.left h.right

  pub alone_of : IsAlone c.kind (sets_of c body) → HasFormAlone c.kind c.fields (ports_in c) (sets_of c body).reads (sets_of c body).writes (Out c.fields body)
  alone_of h = none_by_kind c.kind h
