-- Two functions of pairs with disjoint sets yield the same records for three records in either order.
use Rattle.std.proofs.Common.{◌≡◌, inl, inr, ℕ, Bool, true, false, cond, List, [], ◌∷◌, length, map, refl, sym, ap, ◌∙◌}
use Rattle.std.proofs.lemmas.Bool.{both_ways, cond_both, false_from_ne_true}
use Rattle.std.specs.Prelude.{flat_map}
use Rattle.std.specs.List.{AllByRecursion, AllZip}
use Rattle.pact_record.specs.declared.values.Value.{Value}
use Rattle.pact_record.specs.declared.values.Value.TheVariants.{Null}
use Rattle.pact_record.specs.Record.{Agree, at_field, joined_record, joined_value}
use Rattle.pact_record.proofs.JoinedRecords.{at_field-joined_record, joined_value-null, joined_value_assoc, length-joined_record, same_fields}
use Rattle.pact_record.proofs.Lists.{AllByRecursion-both}
use Rattle.pact_record.proofs.Permutations.{Perm, as_units, chains, each_moved, is_same, turn}
use Rattle.tac_syntax.specs.Contexts.{FieldSet}
use Rattle.tac_syntax.specs.Forms.{AreAnchored, IsWithin}
use Rattle.pact_operators.specs.Allowed.{Bag}
use Rattle.pact_operators.proofs.WithinFields.{IsCovered, within_larger}
use Rattle.reorder_pair.proofs.FunctionForms.{PairForm, Row}
use Rattle.reorder_pair.proofs.MixedRecords.{at_field-mix, length-mix, mix}
use Rattle.reorder_pair.proofs.PermittedExchanges.{IsUsed, NoConflict, UsedFields}

-- ---- the outputs of a call, derived from those of another

-- an output of the second call, derived from that of the first and the second anchor
from_first : (W : FieldSet) (x y r q : Row) → length r ≡ length y → length q ≡ length y → AreAnchored W x y r q → q ≡ mix W r y
from_first W x y r q e l o =
    same_fields q (mix W r y) (l ∙ sym e ∙ sym (length-mix W r y e))
    (λ i. cond_both (W i) (at_field r i) (at_field y i) (λ v. at_field q i ≡ v) (λ is. sym (o.written i is)) (λ out. o.other_kept i out) ∙ sym (at_field-mix W r y i e))

all_from_first : (fields : ℕ) (W : FieldSet) (x y : Row) (rs qs : Bag) → length y ≡ fields → AllByRecursion (λ o. length o ≡ fields) rs → AllByRecursion (λ o. length o ≡ fields) qs
    → AllZip (AreAnchored W x y) rs qs → qs ≡ map (λ r. mix W r y) rs
all_from_first fields W x y [] [] l a b o = refl
all_from_first fields W x y [] (q ∷ qs) l a b o = absurd o
all_from_first fields W x y (r ∷ rs) [] l a b o = absurd o
all_from_first fields W x y (r ∷ rs) (q ∷ qs) l a b o = λ i. from_first W x y r q (a.0 ∙ sym l) (b.0 ∙ sym l) o.0 i ∷ all_from_first fields W x y rs qs l a.1 b.1 o.1 i

-- an output equals its anchor outside the written fields
record IsKept (fields : ℕ) (W : FieldSet) (x r : Row) : Type 0 where
  pub wide : length r ≡ fields
  pub own : (i : ℕ) → W i ≡ false → at_field r i ≡ at_field x i

all_kept : (fields : ℕ) (W : FieldSet) (x y : Row) (rs qs : Bag) → AllByRecursion (λ o. length o ≡ fields) rs → AllZip (AreAnchored W x y) rs qs → AllByRecursion (IsKept fields W x) rs
all_kept fields W x y [] qs a o = tt
all_kept fields W x y (r ∷ rs) [] a o = absurd o
all_kept fields W x y (r ∷ rs) (q ∷ qs) a o = (record { wide = a.0; own = o.0.kept }, all_kept fields W x y rs qs a.1 o.1)

map_each : {A B : Type 0} (P : A → Type 0) (f g : A → B) (xs : List A) → AllByRecursion P xs → ((x : A) → P x → f x ≡ g x) → map f xs ≡ map g xs
map_each P f g [] h e = refl
map_each P f g (x ∷ xs) h e = λ i. e x h.0 i ∷ map_each P f g xs h.1 e i

-- ---- two functions of pairs: h over g, and g over h

-- The inputs have fields in a, b and c. Each function has the contexts that it may be called in before and after. Their
-- sets are disjoint, h uses no field of the first input, and g none of the last.
pub record AreExchangeable (fields : ℕ) (a b c gl gr hl hr : ℕ → Type 0) (lower upper : UsedFields) (g h : Row → Row → Bag) : Type 0 where
  pub form_g : PairForm fields gl gr lower.reads lower.writes g
  pub form_h : PairForm fields hl hr upper.reads upper.writes h
  pub no_conflict : NoConflict upper lower
  pub side : (i : ℕ) → IsUsed upper i → a i → ⊥
  pub other_side : (i : ℕ) → IsUsed lower i → c i → ⊥
  pub left : IsCovered a gl
  pub middle_g : IsCovered b gr
  pub middle_h : IsCovered b hl
  pub right : IsCovered c hr
  pub out_g : (l m : Row) → IsWithin fields a l → IsWithin fields b m → AllByRecursion (IsWithin fields hl) (g l m)
  pub out_h : (m r : Row) → IsWithin fields b m → IsWithin fields c r → AllByRecursion (IsWithin fields gr) (h m r)

cell_values : (wh wg : Bool) (z o l m r : Value) → (wh ≡ true → wg ≡ false) → (wh ≡ true → l ≡ Null) → (wg ≡ true → r ≡ Null) → (wg ≡ false → o ≡ joined_value l m)
    → (wh ≡ false → z ≡ joined_value m r) → cond wh z (joined_value o r) ≡ cond wg o (joined_value l z)
cell_values true true z o l m r ww ln rn oe ze = absurd (both_ways true (ww refl) refl)
cell_values true false z o l m r ww ln rn oe ze = ap (λ (v : Value). joined_value v z) (sym (ln refl))
cell_values false true z o l m r ww ln rn oe ze = ap (joined_value o) (rn refl) ∙ joined_value-null o
cell_values false false z o l m r ww ln rn oe ze = ap (λ (v : Value). joined_value v r) (oe refl) ∙ joined_value_assoc l m r ∙ ap (joined_value l) (sym (ze refl))

module _ (fields : ℕ) (a b c gl gr hl hr : ℕ → Type 0) (lower upper : UsedFields) (g h : Row → Row → Bag) (x : AreExchangeable fields a b c gl gr hl hr lower upper g h)
    (l m r : Row) (fl : IsWithin fields a l) (fm : IsWithin fields b m) (fr : IsWithin fields c r) where
  abbrev KeptG : Row → Type 0
  KeptG o = IsKept fields lower.writes (joined_record l m) o × IsWithin fields hl o

  abbrev KeptH : Row → Type 0
  KeptH z = IsKept fields upper.writes (joined_record m r) z × IsWithin fields gr z

  left_g : IsWithin fields gl l
  left_g = within_larger fields a gl l x.left fl

  right_g : IsWithin fields gr m
  right_g = within_larger fields b gr m x.middle_g fm

  left_h : IsWithin fields hl m
  left_h = within_larger fields b hl m x.middle_h fm

  right_h : IsWithin fields hr r
  right_h = within_larger fields c hr r x.right fr

  gs : AllByRecursion KeptG (g l m)
  gs =
      AllByRecursion-both (IsKept fields lower.writes (joined_record l m)) (IsWithin fields hl) (g l m)
      (all_kept fields lower.writes (joined_record l m) (joined_record l m) (g l m) (g l m) (x.form_g.wide l m left_g right_g) (x.form_g.outputs l l m m left_g left_g right_g right_g (λ i is. refl) (λ i is. refl)))
      (x.out_g l m fl fm)

  hs : AllByRecursion KeptH (h m r)
  hs =
      AllByRecursion-both (IsKept fields upper.writes (joined_record m r)) (IsWithin fields gr) (h m r)
      (all_kept fields upper.writes (joined_record m r) (joined_record m r) (h m r) (h m r) (x.form_h.wide m r left_h right_h) (x.form_h.outputs m m r r left_h left_h right_h right_h (λ i is. refl) (λ i is. refl)))
      (x.out_h m r fm fr)

  -- the second function reads in an output of the first what it reads in its input
  sees_h : (o : Row) → KeptG o → Agree upper.reads m o
  sees_h o k i is =
      sym (k.0.own i (x.no_conflict.read_write i is) ∙ at_field-joined_record l m i (fl.width ∙ sym fm.width) ∙ ap (λ (v : Value). joined_value v (at_field m i)) (fl.null i (x.side i (inl is))))

  sees_g : (z : Row) → KeptH z → Agree lower.reads m z
  sees_g z k i is =
      let unwritten = false_from_ne_true (upper.writes i) (λ wr. both_ways (lower.reads i) (x.no_conflict.write_read i wr) is) in
      sym (k.0.own i unwritten ∙ at_field-joined_record m r i (fm.width ∙ sym fr.width) ∙ ap (joined_value (at_field m i)) (fr.null i (x.other_side i (inl is))) ∙ joined_value-null (at_field m i))

  -- the result from an output of h for m and r and one of g for l and m
  cell : Row → Row → Row
  cell z o = mix upper.writes z (joined_record o r)

  same_cell : (z o : Row) → KeptH z → KeptG o → mix lower.writes o (joined_record l z) ≡ cell z o
  unfolding cell
  same_cell z o kz ko =
      let jz = fl.width ∙ sym kz.0.wide in
      let jo = ko.0.wide ∙ sym fr.width in
      let lz = ko.0.wide ∙ sym (length-joined_record l z jz ∙ fl.width) in
      let lo = kz.0.wide ∙ sym (length-joined_record o r jo ∙ ko.0.wide) in
      same_fields (mix lower.writes o (joined_record l z)) (mix upper.writes z (joined_record o r)) (length-mix lower.writes o (joined_record l z) lz ∙ ko.0.wide ∙ sym (length-mix upper.writes z (joined_record o r) lo ∙ kz.0.wide))
      (λ i. at_field-mix lower.writes o (joined_record l z) i lz ∙ ap (cond (lower.writes i) (at_field o i)) (at_field-joined_record l z i jz)
      ∙ sym (cell_values (upper.writes i) (lower.writes i) (at_field z i) (at_field o i) (at_field l i) (at_field m i) (at_field r i)
      (x.no_conflict.write_write i) (λ is. fl.null i (x.side i (inr is))) (λ is. fr.null i (x.other_side i (inr is)))
      (λ out. ko.0.own i out ∙ at_field-joined_record l m i (fl.width ∙ sym fm.width)) (λ out. kz.0.own i out ∙ at_field-joined_record m r i (fm.width ∙ sym fr.width)))
      ∙ sym (ap (cond (upper.writes i) (at_field z i)) (at_field-joined_record o r i jo)) ∙ sym (at_field-mix upper.writes z (joined_record o r) i lo))

  h_after : (o : Row) → KeptG o → h o r ≡ map (λ z. cell z o) (h m r)
  unfolding cell
  h_after o k =
      all_from_first fields upper.writes (joined_record m r) (joined_record o r) (h m r) (h o r) (length-joined_record o r (k.0.wide ∙ sym fr.width) ∙ k.0.wide)
      (x.form_h.wide m r left_h right_h) (x.form_h.wide o r k.1 right_h) (x.form_h.outputs m o r r left_h k.1 right_h right_h (sees_h o k) (λ i is. refl))

  g_after : (z : Row) → KeptH z → g l z ≡ map (λ o. cell z o) (g l m)
  g_after z k =
      all_from_first fields lower.writes (joined_record l m) (joined_record l z) (g l m) (g l z) (length-joined_record l z (fl.width ∙ sym k.0.wide) ∙ fl.width)
      (x.form_g.wide l m left_g right_g) (x.form_g.wide l z left_g k.1) (x.form_g.outputs l l m z left_g left_g right_g k.1 (λ i is. refl) (sees_g z k))
      ∙ map_each KeptG (λ o. mix lower.writes o (joined_record l z)) (λ o. cell z o) (g l m) gs (λ o ko. same_cell z o k ko)

  pub for_three : Perm (flat_map (λ o. h o r) (g l m)) (flat_map (λ z. g l z) (h m r))
  for_three =
      chains (each_moved KeptG (λ o. h o r) (λ o. flat_map (λ z. cell z o ∷ []) (h m r)) (g l m) gs (λ o k. is_same (h_after o k ∙ as_units (λ z. cell z o) (h m r))))
      (chains (turn (λ o z. cell z o ∷ []) (g l m) (h m r))
      (each_moved KeptH (λ z. flat_map (λ o. cell z o ∷ []) (g l m)) (λ z. g l z) (h m r) hs (λ z k. is_same (sym (as_units (λ o. cell z o) (g l m)) ∙ sym (g_after z k)))))
