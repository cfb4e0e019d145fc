-- Two calls for groups that agree, record by record, in what is read can be followed side by side.
use Rattle.std.proofs.Common.{◌≡◌, ◌<◌, ◌+◌, ℕ, true, false, List, [], inl, inr, length, get_or, refl, sym, ap, ◌∙◌, arith}
use Rattle.std.specs.List.{AllByRecursion, AllZip}
use Rattle.std.proofs.lemmas.Bool.{or_left, or_right, cases_lt}
use Rattle.std.proofs.lemmas.List.{length-replicate}
use Rattle.std.proofs.lemmas.List.Elements.{AllZip-get_or, length_all_zip}
use Rattle.pact_record.specs.declared.values.Value.{Value}
use Rattle.pact_record.specs.declared.values.Value.TheVariants.{Null}
use Rattle.pact_record.specs.Record.{Agree, at_field, key_of}
use Rattle.pact_record.proofs.Lists.{AllByRecursion-get_or}
use Rattle.pact_record.proofs.JoinedRecords.{at_field-nulls}
use Rattle.tac_syntax.specs.declared.functions.Kind.TheVariants.{Reduce, CoGroup}
use Rattle.tac_syntax.specs.declared.statements.Rec.{Rec}
use Rattle.tac_syntax.specs.declared.statements.Rec.TheVariants.{Reg, Loop, Input, Left, Right, Join, First}
use Rattle.tac_syntax.specs.Call.{of_group, of_groups}
use Rattle.tac_flow.specs.Known.{FieldSet, Side, left, right, some, nowhere, State, fields_below}
use Rattle.tac_flow.specs.Steps.{is_key_at, keys_by, fields_by, held_of}
use Rattle.tac_syntax.specs.Forms.{IsWithin, HaveKey, anchors}
use Rattle.tac_syntax.specs.Contexts.{Has}
use Rattle.tac_syntax.specs.WellFormed.{IsGiven}
use Rattle.tac_flow.proofs.TwoCalls.{anchor_at, Sub, SameRecord, IsCall, AreCalls, given_record}
use Rattle.tac_flow.proofs.StartingRecords.{key_is, key_same, null_outside, empty_same, first_same, scope}

module _ (fields : ℕ) (a b : FieldSet) (ks js : List ℕ) where
  -- ---- one group

  group_call : (key : List Value) (g : List (List Value)) → AllByRecursion (IsWithin fields (Has a)) g → HaveKey ks key g → IsCall (scope Reduce fields a b ks js) (of_group key g)
  group_call key g h e = record { wide = λ side p lt. (AllByRecursion-get_or (IsWithin fields (Has a)) g p [] lt h).width; keys = keys; null = λ side p lt k e. null_outside (AllByRecursion-get_or (IsWithin fields (Has a)) g p [] lt h) k e } where
    keys : (side : Side) (p : ℕ) → p < length g → (at k : ℕ) → is_key_at (keys_by Reduce ks js side) at k ≡ true
        → at_field (anchor_at side (of_group key g) p) k ≡ get_or key at Null
    keys left p lt at k m = key_is ks (get_or g p []) at k m ∙ ap (λ (l : List Value). get_or l at Null) (AllByRecursion-get_or (λ row. key_of ks row ≡ key) g p [] lt e)
    keys right p lt at k m = cc

  -- equal key values, from the records of a list that isn't empty
  key_by : (R : FieldSet) (key other : List Value) (fs : List ℕ) (g h : List (List Value)) (at : ℕ) → 0 < length g → HaveKey fs key g → HaveKey fs other h → AllZip (Agree R) g h
      → Sub (is_key_at fs at) R → get_or key at Null ≡ get_or other at Null
  key_by R key other fs g h at some_row kg kh agree sub =
      let long = length_all_zip (Agree R) g h agree in
      ap (λ (l : List Value). get_or l at Null) (sym (AllByRecursion-get_or (λ row. key_of fs row ≡ key) g 0 [] some_row kg))
      ∙ key_same fs (get_or g 0 []) (get_or h 0 []) at (λ k m. AllZip-get_or (Agree R) g h 0 [] [] agree some_row k (sub k m))
      ∙ ap (λ (l : List Value). get_or l at Null) (AllByRecursion-get_or (λ row. key_of fs row ≡ other) h 0 [] (omega (arith, long, some_row)) kh)

  pub group_calls : (R : FieldSet) (key other : List Value) (g h : List (List Value)) → 0 < length g → AllByRecursion (IsWithin fields (Has a)) g → HaveKey ks key g → AllByRecursion (IsWithin fields (Has a)) h → HaveKey ks other h
      → AllZip (Agree R) g h → AreCalls R (scope Reduce fields a b ks js) (of_group key g) (of_group other h)
  group_calls R key other g h some_row fg kg fh kh agree = record {
    own = group_call key g fg kg;
    other = group_call other h fh kh;
    places = λ side. long;
    agree = λ side p lt k m. AllZip-get_or (Agree R) g h p [] [] agree lt k m;
    same_key = λ at sub. key_by R key other ks g h at some_row kg kh agree (λ k m. sub k (or_left _ _ m));
    fresh = λ depth rows others. empty_same R fields (of_group key g) (of_group other h) depth rows others (some left) a (record {
      place = 0;
      there = some_row;
      in_scope = tt;
      own = record { at = tt; own = λ k e. at_field-nulls fields k ∙ sym (null_outside row k e); long = length-replicate fields Null ∙ sym row.width };
      other = record { at = tt; own = λ k e. at_field-nulls fields k ∙ sym (null_outside col k e); long = length-replicate fields Null ∙ sym col.width };
    });
    given = given;
  } where
    long : length g ≡ length h
    long = length_all_zip (Agree R) g h agree

    row : IsWithin fields (Has a) (get_or g 0 [])
    row = AllByRecursion-get_or (IsWithin fields (Has a)) g 0 [] some_row fg

    col : IsWithin fields (Has a) (get_or h 0 [])
    col = AllByRecursion-get_or (IsWithin fields (Has a)) h 0 [] (omega (arith, long, some_row)) fh

    given : (depth : ℕ) (rows others : List (List Value)) (sides : List Side) (k : State) (from : Rec) → IsGiven Reduce from
        → SameRecord R fields (of_group key g) (of_group other h) depth rows others (held_of (scope Reduce fields a b ks js) sides k from) (given_record (of_group key g) from) (given_record (of_group other h) from)
    given depth rows others sides k (Reg n) i = absurd i
    given depth rows others sides k (Loop name) i = absurd i
    given depth rows others sides k Input i = cc
    given depth rows others sides k Left i = cc
    given depth rows others sides k Right i = cc
    given depth rows others sides k Join i = cc
    given depth rows others sides k First i =
        first_same R fields (of_group key g) (of_group other h) depth rows others (get_or g 0 []) (get_or h 0 []) row.width col.width some_row refl refl

  -- ---- a group on either side

  groups_call : (key : List Value) (l r : List (List Value)) → AllByRecursion (IsWithin fields (Has a)) l → AllByRecursion (IsWithin fields (Has b)) r → HaveKey ks key l → HaveKey js key r
      → IsCall (scope CoGroup fields a b ks js) (of_groups key l r)
  groups_call key l r hl hr kl kr = record { wide = wide; keys = keys; null = null } where
    wide : (side : Side) (p : ℕ) → p < length (anchors side (of_groups key l r)) → length (anchor_at side (of_groups key l r) p) ≡ fields
    wide left p lt = (AllByRecursion-get_or (IsWithin fields (Has a)) l p [] lt hl).width
    wide right p lt = (AllByRecursion-get_or (IsWithin fields (Has b)) r p [] lt hr).width

    null : (side : Side) (p : ℕ) → p < length (anchors side (of_groups key l r)) → (k : ℕ) → fields_by CoGroup a b side k ≡ false → at_field (anchor_at side (of_groups key l r) p) k ≡ Null
    null left p lt k e = null_outside (AllByRecursion-get_or (IsWithin fields (Has a)) l p [] lt hl) k e
    null right p lt k e = null_outside (AllByRecursion-get_or (IsWithin fields (Has b)) r p [] lt hr) k e

    keys : (side : Side) (p : ℕ) → p < length (anchors side (of_groups key l r)) → (at k : ℕ) → is_key_at (keys_by CoGroup ks js side) at k ≡ true
        → at_field (anchor_at side (of_groups key l r) p) k ≡ get_or key at Null
    keys left p lt at k m = key_is ks (get_or l p []) at k m ∙ ap (λ (v : List Value). get_or v at Null) (AllByRecursion-get_or (λ row. key_of ks row ≡ key) l p [] lt kl)
    keys right p lt at k m = key_is js (get_or r p []) at k m ∙ ap (λ (v : List Value). get_or v at Null) (AllByRecursion-get_or (λ row. key_of js row ≡ key) r p [] lt kr)

  pub groups_calls : (R : FieldSet) (key other : List Value) (l r m n : List (List Value)) → 0 < length l + length r
      → AllByRecursion (IsWithin fields (Has a)) l → AllByRecursion (IsWithin fields (Has b)) r → HaveKey ks key l → HaveKey js key r
      → AllByRecursion (IsWithin fields (Has a)) m → AllByRecursion (IsWithin fields (Has b)) n → HaveKey ks other m → HaveKey js other n
      → AllZip (Agree R) l m → AllZip (Agree R) r n → AreCalls R (scope CoGroup fields a b ks js) (of_groups key l r) (of_groups other m n)
  groups_calls R key other l r m n some_row fl fr kl kr fm fn km kn al ar = record {
    own = groups_call key l r fl fr kl kr;
    other = groups_call other m n fm fn km kn;
    places = places;
    agree = at;
    same_key = λ n sub. elim (cases_lt 0 (length l)) as (λ _. get_or key n Null ≡ get_or other n Null) [
      | inl p ↦ key_by R key other ks l m n p kl km al (λ k i. sub k (or_left _ _ i))
      | inr p ↦ by_right n (omega (arith, p, some_row)) (λ k i. sub k (or_right _ _ i))
    ];
    fresh = λ depth rows others. empty_same R fields (of_groups key l r) (of_groups other m n) depth rows others nowhere (fields_below fields) (λ k e. refl);
    given = given;
  } where
    by_right : (at : ℕ) → 0 < length r → Sub (is_key_at js at) R → get_or key at Null ≡ get_or other at Null
    by_right at p sub = key_by R key other js r n at p kr kn ar sub

    places : (side : Side) → length (anchors side (of_groups key l r)) ≡ length (anchors side (of_groups other m n))
    places left = length_all_zip (Agree R) l m al
    places right = length_all_zip (Agree R) r n ar

    at : (side : Side) (p : ℕ) → p < length (anchors side (of_groups key l r)) → (k : ℕ) → R k ≡ true → at_field (anchor_at side (of_groups key l r) p) k ≡ at_field (anchor_at side (of_groups other m n) p) k
    at left p lt k i = AllZip-get_or (Agree R) l m p [] [] al lt k i
    at right p lt k i = AllZip-get_or (Agree R) r n p [] [] ar lt k i

    given : (depth : ℕ) (rows others : List (List Value)) (sides : List Side) (k : State) (from : Rec) → IsGiven CoGroup from
        → SameRecord R fields (of_groups key l r) (of_groups other m n) depth rows others (held_of (scope CoGroup fields a b ks js) sides k from) (given_record (of_groups key l r) from) (given_record (of_groups other m n) from)
    given depth rows others sides k (Reg n) i = absurd i
    given depth rows others sides k (Loop name) i = absurd i
    given depth rows others sides k Input i = cc
    given depth rows others sides k Left i = cc
    given depth rows others sides k Right i = cc
    given depth rows others sides k Join i = cc
    given depth rows others sides k First i = cc
