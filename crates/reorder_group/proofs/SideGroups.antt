-- A Map over what a grouping function emits for one key, and under it.
use Rattle.std.proofs.Common.{◌≡◌, ◌<◌, ◌≤◌, ◌+◌, ◌⊎◌, inl, inr, ℕ, zero, suc, false, List, [], ◌∷◌, ◌++◌, length, get_or, refl, sym, ap, subst, ◌∙◌, arith}
use Rattle.std.proofs.lemmas.List.{nil_from_length}
use Rattle.std.specs.Prelude.{flat_map}
use Rattle.std.specs.List.{AllByRecursion, AllZip}
use Rattle.std.proofs.lemmas.Bool.{both_ways, cases_Bool, false_from_ne_true}
use Rattle.std.proofs.lemmas.List.Elements.{AllZip-get_or}
use Rattle.std.proofs.lemmas.Slice.Zip.{AllZip-long}
use Rattle.pact_record.specs.Keys.{is_listed}
use Rattle.pact_record.specs.Record.{Agree, at_field, key_of}
use Rattle.pact_record.proofs.JoinedRecords.{same_fields}
use Rattle.pact_record.proofs.Lists.{AllByRecursion-get_or, AllByRecursion-weaker}
use Rattle.tac_syntax.specs.Contexts.{FieldSet, Has}
use Rattle.tac_syntax.specs.Forms.{AreAnchored, AreAnchoredAt, HaveKey, IsWithin}
use Rattle.pact_operators.specs.Allowed.{Bag}
use Rattle.pact_operators.proofs.WithinFields.{agree_self, same_key_of}
use Rattle.reorder_pair.proofs.FunctionForms.{OneForm, Row}
use Rattle.reorder_pair.proofs.PermittedExchanges.{NoConflict, UsedFields}
use Rattle.reorder_group.proofs.KeptGroups.{Agree-keys, KeepsRecords}

-- A Map and an operator that groups change places on one side of that operator. The records that reach the lower of the
-- two on that side are in `below`. Over them, before or after, the Map is called for records in `for_each`, and the
-- operator for groups of records in `for_group`.
pub record Move : Type 1 where
  pub keys : List ℕ
  pub other_keys : List ℕ
  pub below : ℕ → Type 0
  pub for_each : ℕ → Type 0
  pub for_group : ℕ → Type 0
  -- the records of the other side
  pub other : Row → Type 0
  pub upper : UsedFields
  pub lower : UsedFields
  pub each : Row → Bag
  -- for a key: its records on the side of the move, and those on the other side
  pub group : Row → Bag → Bag → Bag

pub record IsCall (fields : ℕ) (m : Move) (set : ℕ → Type 0) (key : Row) (xs zs : Bag) : Type 0 where
  pub some : 0 < length xs + length zs
  pub fit : AllByRecursion (IsWithin fields set) xs
  pub fit_others : AllByRecursion m.other zs
  pub keyed : HaveKey m.keys key xs
  pub keyed_others : HaveKey m.other_keys key zs

-- what is known of the two
pub record IsMove (fields : ℕ) (m : Move) : Type 0 where
  pub form_each : OneForm fields m.for_each m.upper.reads m.upper.writes m.each
  pub form_group : (k : Row) (xs ys zs : Bag) → IsCall fields m m.for_group k xs zs → IsCall fields m m.for_group k ys zs → AllZip (Agree m.lower.reads) xs ys
      → (places : List ℕ) × AreAnchoredAt m.lower.writes xs ys places (m.group k xs zs) (m.group k ys zs)
  pub below_each : (r : Row) → IsWithin fields m.below r → IsWithin fields m.for_each r
  pub below_group : (r : Row) → IsWithin fields m.below r → IsWithin fields m.for_group r
  pub out_each : (r : Row) → IsWithin fields m.below r → AllByRecursion (IsWithin fields m.for_group) (m.each r)
  pub out_group : (k : Row) (xs zs : Bag) → IsCall fields m m.below k xs zs → AllByRecursion (IsWithin fields m.for_each) (m.group k xs zs)
  pub wide_group : (k : Row) (xs zs : Bag) → IsCall fields m m.for_group k xs zs → AllByRecursion (λ o. length o ≡ fields) (m.group k xs zs)
  pub no_conflict : NoConflict m.upper m.lower
  pub keys_read : AllByRecursion (Has m.lower.reads) m.keys
  pub keeps : KeepsRecords fields m.for_each (is_listed m.keys) m.each

-- ---- lists of one record, and of none

pub one_record : (l : Bag) → length l ≡ 1 → (w : Row) × (l ≡ w ∷ [])
one_record [] e = absurd (omega (arith, e))
one_record (w ∷ []) e = (w, refl)
one_record (w ∷ v ∷ l) e = absurd (omega (arith, e))

beside_one : (P : Row → Row → Type 0) (s : Row) (l : Bag) → AllZip P (s ∷ []) l → (w : Row) × (l ≡ w ∷ []) × P s w
beside_one P s [] h = absurd h
beside_one P s (w ∷ []) h = (w, refl, h.0)
beside_one P s (w ∷ v ∷ l) h = absurd h.1

beside_none : (P : Row → Row → Type 0) (l : Bag) → AllZip P [] l → l ≡ []
beside_none P [] h = refl
beside_none P (w ∷ l) h = absurd h

-- without a record to begin as there is no output
none_anchored : (W : FieldSet) (ps : List ℕ) (rs qs : Bag) → AreAnchoredAt W [] [] ps rs qs → rs ≡ []
none_anchored W [] [] [] h = refl
none_anchored W (p ∷ ps) (r ∷ rs) (q ∷ qs) h = absurd (omega (arith, h.0))
none_anchored W ps rs qs h = absurd h

module _ (fields : ℕ) (m : Move) (x : IsMove fields m) where
  -- the Map emits one record
  abbrev pub GivesOne : Row → Row → Type 0
  GivesOne r s = m.each r ≡ s ∷ []

  abbrev pub GivesNone : Row → Type 0
  GivesNone r = m.each r ≡ []

  -- ---- the one record that the Map emits

  one_keeps : (r s : Row) → IsWithin fields m.for_each r → GivesOne r s → (i : ℕ) → m.upper.writes i ≡ false → at_field s i ≡ at_field r i
  one_keeps r s fit one i out = (subst (λ (l : Bag). AllZip (AreAnchored m.upper.writes r r) l l) one (x.form_each.outputs r r fit fit (λ j is. refl))).0.kept i out

  one_agrees : (r s : Row) → IsWithin fields m.for_each r → GivesOne r s → Agree m.lower.reads r s
  one_agrees r s fit one i is = sym (one_keeps r s fit one i (false_from_ne_true (m.upper.writes i) (λ w. both_ways (m.lower.reads i) (x.no_conflict.write_read i w) is)))

  pub one_keyed : (r s : Row) → IsWithin fields m.for_each r → GivesOne r s → key_of m.keys r ≡ key_of m.keys s
  one_keyed r s fit one = same_key_of m.lower.reads m.keys r s x.keys_read (one_agrees r s fit one)

  -- if an output o begins as r, the Map emits for o the output q that begins as what it emits for r
  one_of_output : (r s o q : Row) → IsWithin fields m.for_each r → IsWithin fields m.for_each o → length q ≡ fields → GivesOne r s → AreAnchored m.lower.writes r s o q → GivesOne o q
  one_of_output r s o q fit_r fit_o wide one on =
      let W = m.upper.writes in
      let V = m.lower.writes in
      let agree : Agree m.upper.reads r o = λ i is. sym (on.kept i (x.no_conflict.read_write i is)) in
      let w = beside_one (AreAnchored W r o) s (m.each o) (subst (λ (l : Bag). AllZip (AreAnchored W r o) l (m.each o)) one (x.form_each.outputs r o fit_r fit_o agree)) in
      let same : w.0 ≡ q = same_fields w.0 q ((subst (AllByRecursion (λ v. length v ≡ fields)) w.1 (x.form_each.wide o fit_o)).0 ∙ sym wide)
      (λ i. elim (cases_Bool (W i)) as (λ _. at_field w.0 i ≡ at_field q i) [
        | inl is ↦ sym (w.2.written i is) ∙ sym (on.other_kept i (x.no_conflict.write_write i is))
        | inr out ↦ w.2.other_kept i out ∙ elim (cases_Bool (V i)) as (λ _. at_field o i ≡ at_field q i) [
          | inl is ↦ on.written i is
          | inr off ↦ on.kept i off ∙ sym (one_keeps r s fit_r one i out) ∙ sym (on.other_kept i off)
        ]
      ]) in
      w.1 ∙ ap (λ (v : Row). v ∷ []) same

  each_of_outputs : (xs ys : Bag) → AllByRecursion (IsWithin fields m.for_each) xs → AllZip GivesOne xs ys → (ps : List ℕ) (os qs : Bag) → AllByRecursion (IsWithin fields m.for_each) os
      → AllByRecursion (λ q. length q ≡ fields) qs → AreAnchoredAt m.lower.writes xs ys ps os qs → flat_map m.each os ≡ qs
  each_of_outputs xs ys fit ones [] [] [] fit_os wide on = refl
  each_of_outputs xs ys fit ones (p ∷ ps) (o ∷ os) (q ∷ qs) fit_os wide on =
      let one = one_of_output (get_or xs p []) (get_or ys p []) o q (AllByRecursion-get_or (IsWithin fields m.for_each) xs p [] on.0 fit) fit_os.0 wide.0 (AllZip-get_or GivesOne xs ys p [] [] ones on.0) on.1 in
      λ i. one i ++ each_of_outputs xs ys fit ones ps os qs fit_os.1 wide.1 on.2 i
  each_of_outputs xs ys fit ones ps os qs fit_os wide on = absurd on

  -- if it emits nothing for each record it emits nothing for an output
  none_of_outputs : (xs : Bag) → AllByRecursion (IsWithin fields m.for_each) xs → AllByRecursion GivesNone xs → (ps : List ℕ) (os qs : Bag) → AllByRecursion (IsWithin fields m.for_each) os
      → AreAnchoredAt m.lower.writes xs xs ps os qs → flat_map m.each os ≡ []
  none_of_outputs xs fit nones [] [] [] fit_os on = refl
  none_of_outputs xs fit nones (p ∷ ps) (o ∷ os) (q ∷ qs) fit_os on =
      let r = get_or xs p [] in
      let W = m.upper.writes in
      let agree : Agree m.upper.reads r o = λ i is. sym (on.1.kept i (x.no_conflict.read_write i is)) in
      let none = beside_none (AreAnchored W r o) (m.each o) (subst (λ (l : Bag). AllZip (AreAnchored W r o) l (m.each o)) (AllByRecursion-get_or GivesNone xs p [] on.0 nones)
      (x.form_each.outputs r o (AllByRecursion-get_or (IsWithin fields m.for_each) xs p [] on.0 fit) fit_os.0 agree)) in
      λ i. none i ++ none_of_outputs xs fit nones ps os qs fit_os.1 on.2 i
  none_of_outputs xs fit nones ps os qs fit_os on = absurd on

  -- ---- a group

  all_for_each : (xs : Bag) → AllByRecursion (IsWithin fields m.below) xs → AllByRecursion (IsWithin fields m.for_each) xs
  all_for_each xs fit = AllByRecursion-weaker (IsWithin fields m.below) (IsWithin fields m.for_each) xs x.below_each fit

  call_before : (k : Row) (xs zs : Bag) → IsCall fields m m.below k xs zs → IsCall fields m m.for_group k xs zs
  call_before k xs zs c = record {
    some = c.some;
    fit = AllByRecursion-weaker (IsWithin fields m.below) (IsWithin fields m.for_group) xs x.below_group c.fit;
    fit_others = c.fit_others;
    keyed = c.keyed;
    keyed_others = c.keyed_others;
  }

  ones_agree : (xs ys : Bag) → AllByRecursion (IsWithin fields m.below) xs → AllZip GivesOne xs ys → AllZip (Agree m.lower.reads) xs ys
  ones_agree [] [] fit ones = tt
  ones_agree [] (y ∷ ys) fit ones = absurd ones
  ones_agree (r ∷ xs) [] fit ones = absurd ones
  ones_agree (r ∷ xs) (y ∷ ys) fit ones = (one_agrees r y (x.below_each r fit.0) ones.0, ones_agree xs ys fit.1 ones.1)

  ones_fit : (xs ys : Bag) → AllByRecursion (IsWithin fields m.below) xs → AllZip GivesOne xs ys → AllByRecursion (IsWithin fields m.for_group) ys
  ones_fit [] [] fit ones = tt
  ones_fit [] (y ∷ ys) fit ones = absurd ones
  ones_fit (r ∷ xs) [] fit ones = absurd ones
  ones_fit (r ∷ xs) (y ∷ ys) fit ones = ((subst (AllByRecursion (IsWithin fields m.for_group)) ones.0 (x.out_each r fit.0)).0, ones_fit xs ys fit.1 ones.1)

  ones_keyed : (k : Row) (xs ys : Bag) → AllByRecursion (IsWithin fields m.below) xs → HaveKey m.keys k xs → AllZip GivesOne xs ys → HaveKey m.keys k ys
  ones_keyed k [] [] fit keyed ones = tt
  ones_keyed k [] (y ∷ ys) fit keyed ones = absurd ones
  ones_keyed k (r ∷ xs) [] fit keyed ones = absurd ones
  ones_keyed k (r ∷ xs) (y ∷ ys) fit keyed ones = (sym (one_keyed r y (x.below_each r fit.0) ones.0) ∙ keyed.0, ones_keyed k xs ys fit.1 keyed.1 ones.1)

  pub flat_map-ones : (xs ys : Bag) → AllZip GivesOne xs ys → flat_map m.each xs ≡ ys
  flat_map-ones [] [] ones = refl
  flat_map-ones [] (y ∷ ys) ones = absurd ones
  flat_map-ones (r ∷ xs) [] ones = absurd ones
  flat_map-ones (r ∷ xs) (y ∷ ys) ones = λ i. ones.0 i ++ flat_map-ones xs ys ones.1 i

  pub flat_map-nones : (xs : Bag) → AllByRecursion GivesNone xs → flat_map m.each xs ≡ []
  flat_map-nones [] nones = refl
  flat_map-nones (r ∷ xs) nones = λ i. nones.0 i ++ flat_map-nones xs nones.1 i

  -- the Map emits one record for each record of the group
  pub group_of_ones : (k : Row) (xs ys zs : Bag) → IsCall fields m m.below k xs zs → AllZip GivesOne xs ys → flat_map m.each (m.group k xs zs) ≡ m.group k ys zs
  group_of_ones k xs ys zs c ones =
      let before = call_before k xs zs c in
      let now : IsCall fields m m.for_group k ys zs = record {
        some = omega (arith, c.some, AllZip-long GivesOne xs ys ones);
        fit = ones_fit xs ys c.fit ones;
        fit_others = c.fit_others;
        keyed = ones_keyed k xs ys c.fit c.keyed ones;
        keyed_others = c.keyed_others;
      } in
      let on = x.form_group k xs ys zs before now (ones_agree xs ys c.fit ones) in
      each_of_outputs xs ys (all_for_each xs c.fit) ones on.0 (m.group k xs zs) (m.group k ys zs) (x.out_group k xs zs c) (x.wide_group k ys zs now) on.1

  -- it emits none for each record of the group
  pub group_of_nones : (k : Row) (xs zs : Bag) → IsCall fields m m.below k xs zs → AllByRecursion GivesNone xs → flat_map m.each (m.group k xs zs) ≡ []
  group_of_nones k xs zs c nones =
      let before = call_before k xs zs c in
      let on = x.form_group k xs xs zs before before (agree_self m.lower.reads xs) in
      none_of_outputs xs (all_for_each xs c.fit) nones on.0 (m.group k xs zs) (m.group k xs zs) (x.out_group k xs zs c) on.1

  -- there are only records of the other side
  pub group_of_others : (k : Row) (zs : Bag) → IsCall fields m m.below k [] zs → m.group k [] zs ≡ []
  group_of_others k zs c =
      let before = call_before k [] zs c in
      let on = x.form_group k [] [] zs before before tt in
      none_anchored m.lower.writes on.0 (m.group k [] zs) (m.group k [] zs) on.1

  -- ---- which of the two cases it is

  -- one record for each, or none for each
  abbrev pub IsSettled : Bag → Type 0
  IsSettled xs = ((ys : Bag) × AllZip GivesOne xs ys) ⊎ AllByRecursion GivesNone xs

  -- the Map emits n records for it
  abbrev GivesMany : ℕ → Row → Type 0
  GivesMany n r = length (m.each r) ≡ n

  all_ones : (xs : Bag) → AllByRecursion (GivesMany 1) xs → (ys : Bag) × AllZip GivesOne xs ys
  all_ones [] h = ([], tt)
  all_ones (r ∷ xs) h =
      let rest = all_ones xs h.1 in
      let here = one_record (m.each r) h.0 in
      (here.0 ∷ rest.0, (here.1, rest.1))

  settled_by : (n : ℕ) (xs : Bag) → n ≤ 1 → AllByRecursion (GivesMany n) xs → IsSettled xs
  settled_by zero xs few h = inr (AllByRecursion-weaker (GivesMany 0) GivesNone xs (λ r e. nil_from_length (m.each r) e) h)
  settled_by (suc n) xs few h = inl (all_ones xs (AllByRecursion-weaker (GivesMany (suc n)) (GivesMany 1) xs (λ r e. omega (arith, e, few)) h))

  as_many : (k : Row) (xs : Bag) → AllByRecursion (IsWithin fields m.for_each) xs → HaveKey m.keys k xs → (n : ℕ) → ((r : Row) → IsWithin fields m.for_each r → key_of m.keys r ≡ k → GivesMany n r) → AllByRecursion (GivesMany n) xs
  as_many k [] fit keyed n h = tt
  as_many k (r ∷ xs) fit keyed n h = (h r fit.0 keyed.0, as_many k xs fit.1 keyed.1 n h)

  settled_keyed : (k : Row) (xs : Bag) → AllByRecursion (IsWithin fields m.for_each) xs → HaveKey m.keys k xs
      → ((r s : Row) → IsWithin fields m.for_each r → IsWithin fields m.for_each s → Agree (is_listed m.keys) r s → length (m.each r) ≡ length (m.each s)) → IsSettled xs
  settled_keyed k [] fit keyed same = inr tt
  settled_keyed k (r ∷ xs) fit keyed same =
      settled_by (length (m.each r)) (r ∷ xs) (x.keeps.few r fit.0)
      (as_many k (r ∷ xs) fit keyed (length (m.each r)) (λ s fs e. same s r fs fit.0 (Agree-keys m.keys s r (e ∙ sym keyed.0))))

  pub settled : (k : Row) (xs : Bag) → AllByRecursion (IsWithin fields m.below) xs → HaveKey m.keys k xs → IsSettled xs
  settled k xs fit keyed = elim x.keeps.decided as (λ _. IsSettled xs) [
    | inl one ↦ settled_by 1 xs (omega arith) (AllByRecursion-weaker (IsWithin fields m.for_each) (GivesMany 1) xs one (all_for_each xs fit))
    | inr same ↦ settled_keyed k xs (all_for_each xs fit) keyed same
  ]
