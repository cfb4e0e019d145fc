-- Forms of functions of one record and of pairs: calls that agree on what is read have outputs that differ only where
-- something is written.
use Rattle.std.proofs.Common.{◌≡◌, ◌||◌, not, ℕ, Bool, cond, List, [], ◌∷◌, length, get_or, sym, ap, subst, ◌∙◌, arith}
use Rattle.std.specs.List.{AllByRecursion, AllZip}
use Rattle.pact_record.specs.declared.values.Value.{Value}
use Rattle.pact_record.specs.declared.values.Value.TheVariants.{Null, Int, Text}
use Rattle.pact_record.specs.Record.{Agree, at_field, key_of, joined_record, joined_value}
use Rattle.pact_record.proofs.JoinedRecords.{at_field-joined_record, joined_value-null, length-joined_record, same_fields}
use Rattle.pact_record.proofs.Lists.{AllByRecursion-cond}
use Rattle.pact_record.proofs.SideBySide.{AllZip-cond, AllZip-weaker}
use Rattle.pact_bag.specs.Groups.{is_same_key}
use Rattle.tac_syntax.specs.Contexts.{FieldSet, Has}
use Rattle.tac_syntax.specs.Forms.{AreAnchored, AreAnchoredAt, AreApart, IsWithin}
use Rattle.pact_operators.specs.Allowed.{Bag}
use Rattle.pact_bag.specs.Pairs.{has_null, matched, unless_null}
use Rattle.pact_operators.proofs.WithinFields.{same_key_of}

abbrev pub Row : Type 0
Row = List Value

-- a function of one record: records in the set, what is read, what is written
pub record OneForm (fields : ℕ) (set : ℕ → Type 0) (R W : FieldSet) (f : Row → Bag) : Type 0 where
  pub outputs : (x y : Row) → IsWithin fields set x → IsWithin fields set y → Agree R x y → AllZip (AreAnchored W x y) (f x) (f y)
  pub wide : (x : Row) → IsWithin fields set x → AllByRecursion (λ o. length o ≡ fields) (f x)

-- a function of pairs: records in the sets a and b
pub record PairForm (fields : ℕ) (a b : ℕ → Type 0) (R W : FieldSet) (f : Row → Row → Bag) : Type 0 where
  pub outputs : (l m r s : Row) → IsWithin fields a l → IsWithin fields a m → IsWithin fields b r → IsWithin fields b s → Agree R l m → Agree R r s
      → AllZip (AreAnchored W (joined_record l r) (joined_record m s)) (f l r) (f m s)
  pub wide : (l r : Row) → IsWithin fields a l → IsWithin fields b r → AllByRecursion (λ o. length o ≡ fields) (f l r)

-- the only record is the anchor of each output
pub one_anchor : (W : FieldSet) (u w : Row) (places : List ℕ) (rs qs : Bag) → AreAnchoredAt W (u ∷ []) (w ∷ []) places rs qs → AllZip (AreAnchored W u w) rs qs
one_anchor W u w [] [] [] h = tt
one_anchor W u w (p ∷ places) (r ∷ rs) (q ∷ qs) h =
    let first : p ≡ 0 = omega (arith, h.0) in
    (subst (λ (n : ℕ). AreAnchored W (get_or (u ∷ []) n []) (get_or (w ∷ []) n []) r q) first h.1, one_anchor W u w places rs qs h.2)
one_anchor W u w places rs qs h = absurd h

-- ---- a function of one record, as one of pairs

abbrev pub none : ℕ → Type 0
none i = ⊥

abbrev pub on_left_alone : (Row → Bag) → Row → Row → Bag
on_left_alone f l r = f l

abbrev pub on_right_alone : (Row → Bag) → Row → Row → Bag
on_right_alone f l r = f r

join_none : (fields : ℕ) (l r : Row) → length l ≡ fields → IsWithin fields none r → l ≡ joined_record l r
join_none fields l r e h =
    let k = e ∙ sym h.width in
    same_fields l (joined_record l r) (sym (length-joined_record l r k))
    (λ i. sym (at_field-joined_record l r i k ∙ ap (joined_value (at_field l i)) (h.null i (λ n. n)) ∙ joined_value-null (at_field l i)))

none_join : (fields : ℕ) (l r : Row) → length r ≡ fields → IsWithin fields none l → r ≡ joined_record l r
none_join fields l r e h =
    let k = h.width ∙ sym e in
    same_fields r (joined_record l r) (sym k ∙ sym (length-joined_record l r k))
    (λ i. sym (at_field-joined_record l r i k ∙ ap (λ (v : Value). joined_value v (at_field r i)) (h.null i (λ n. n))))

anchored : (W : FieldSet) (u v x y : Row) → u ≡ x → v ≡ y → (r q : Row) → AreAnchored W u v r q → AreAnchored W x y r q
anchored W u v x y e f r q o = subst (λ (z : Row). AreAnchored W x z r q) f (subst (λ (z : Row). AreAnchored W z v r q) e o)

pub left_form : (fields : ℕ) (a : ℕ → Type 0) (R W : FieldSet) (f : Row → Bag) → OneForm fields a R W f → PairForm fields a none R W (on_left_alone f)
left_form fields a R W f o = record {
  outputs = λ l m r s fl fm fr fs al ar.
      AllZip-weaker (AreAnchored W l m) (AreAnchored W (joined_record l r) (joined_record m s)) (f l) (f m)
      (anchored W l m (joined_record l r) (joined_record m s) (join_none fields l r fl.width fr) (join_none fields m s fm.width fs)) (o.outputs l m fl fm al);
  wide = λ l r fl fr. o.wide l fl;
}

pub right_form : (fields : ℕ) (a : ℕ → Type 0) (R W : FieldSet) (f : Row → Bag) → OneForm fields a R W f → PairForm fields none a R W (on_right_alone f)
right_form fields a R W f o = record {
  outputs = λ l m r s fl fm fr fs al ar.
      AllZip-weaker (AreAnchored W r s) (AreAnchored W (joined_record l r) (joined_record m s)) (f r) (f s)
      (anchored W r s (joined_record l r) (joined_record m s) (none_join fields l r fr.width fl) (none_join fields m s fs.width fm)) (o.outputs r s fr fs ar);
  wide = λ l r fl fr. o.wide r fr;
}

-- ---- a function of pairs the other way round

abbrev pub turned_pair : (Row → Row → Bag) → Row → Row → Bag
turned_pair f l r = f r l

-- if the sets share no field, the join with sides swapped is the same
joined_swapped : (A B : Type 0) (u w : Value) → (A → B → ⊥) → ((A → ⊥) → u ≡ Null) → ((B → ⊥) → w ≡ Null) → joined_value u w ≡ joined_value w u
joined_swapped A B Null w d h k = sym (joined_value-null w)
joined_swapped A B (Int n) w d h k = ap (λ (z : Value). joined_value z (Int n)) (sym (k (λ b. bad (h (λ a. d a b))))) where
  bad : Int n ≡ Null → ⊥
  bad e = cc
joined_swapped A B (Text t) w d h k = ap (λ (z : Value). joined_value z (Text t)) (sym (k (λ b. bad (h (λ a. d a b))))) where
  bad : Text t ≡ Null → ⊥
  bad e = cc

join_swapped : (fields : ℕ) (a b : ℕ → Type 0) (l r : Row) → AreApart a b → IsWithin fields a l → IsWithin fields b r → joined_record l r ≡ joined_record r l
join_swapped fields a b l r d fl fr =
    let k = fl.width ∙ sym fr.width in
    same_fields (joined_record l r) (joined_record r l) (length-joined_record l r k ∙ k ∙ sym (length-joined_record r l (sym k)))
    (λ i. at_field-joined_record l r i k ∙ joined_swapped (a i) (b i) (at_field l i) (at_field r i) (d i) (fl.null i) (fr.null i) ∙ sym (at_field-joined_record r l i (sym k)))

pub flip_form : (fields : ℕ) (a b : ℕ → Type 0) (R W : FieldSet) (f : Row → Row → Bag) → AreApart a b → PairForm fields a b R W f → PairForm fields b a R W (turned_pair f)
flip_form fields a b R W f d p = record {
  outputs = λ l m r s fl fm fr fs al ar.
      AllZip-weaker (AreAnchored W (joined_record r l) (joined_record s m)) (AreAnchored W (joined_record l r) (joined_record m s)) (f r l) (f s m)
      (anchored W (joined_record r l) (joined_record s m) (joined_record l r) (joined_record m s) (join_swapped fields a b r l d fr fl) (join_swapped fields a b s m d fs fm)) (p.outputs r s l m fr fs fl fm ar al);
  wide = λ l r fl fr. p.wide r l fr fl;
}

-- ---- a function of pairs that match

-- keys that are read have a Null in both records, or in neither
unless_null_form : (fields : ℕ) (a b : ℕ → Type 0) (R W : FieldSet) (nulls : Bool) (f : Row → Row → Bag) (ks : List ℕ) → AllByRecursion (Has R) ks
    → PairForm fields a b R W f → PairForm fields a b R W (unless_null nulls f ks)
unless_null_form fields a b R W nulls f ks hk p = record {
  outputs = λ l m r s fl fm fr fs al ar.
      let test : Row → Bool = λ row. nulls || not (has_null (key_of ks row)) in
      let e : test l ≡ test m = λ i. nulls || not (has_null (same_key_of R ks l m hk al i)) in
      subst (λ (t : Bool). AllZip (AreAnchored W (joined_record l r) (joined_record m s)) (cond (test l) (f l r) []) (cond t (f m s) [])) e
      (AllZip-cond (AreAnchored W (joined_record l r) (joined_record m s)) (test l) (f l r) (f m s) (p.outputs l m r s fl fm fr fs al ar));
  wide = λ l r fl fr. AllByRecursion-cond (λ o. length o ≡ fields) (nulls || not (has_null (key_of ks l))) (f l r) [] (p.wide l r fl fr) tt;
}

-- keys that are read are equal
equal_form : (fields : ℕ) (a b : ℕ → Type 0) (R W : FieldSet) (f : Row → Row → Bag) (ks js : List ℕ) → AllByRecursion (Has R) ks → AllByRecursion (Has R) js
    → PairForm fields a b R W f → PairForm fields a b R W (λ l r. cond (is_same_key (key_of ks l) (key_of js r)) (f l r) [])
equal_form fields a b R W f ks js hk hj p = record {
  outputs = λ l m r s fl fm fr fs al ar.
      let e : is_same_key (key_of ks l) (key_of js r) ≡ is_same_key (key_of ks m) (key_of js s) = λ i. is_same_key (same_key_of R ks l m hk al i) (same_key_of R js r s hj ar i) in
      subst (λ (t : Bool). AllZip (AreAnchored W (joined_record l r) (joined_record m s)) (cond (is_same_key (key_of ks l) (key_of js r)) (f l r) []) (cond t (f m s) [])) e
      (AllZip-cond (AreAnchored W (joined_record l r) (joined_record m s)) (is_same_key (key_of ks l) (key_of js r)) (f l r) (f m s) (p.outputs l m r s fl fm fr fs al ar));
  wide = λ l r fl fr. AllByRecursion-cond (λ o. length o ≡ fields) (is_same_key (key_of ks l) (key_of js r)) (f l r) [] (p.wide l r fl fr) tt;
}

pub matched_form : (fields : ℕ) (a b : ℕ → Type 0) (R W : FieldSet) (nulls : Bool) (f : Row → Row → Bag) (ks js : List ℕ) → AllByRecursion (Has R) ks → AllByRecursion (Has R) js
    → PairForm fields a b R W f → PairForm fields a b R W (matched nulls f ks js)
matched_form fields a b R W nulls f ks js hk hj p = equal_form fields a b R W (unless_null nulls f ks) ks js hk hj (unless_null_form fields a b R W nulls f ks hk p)
