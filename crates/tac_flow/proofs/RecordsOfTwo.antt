-- What reading, writing and joining preserve of two records and of two values.
use Rattle.std.proofs.Common.{◌≡◌, ◌≢◌, ◌≤◌, ◌<◌, ◌==◌, ◌+◌, ◌&&◌, ◌||◌, not, ℕ, suc, Bool, true, false, if◌then◌else◌, Option, Some, None, List, [], ◌∷◌, inl, inr, length, get_or, slice_set, refl, sym, ap, subst, ◌∙◌, arith}
use Rattle.std.proofs.lemmas.Bool.{and_parts, and_cases, and_from, or_cases, or_parts, or_left, or_right, eqb-true, eqb-false, eq-eqb, cases_Bool, cases_eq, cases_lt, not-true, not-false, not_from_false, ltb-false}
use Rattle.std.proofs.lemmas.List.{get_or_past, length-set, get_or-set_same, get_or-set_other}
use Rattle.pact_record.specs.declared.values.Value.{Value}
use Rattle.pact_record.specs.declared.values.Value.TheVariants.{Null}
use Rattle.pact_record.specs.Record.{Agree, at_field}
use Rattle.tac_syntax.specs.declared.functions.Kind.{Kind}
use Rattle.tac_syntax.specs.declared.functions.Kind.TheVariants.{Map, Match, Cross, Reduce, CoGroup}
use Rattle.tac_syntax.specs.Call.{CallInput, key_values, numbered, set_numbered}
use Rattle.tac_flow.specs.Known.{FieldSet, only_field, with_field, without_field, either, less, fields_below, Side, left, right, Base, first, bound, some, nowhere, Origin, field_of, key_at, unknown, same_base, same_origin, side_of, names_one, Known, Held, joined_known, joined_held, changed_from}
use Rattle.tac_flow.specs.Steps.{Scope, keys_of, is_key_at, key_or, origin_of, read_from, is_key_of, is_copy, written, written_at, kept_of, fields_by, fields_of}
use Rattle.tac_syntax.specs.Forms.{anchors}
use Rattle.tac_flow.proofs.TwoCalls.{anchor_at, Sub, HasOrigin, HaveBase, IsOver, IsAt, IsInScope, base_record, SameRecord, SameValue, IsCall, AreCalls}
use Rattle.tac_flow.proofs.LooserBases.{same_base-true, same_origin-true, Loosens, loosens_joined, outside_same, loosened}

-- ---- setting a field

-- if the record has the field, it has the value; otherwise Null
set_is : (r : List Value) (k : ℕ) (v w : Value) → (k < length r → v ≡ w) → (length r ≤ k → Null ≡ w) → at_field (slice_set r k v) k ≡ w
set_is r k v w h g = elim (cases_lt k (length r)) as (λ _. at_field (slice_set r k v) k ≡ w) [
  | inl p ↦ get_or-set_same r k v Null p ∙ h p
  | inr p ↦ get_or_past (slice_set r k v) k Null (omega (arith, p, length-set r k v)) ∙ g p
]

set_both : (r q : List Value) (k : ℕ) (v w : Value) → length r ≡ length q → v ≡ w → at_field (slice_set r k v) k ≡ at_field (slice_set q k w) k
set_both r q k v w h e = set_is r k v (at_field (slice_set q k w) k) (λ there. e ∙ sym (get_or-set_same q k w Null (omega (arith, there, h))))
    (λ past. sym (get_or_past (slice_set q k w) k Null (omega (arith, past, h, length-set q k w))))

-- a field is either the one that was set or another
at_set : (r q : List Value) (k j : ℕ) (v w : Value) → length r ≡ length q → (j ≡ k → v ≡ w) → (j ≢ k → at_field r j ≡ at_field q j)
    → at_field (slice_set r k v) j ≡ at_field (slice_set q k w) j
at_set r q k j v w long here there = elim (cases_eq j k) as (λ _. at_field (slice_set r k v) j ≡ at_field (slice_set q k w) j) [
  | inl p ↦ subst (λ (i : ℕ). at_field (slice_set r k v) i ≡ at_field (slice_set q k w) i) (sym p) (set_both r q k v w long (here p))
  | inr p ↦ get_or-set_other r k j v Null p ∙ there p ∙ sym (get_or-set_other q k j w Null p)
]

-- ---- one call

module _ (c : Scope) (z : CallInput) (depth : ℕ) (rows : List (List Value)) where
  key_origin : (other : Origin) (n : ℕ) (ks : List ℕ) (k : ℕ) (v : Value) → HasOrigin z depth rows other v
      → ((at m : ℕ) → m ≡ n + at → is_key_at ks at k ≡ true → v ≡ get_or (key_values z) m Null) → HasOrigin z depth rows (key_or other n ks k) v
  key_origin other n [] k v h f = h
  key_origin other n (j ∷ ks) k v h f =
      let P : Bool → Type 0 = λ b. HasOrigin z depth rows (if b then key_at n else key_or other (suc n) ks k) v in
      elim (cases_Bool (k == j)) as (λ _. P (k == j)) [
        | inl e ↦ subst P (sym e) (f 0 n (omega arith) e)
        | inr e ↦ subst P (sym e) (key_origin other (suc n) ks k v h (λ at m eq found. f (suc at) m (omega (arith, eq)) found))
      ]

  -- the origin of what is read from a record outside the changed fields
  pub origin_over : (base : Base) (side : Side) (p : ℕ) (changed : FieldSet) (r : List Value) (k : ℕ) → side_of base ≡ Some side → IsInScope depth base → p < length (anchors side z)
      → IsCall c z → IsOver z rows base side p changed r → changed k ≡ false → HasOrigin z depth rows (origin_of c base k) (at_field r k)
  origin_over first left p changed r k s i there call h e =
      key_origin (field_of first k) 0 (keys_of c left) k (at_field r k)
      (tt, h.own k e ∙ ap (λ (n : ℕ). at_field (anchor_at left z n) k) h.at)
      (λ at m eq found. h.own k e ∙ call.keys left p there at k found ∙ ap (λ (n : ℕ). get_or (key_values z) n Null) (omega (arith, eq)))
  origin_over first right p changed r k s i there call h e = cc
  origin_over (bound name t) side p changed r k s i there call h e =
      let same : t ≡ side = cc in
      key_origin (field_of (bound name t) k) 0 (keys_of c t) k (at_field r k)
      (i, h.own k e ∙ ap (λ (u : Side). at_field (anchor_at u z p) k) (sym same) ∙ ap (λ (a : List Value). at_field a k) (sym h.at))
      (λ at m eq found. h.own k e ∙ call.keys side p there at k (subst (λ (u : Side). is_key_at (keys_of c u) at k ≡ true) same found) ∙ ap (λ (n : ℕ). get_or (key_values z) n Null) (omega (arith, eq)))
  origin_over (some t) side p changed r k s i there call h e =
      let same : t ≡ side = cc in
      key_origin unknown 0 (keys_of c t) k (at_field r k) tt
      (λ at m eq found. h.own k e ∙ call.keys side p there at k (subst (λ (u : Side). is_key_at (keys_of c u) at k ≡ true) same found) ∙ ap (λ (n : ℕ). get_or (key_values z) n Null) (omega (arith, eq)))
  origin_over nowhere side p changed r k s i there call h e = tt

  -- a value that is copied back is the anchor's own
  pub copied : (base : Base) (origin : Origin) (side : Side) (p k : ℕ) (v : Value) → side_of base ≡ Some side → p < length (anchors side z) → IsCall c z → IsAt z rows base p
      → is_copy c base origin k ≡ true → HasOrigin z depth rows origin v → v ≡ at_field (anchor_at side z p) k
  copied base (field_of other m) side p k v s there call at so h =
      let both = and_parts (names_one base && same_base other base) (m == k) so in
      let two = and_parts (names_one base) (same_base other base) both.0 in
      h.1 ∙ ap (λ (b : Base). at_field (base_record z rows b) m) (same_base-true other base two.1) ∙ ap (λ (n : ℕ). at_field (base_record z rows base) n) (eqb-true m k both.1) ∙ named base side s at two.0
    where
      named : (b : Base) (t : Side) → side_of b ≡ Some t → IsAt z rows b p → names_one b ≡ true → at_field (base_record z rows b) k ≡ at_field (anchor_at t z p) k
      named first left e i one = ap (λ (n : ℕ). at_field (anchor_at left z n) k) (sym i)
      named first right e i one = cc
      named (bound name u) t e i one = let same : u ≡ t = cc in ap (λ (a : List Value). at_field a k) i ∙ ap (λ (w : Side). at_field (anchor_at w z p) k) same
      named (some u) t e i one = cc
      named nowhere t e i one = cc
  copied base (key_at at) side p k v s there call i so h =
      h ∙ sym (call.keys side p there at k (subst (λ (o : Option Side). is_key_of c o at k ≡ true) s so))
  copied base unknown side p k v s there call at so h = cc

-- ---- two calls

module _ (R : FieldSet) (c : Scope) (x y : CallInput) (calls : AreCalls R c x y) (depth : ℕ) (rows others : List (List Value)) where
  abbrev Same : Held → List Value → List Value → Type 0
  Same h r q = SameRecord R c.fields x y depth rows others h r q

  abbrev SameV : Known → Value → Value → Type 0
  SameV v a b = SameValue R x y depth rows others v a b

  outside : (h : Held) (r q : List Value) (k : ℕ) → Same h r q → h.changed k ≡ false → R k ≡ true → at_field r k ≡ at_field q k
  outside h r q k s e m = outside_same x y depth rows others (side_of h.base) h.base h.changed r q k s.base e (λ side p there. calls.agree side p there k m)

  -- on fields of which the unchanged ones are read
  pub agree_over : (h : Held) (r q : List Value) (w : FieldSet) → Sub h.depends R → ((k : ℕ) → w k ≡ true → h.changed k ≡ false → R k ≡ true) → Same h r q → Agree w r q
  agree_over h r q w deps kept s k m = elim (cases_Bool (h.changed k)) as (λ _. at_field r k ≡ at_field q k) [
    | inl p ↦ s.inside deps k p
    | inr p ↦ outside h r q k s p (kept k m p)
  ]

  own_origin : (o : Option Side) (h : Held) (r q : List Value) (k : ℕ) → side_of h.base ≡ o → HaveBase x y depth rows others o h.base h.changed r q → h.changed k ≡ false
      → HasOrigin x depth rows (origin_of c h.base k) (at_field r k) × HasOrigin y depth others (origin_of c h.base k) (at_field q k)
  own_origin (Some side) h r q k s b e = (
    origin_over c x depth rows h.base side b.place h.changed r k s b.in_scope b.there calls.own b.own e,
    origin_over c y depth others h.base side b.place h.changed q k s b.in_scope (subst (λ (n : ℕ). b.place < n) (calls.places side) b.there) calls.other b.other e,
  )
  own_origin None h r q k s b e = none h.base s where
    none : (base : Base) → side_of base ≡ None → HasOrigin x depth rows (origin_of c base k) (at_field r k) × HasOrigin y depth others (origin_of c base k) (at_field q k)
    none first n = cc
    none (bound name side) n = cc
    none (some side) n = cc
    none nowhere n = (tt, tt)

  pub read_same : (h : Held) (r q : List Value) (k : ℕ) → Same h r q → SameV (read_from c h k) (at_field r k) (at_field q k)
  read_same h r q k s =
      let P : Bool → Type 0 = λ b. SameV (if b then record { deps = h.depends; origin = unknown } else record { deps = only_field k; origin = origin_of c h.base k }) (at_field r k) (at_field q k) in
      elim (cases_Bool (h.changed k)) as (λ _. P (h.changed k)) [
        | inl e ↦ subst P (sym e) (record { same = λ sub. s.inside sub k e; own = tt; other = tt })
        | inr e ↦
            let o = own_origin (side_of h.base) h r q k refl s.base e in
            subst P (sym e) (record { same = λ sub. outside h r q k s e (sub k (eq-eqb k k refl)); own = o.0; other = o.1 })
      ]

  -- ---- set

  base_set : (o : Option Side) (base : Base) (changed : FieldSet) (r q : List Value) (k : ℕ) (a b : Value) → HaveBase x y depth rows others o base changed r q
      → HaveBase x y depth rows others o base (with_field k changed) (slice_set r k a) (slice_set q k b)
  base_set (Some side) base changed r q k a b h = record {
    place = h.place;
    there = h.there;
    in_scope = h.in_scope;
    own = record { at = h.own.at; own = λ j e. kept x rows r j a h.own e; long = length-set r k a ∙ h.own.long };
    other = record { at = h.other.at; own = λ j e. kept y others q j b h.other e; long = length-set q k b ∙ h.other.long };
  } where
    kept : (z : CallInput) (ls : List (List Value)) (s : List Value) (j : ℕ) (v : Value) → IsOver z ls base side h.place changed s → ((j == k) || changed j) ≡ false
        → at_field (slice_set s k v) j ≡ at_field (anchor_at side z h.place) j
    kept z ls s j v g e = let p = or_parts (j == k) (changed j) e in get_or-set_other s k j v Null (eqb-false j k p.0) ∙ g.own j p.1
  base_set None base changed r q k a b h = λ j e.
      let p = or_parts (j == k) (changed j) e in
      get_or-set_other r k j a Null (eqb-false j k p.0) ∙ h j p.1 ∙ sym (get_or-set_other q k j b Null (eqb-false j k p.0))

  base_copied : (o : Option Side) (base : Base) (v : Known) (changed : FieldSet) (r q : List Value) (k : ℕ) (a b : Value) → side_of base ≡ o → HaveBase x y depth rows others o base changed r q
      → SameV v a b → is_copy c base v.origin k ≡ true → HaveBase x y depth rows others o base (without_field k changed) (slice_set r k a) (slice_set q k b)
  base_copied (Some side) base v changed r q k a b s h e so =
      let there = subst (λ (n : ℕ). h.place < n) (calls.places side) h.there in
      record {
        place = h.place;
        there = h.there;
        in_scope = h.in_scope;
        own = record {
          at = h.own.at;
          long = length-set r k a ∙ h.own.long;
          own = λ j f. kept x rows r j a h.own f (copied c x depth rows base v.origin side h.place k a s h.there calls.own h.own.at so e.own);
        };
        other = record {
          at = h.other.at;
          long = length-set q k b ∙ h.other.long;
          own = λ j f. kept y others q j b h.other f (copied c y depth others base v.origin side h.place k b s there calls.other h.other.at so e.other);
        };
      } where
        kept : (z : CallInput) (ls : List (List Value)) (t : List Value) (j : ℕ) (w : Value) → IsOver z ls base side h.place changed t → (not (j == k) && changed j) ≡ false
            → w ≡ at_field (anchor_at side z h.place) k → at_field (slice_set t k w) j ≡ at_field (anchor_at side z h.place) j
        kept z ls t j w g f own = elim (cases_eq j k) as (λ _. at_field (slice_set t k w) j ≡ at_field (anchor_at side z h.place) j) [
          | inl p ↦ subst (λ (i : ℕ). at_field (slice_set t k w) i ≡ at_field (anchor_at side z h.place) i) (sym p)
              (set_is t k w (at_field (anchor_at side z h.place) k) (λ _. own) (λ past. sym (get_or_past (anchor_at side z h.place) k Null (omega (arith, past, g.long)))))
          | inr p ↦ get_or-set_other t k j w Null p ∙ g.own j (elim (and_cases (not (j == k)) (changed j) f) as (λ _. changed j ≡ false) [
            | inl n ↦ absurd (p (eqb-true j k (not-false (j == k) n)))
            | inr n ↦ n
          ])
        ]
  base_copied None base v changed r q k a b s h e so = absurd (none base v.origin s so) where
    none : (z : Base) (o : Origin) → side_of z ≡ None → is_copy c z o k ≡ true → ⊥
    none first o n f = cc
    none (bound name side) o n f = cc
    none (some side) o n f = cc
    none nowhere (field_of other m) n f = cc
    none nowhere (key_at m) n f = cc
    none nowhere unknown n f = cc

  pub written_same : (h : Held) (v : Known) (r q : List Value) (k : ℕ) (a b : Value) → Same h r q → SameV v a b → Same (written c h k v) (slice_set r k a) (slice_set q k b)
  written_same h v r q k a b s e =
      let P : Bool → Type 0 = λ t. Same (if t then record h { changed = without_field k h.changed } else record h { changed = with_field k h.changed; depends = either h.depends v.deps }) (slice_set r k a) (slice_set q k b) in
      let long = length-set r k a ∙ s.long ∙ sym (length-set q k b) in
      let few = subst (λ (n : ℕ). n ≤ c.fields) (sym (length-set r k a)) s.few in
      elim (cases_Bool (is_copy c h.base v.origin k)) as (λ _. P (is_copy c h.base v.origin k)) [
        | inl so ↦ subst P (sym so) (record {
          base = base_copied (side_of h.base) h.base v h.changed r q k a b refl s.base e so;
          inside = λ sub j m.
              let p = and_parts (not (j == k)) (h.changed j) m in
              let apart = eqb-false j k (not-true (j == k) p.0) in
              get_or-set_other r k j a Null apart ∙ s.inside sub j p.1 ∙ sym (get_or-set_other q k j b Null apart);
          long = long;
          few = few;
        })
        | inr other ↦ subst P (sym other) (record {
          base = base_set (side_of h.base) h.base h.changed r q k a b s.base;
          inside = λ sub j m. at_set r q k j a b s.long (λ _. e.same (λ i n. sub i (or_right (h.depends i) (v.deps i) n)))
              (λ apart. elim (or_cases (j == k) (h.changed j) m) as (λ _. at_field r j ≡ at_field q j) [
                | inl p ↦ absurd (apart (eqb-true j k p))
                | inr p ↦ s.inside (λ i n. sub i (or_left (h.depends i) (v.deps i) n)) j p
              ]);
          long = long;
          few = few;
        })
      ]

  -- ---- fields by number

  -- outside the changed fields, two records of one register are equal if their anchors are
  same_outside : (o : Option Side) (base : Base) (changed : FieldSet) (r q : List Value) (k : ℕ) → HaveBase x y depth rows others o base changed r q → changed k ≡ false
      → ((side : Side) → o ≡ Some side → (p : ℕ) → p < length (anchors side x) → at_field (anchor_at side x p) k ≡ at_field (anchor_at side y p) k)
      → at_field r k ≡ at_field q k
  same_outside (Some side) base changed r q k h e agree = h.own.own k e ∙ agree side refl h.place h.there ∙ sym (h.other.own k e)
  same_outside None base changed r q k h e agree = h k e

  -- two anchors at the same place are equal in a field that no record of their side has
  pub both_null : (side : Side) (p : ℕ) → p < length (anchors side x) → (k : ℕ) → fields_of c side k ≡ false → at_field (anchor_at side x p) k ≡ at_field (anchor_at side y p) k
  both_null side p there k e = calls.own.null side p there k e ∙ sym (calls.other.null side p (subst (λ (n : ℕ). p < n) (calls.places side) there) k e)

  -- the records are equal in every field, if all that may have a value is read
  pub same_everywhere : (h : Held) (r q : List Value) (w : FieldSet) → Same h r q → Sub h.depends R → Sub (less w h.changed) R
      → ((side : Side) → side_of h.base ≡ Some side → (k : ℕ) → w k ≡ false → fields_of c side k ≡ false) → (k : ℕ) → at_field r k ≡ at_field q k
  same_everywhere h r q w s deps kept within k = elim (cases_Bool (h.changed k)) as (λ _. at_field r k ≡ at_field q k) [
    | inl p ↦ s.inside deps k p
    | inr p ↦ elim (cases_Bool (w k)) as (λ _. at_field r k ≡ at_field q k) [
      | inl m ↦ outside h r q k s p (kept k (and_from (w k) (not (h.changed k)) m (not_from_false (h.changed k) p)))
      | inr n ↦ same_outside (side_of h.base) h.base h.changed r q k s.base p (λ side e place there. both_null side place there k (within side e k n))
    ]
  ]

  -- a field of neither side isn't a field of a given side
  pub outside_side : (kind : Kind) (a b : FieldSet) (side : Side) (k : ℕ) → either a b k ≡ false → fields_by kind a b side k ≡ false
  outside_side Map a b side k e = (or_parts (a k) (b k) e).0
  outside_side Match a b side k e = e
  outside_side Cross a b side k e = e
  outside_side Reduce a b side k e = (or_parts (a k) (b k) e).0
  outside_side CoGroup a b left k e = (or_parts (a k) (b k) e).0
  outside_side CoGroup a b right k e = (or_parts (a k) (b k) e).1

  -- a register's two records are equal, if what they depend on and their kept fields are read
  pub same_held : (h : Held) (r q : List Value) → Same h r q → Sub h.depends R → Sub (kept_of c h) R → (k : ℕ) → at_field r k ≡ at_field q k
  same_held h r q s deps kept = same_everywhere h r q (either c.left c.right) s deps kept (λ side e k n. outside_side c.kind c.left c.right side k n)

  -- setting the field whose number is a value
  set_numbered_is : (r : List Value) (o : Option ℕ) (v : Value) → length (set_numbered r o v) ≡ length r
  set_numbered_is r (Some k) v = length-set r k v
  set_numbered_is r None v = refl

  set_numbered_same : (r q : List Value) (o : Option ℕ) (v w : Value) → length r ≡ length q → v ≡ w → ((j : ℕ) → at_field r j ≡ at_field q j) → (j : ℕ) → at_field (set_numbered r o v) j ≡ at_field (set_numbered q o w) j
  set_numbered_same r q (Some k) v w long e same j = at_set r q k j v w long (λ _. e) (λ _. same j)
  set_numbered_same r q None v w long e same j = same j

  -- from the number of fields on there is nothing, neither in a record nor in its anchor
  past_over : (z : CallInput) (ls : List (List Value)) (base : Base) (side : Side) (p : ℕ) (changed : FieldSet) (r : List Value) (o : Option ℕ) (v : Value) → length r ≤ c.fields
      → IsOver z ls base side p changed r → IsOver z ls base side p (fields_below c.fields) (set_numbered r o v)
  past_over z ls base side p changed r o v few h = record {
    at = h.at;
    own = λ j out.
        let past = ltb-false j c.fields out in
        get_or_past (set_numbered r o v) j Null (omega (arith, few, past, set_numbered_is r o v)) ∙ sym (get_or_past (anchor_at side z p) j Null (omega (arith, few, past, h.long)));
    long = set_numbered_is r o v ∙ h.long;
  }

  base_set_at : (o : Option Side) (base : Base) (changed : FieldSet) (r q : List Value) (m n : Option ℕ) (a b : Value) → length r ≤ c.fields → length q ≤ c.fields → HaveBase x y depth rows others o base changed r q
      → HaveBase x y depth rows others o base (fields_below c.fields) (set_numbered r m a) (set_numbered q n b)
  base_set_at (Some side) base changed r q m n a b few more h = record {
    place = h.place;
    there = h.there;
    in_scope = h.in_scope;
    own = past_over x rows base side h.place changed r m a few h.own;
    other = past_over y others base side h.place changed q n b more h.other;
  }
  base_set_at None base changed r q m n a b few more h = λ j out.
      let past = ltb-false j c.fields out in
      get_or_past (set_numbered r m a) j Null (omega (arith, few, past, set_numbered_is r m a)) ∙ sym (get_or_past (set_numbered q n b) j Null (omega (arith, more, past, set_numbered_is q n b)))

  pub written_at_same : (h : Held) (n v : Known) (r q : List Value) (d e a b : Value) → Same h r q → SameV n d e → SameV v a b
      → Same (written_at c h n v) (set_numbered r (numbered c.fields d) a) (set_numbered q (numbered c.fields e) b)
  written_at_same h n v r q d e a b s number value = record {
    base = base_set_at (side_of h.base) h.base h.changed r q (numbered c.fields d) (numbered c.fields e) a b s.few (omega (arith, s.few, s.long)) s.base;
    inside = λ sub j m.
        let rest : Sub (either (either n.deps v.deps) (kept_of c h)) R = λ i o. sub i (or_right (h.depends i) _ o) in
        let same_number = number.same (λ i o. rest i (or_left _ (kept_of c h i) (or_left (n.deps i) (v.deps i) o))) in
        let same_value = value.same (λ i o. rest i (or_left _ (kept_of c h i) (or_right (n.deps i) (v.deps i) o))) in
        let same = same_held h r q s (λ i o. sub i (or_left (h.depends i) _ o)) (λ i o. rest i (or_right (either n.deps v.deps i) (kept_of c h i) o)) in
        set_numbered_same r q (numbered c.fields d) a b s.long same_value same j ∙ ap (λ (t : Value). at_field (set_numbered q (numbered c.fields t) b) j) same_number;
    long = set_numbered_is r (numbered c.fields d) a ∙ s.long ∙ sym (set_numbered_is q (numbered c.fields e) b);
    few = omega (arith, s.few, set_numbered_is r (numbered c.fields d) a);
  }

  -- ---- joins

  origin_kept : (t : Bool) (z : CallInput) (ls : List (List Value)) (o : Origin) (v : Value) → HasOrigin z depth ls o v → HasOrigin z depth ls (if t then o else unknown) v
  origin_kept true z ls o v h = h
  origin_kept false z ls o v h = tt

  origin_joined : (t : Bool) (z : CallInput) (ls : List (List Value)) (a o : Origin) (v : Value) → same_origin a o ≡ t → HasOrigin z depth ls o v → HasOrigin z depth ls (if t then a else unknown) v
  origin_joined true z ls a o v e h = subst (λ (u : Origin). HasOrigin z depth ls u v) (sym (same_origin-true a o e)) h
  origin_joined false z ls a o v e h = tt

  pub value_left : (v w : Known) (a b : Value) → SameV v a b → SameV (joined_known v w) a b
  value_left v w a b h = record {
    same = λ sub. h.same (λ i m. sub i (or_left (v.deps i) (w.deps i) m));
    own = origin_kept (same_origin v.origin w.origin) x rows v.origin a h.own;
    other = origin_kept (same_origin v.origin w.origin) y others v.origin b h.other;
  }

  pub value_right : (v w : Known) (a b : Value) → SameV w a b → SameV (joined_known v w) a b
  value_right v w a b h = record {
    same = λ sub. h.same (λ i m. sub i (or_right (v.deps i) (w.deps i) m));
    own = origin_joined (same_origin v.origin w.origin) x rows v.origin w.origin a refl h.own;
    other = origin_joined (same_origin v.origin w.origin) y others v.origin w.origin b refl h.other;
  }

  -- what is still known of a record after it is loosened
  looser : (h g : Held) (t : FieldSet) (r q : List Value) → Loosens h.base g.base → g.changed ≡ changed_from c.fields g.base t → ((k : ℕ) → t k ≡ false → h.changed k ≡ false)
      → Sub h.depends g.depends → ((k : ℕ) → g.changed k ≡ true → h.changed k ≡ false → g.depends k ≡ true) → Same h r q → Same g r q
  looser h g t r q l e f deps more s = record {
    base = subst (λ (u : FieldSet). HaveBase x y depth rows others (side_of g.base) g.base u r q) (sym e) (loosened x y depth rows others c.fields h.base g.base h.changed t r q s.long s.few l f s.base);
    inside = λ sub. agree_over h r q g.changed (λ i n. sub i (deps i n)) (λ k m p. sub k (more k m p)) s;
    long = s.long;
    few = s.few;
  }

  pub record_left : (h g : Held) (r q : List Value) → Same h r q → Same (joined_held c.fields h g) r q
  record_left h g r q s =
      looser h (joined_held c.fields h g) (either h.changed g.changed) r q (loosens_joined h.base g.base).0 refl
      (λ k out. (or_parts (h.changed k) (g.changed k) out).0)
      (λ k m. or_left _ _ (or_left (h.depends k) (g.depends k) m))
      (λ k m out. or_right _ _ (or_left _ _ (and_from _ _ m (not_from_false _ out))))
      s

  pub record_right : (h g : Held) (r q : List Value) → Same g r q → Same (joined_held c.fields h g) r q
  record_right h g r q s =
      looser g (joined_held c.fields h g) (either h.changed g.changed) r q (loosens_joined h.base g.base).1 refl
      (λ k out. (or_parts (h.changed k) (g.changed k) out).1)
      (λ k m. or_left _ _ (or_right (h.depends k) (g.depends k) m))
      (λ k m out. or_right _ _ (or_right _ _ (and_from _ _ m (not_from_false _ out))))
      s
