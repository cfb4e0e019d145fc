-- Two calls for one record each, or for one pair each, that agree in what is read can be followed side by side.
use Rattle.std.proofs.Common.{◌≡◌, ◌<◌, ℕ, zero, suc, true, false, List, length, refl, sym, ap, ◌∙◌, arith}
use Rattle.std.proofs.lemmas.Bool.{or_parts}
use Rattle.std.proofs.lemmas.List.{length-replicate}
use Rattle.pact_record.specs.declared.values.Value.{Value}
use Rattle.pact_record.specs.declared.values.Value.TheVariants.{Null}
use Rattle.pact_record.specs.Record.{Agree, at_field, joined_value, joined_record}
use Rattle.pact_record.proofs.JoinedRecords.{at_field-joined_record, at_field-nulls, joined_value-null, length-joined_record}
use Rattle.tac_syntax.specs.declared.functions.Kind.{Kind}
use Rattle.tac_syntax.specs.declared.functions.Kind.TheVariants.{Map, Match, Cross, Reduce, CoGroup}
use Rattle.tac_syntax.specs.declared.statements.Rec.{Rec}
use Rattle.tac_syntax.specs.declared.statements.Rec.TheVariants.{Reg, Loop, Input, Left, Right, Join, First}
use Rattle.tac_syntax.specs.Rules.{is_pairing, is_map, is_reduce}
use Rattle.tac_syntax.specs.Call.{of_record, of_pair, empty_record}
use Rattle.tac_flow.specs.Known.{FieldSet, no_fields, either, Side, first, State}
use Rattle.tac_flow.specs.Steps.{is_key_at, keys_by, fields_by, fresh_by, held_of}
use Rattle.tac_syntax.specs.Forms.{IsWithin, anchors}
use Rattle.tac_syntax.specs.Contexts.{Has}
use Rattle.tac_syntax.specs.WellFormed.{IsGiven}
use Rattle.tac_flow.proofs.TwoCalls.{anchor_at, SameRecord, IsCall, AreCalls, given_record}
use Rattle.tac_flow.proofs.StartingRecords.{null_outside, apart, empty_same, first_same, scope}

-- a kind whose calls take a pair
abbrev pub PairKind : Kind → Type 0
PairKind kind = (is_pairing kind ≡ true)

module _ (fields : ℕ) (a b : FieldSet) (ks js : List ℕ) (disjoint : (k : ℕ) → a k ≡ true → b k ≡ false) where
  -- ---- one record

  one_call : (row : List Value) → IsWithin fields (Has a) row → IsCall (scope Map fields a b ks js) (of_record row)
  one_call row h = record { wide = wide; keys = λ side p lt at k m. cc; null = null } where
    wide : (side : Side) (p : ℕ) → p < length (anchors side (of_record row)) → length (anchor_at side (of_record row) p) ≡ fields
    wide side zero lt = h.width
    wide side (suc p) lt = absurd (omega (arith, lt))

    null : (side : Side) (p : ℕ) → p < length (anchors side (of_record row)) → (k : ℕ) → a k ≡ false → at_field (anchor_at side (of_record row) p) k ≡ Null
    null side zero lt k e = null_outside h k e
    null side (suc p) lt k e = absurd (omega (arith, lt))

  pub one_calls : (R : FieldSet) (r q : List Value) → IsWithin fields (Has a) r → IsWithin fields (Has a) q → Agree R r q → AreCalls R (scope Map fields a b ks js) (of_record r) (of_record q)
  one_calls R r q h g agree = record {
    own = one_call r h;
    other = one_call q g;
    places = λ side. refl;
    agree = at;
    same_key = λ n sub. refl;
    fresh = λ depth rows others. empty_same R fields (of_record r) (of_record q) depth rows others first a (record {
      place = 0;
      there = omega arith;
      in_scope = tt;
      own = record { at = refl; own = λ k e. at_field-nulls fields k ∙ sym (null_outside h k e); long = length-replicate fields Null ∙ sym h.width };
      other = record { at = refl; own = λ k e. at_field-nulls fields k ∙ sym (null_outside g k e); long = length-replicate fields Null ∙ sym g.width };
    });
    given = given;
  } where
    at : (side : Side) (p : ℕ) → p < length (anchors side (of_record r)) → (k : ℕ) → R k ≡ true → at_field (anchor_at side (of_record r) p) k ≡ at_field (anchor_at side (of_record q) p) k
    at side zero lt k m = agree k m
    at side (suc p) lt k m = absurd (omega (arith, lt))

    given : (depth : ℕ) (rows others : List (List Value)) (sides : List Side) (k : State) (from : Rec) → IsGiven Map from
        → SameRecord R fields (of_record r) (of_record q) depth rows others (held_of (scope Map fields a b ks js) sides k from) (given_record (of_record r) from) (given_record (of_record q) from)
    given depth rows others sides k (Reg n) i = absurd i
    given depth rows others sides k (Loop name) i = absurd i
    given depth rows others sides k Input i = first_same R fields (of_record r) (of_record q) depth rows others r q h.width g.width (omega arith) refl refl
    given depth rows others sides k Left i = cc
    given depth rows others sides k Right i = cc
    given depth rows others sides k Join i = cc
    given depth rows others sides k First i = cc

  -- ---- two records

  record_pair : (l r : List Value) → IsWithin fields (Has a) l → IsWithin fields (Has b) r → length (joined_record l r) ≡ fields
  record_pair l r h g = length-joined_record l r (h.width ∙ sym g.width) ∙ h.width

  two_call : (kind : Kind) → PairKind kind → (l r : List Value) → IsWithin fields (Has a) l → IsWithin fields (Has b) r → IsCall (scope kind fields a b ks js) (of_pair l r)
  two_call kind pair l r h g = record { wide = wide; keys = λ side p lt at k m. absurd (no_keys kind pair side at k m); null = null } where
    wide : (side : Side) (p : ℕ) → p < length (anchors side (of_pair l r)) → length (anchor_at side (of_pair l r) p) ≡ fields
    wide side zero lt = record_pair l r h g
    wide side (suc p) lt = absurd (omega (arith, lt))

    outside_both : (kd : Kind) → PairKind kd → (side : Side) (k : ℕ) → fields_by kd a b side k ≡ false → either a b k ≡ false
    outside_both Map i side k e = cc
    outside_both Match i side k e = e
    outside_both Cross i side k e = e
    outside_both Reduce i side k e = cc
    outside_both CoGroup i side k e = cc

    null : (side : Side) (p : ℕ) → p < length (anchors side (of_pair l r)) → (k : ℕ) → fields_by kind a b side k ≡ false → at_field (anchor_at side (of_pair l r) p) k ≡ Null
    null side zero lt k e =
        let q = or_parts (a k) (b k) (outside_both kind pair side k e) in
        at_field-joined_record l r k (h.width ∙ sym g.width) ∙ (λ j. joined_value (null_outside h k q.0 j) (null_outside g k q.1 j))
    null side (suc p) lt k e = absurd (omega (arith, lt))

    no_keys : (kd : Kind) → PairKind kd → (side : Side) (at k : ℕ) → is_key_at (keys_by kd ks js side) at k ≡ true → ⊥
    no_keys Map i side at k m = cc
    no_keys Match i side at k m = cc
    no_keys Cross i side at k m = cc
    no_keys Reduce i side at k m = cc
    no_keys CoGroup i side at k m = cc

  pub two_calls : (R : FieldSet) (kind : Kind) → PairKind kind → (l r m n : List Value) → IsWithin fields (Has a) l → IsWithin fields (Has b) r → IsWithin fields (Has a) m → IsWithin fields (Has b) n → Agree R l m → Agree R r n
      → AreCalls R (scope kind fields a b ks js) (of_pair l r) (of_pair m n)
  two_calls R kind pair l r m n hl hr hm hn al ar = record {
    own = two_call kind pair l r hl hr;
    other = two_call kind pair m n hm hn;
    places = λ side. refl;
    agree = at;
    same_key = λ n sub. refl;
    fresh = λ depth rows others. new depth rows others kind pair;
    given = given;
  } where
    own_field : (k : ℕ) → at_field (joined_record l r) k ≡ joined_value (at_field l k) (at_field r k)
    own_field k = at_field-joined_record l r k (hl.width ∙ sym hr.width)

    other_field : (k : ℕ) → at_field (joined_record m n) k ≡ joined_value (at_field m k) (at_field n k)
    other_field k = at_field-joined_record m n k (hm.width ∙ sym hn.width)

    at : (side : Side) (p : ℕ) → p < 1 → (k : ℕ) → R k ≡ true → at_field (anchor_at side (of_pair l r) p) k ≡ at_field (anchor_at side (of_pair m n) p) k
    at side zero lt k i = own_field k ∙ (λ j. joined_value (al k i j) (ar k i j)) ∙ sym (other_field k)
    at side (suc p) lt k i = absurd (omega (arith, lt))

    empty : (depth : ℕ) (rows others : List (List Value)) → SameRecord R fields (of_pair l r) (of_pair m n) depth rows others (record { base = first; changed = either a b; depends = no_fields }) (empty_record fields) (empty_record fields)
    empty depth rows others = empty_same R fields (of_pair l r) (of_pair m n) depth rows others first (either a b) (record {
      place = 0;
      there = omega arith;
      in_scope = tt;
      own = record {
        at = refl;
        long = length-replicate fields Null ∙ sym (record_pair l r hl hr);
        own = λ k e. let p = or_parts (a k) (b k) e in at_field-nulls fields k ∙ sym (own_field k ∙ (λ j. joined_value (null_outside hl k p.0 j) (null_outside hr k p.1 j)));
      };
      other = record {
        at = refl;
        long = length-replicate fields Null ∙ sym (record_pair m n hm hn);
        own = λ k e. let p = or_parts (a k) (b k) e in at_field-nulls fields k ∙ sym (other_field k ∙ (λ j. joined_value (null_outside hm k p.0 j) (null_outside hn k p.1 j)));
      };
    })

    new : (depth : ℕ) (rows others : List (List Value)) (kd : Kind) → PairKind kd
        → SameRecord R fields (of_pair l r) (of_pair m n) depth rows others (fresh_by kd fields a b) (empty_record fields) (empty_record fields)
    new depth rows others Map i = cc
    new depth rows others Match i = empty depth rows others
    new depth rows others Cross i = empty depth rows others
    new depth rows others Reduce i = cc
    new depth rows others CoGroup i = cc

    lefts : (depth : ℕ) (rows others : List (List Value)) → SameRecord R fields (of_pair l r) (of_pair m n) depth rows others (record { base = first; changed = b; depends = no_fields }) l m
    lefts depth rows others = record {
      base = record {
        place = 0;
        there = omega arith;
        in_scope = tt;
        own = record { at = refl; own = λ k e. sym (own_field k ∙ ap (joined_value (at_field l k)) (null_outside hr k e) ∙ joined_value-null (at_field l k)); long = hl.width ∙ sym (record_pair l r hl hr) };
        other = record { at = refl; own = λ k e. sym (other_field k ∙ ap (joined_value (at_field m k)) (null_outside hn k e) ∙ joined_value-null (at_field m k)); long = hm.width ∙ sym (record_pair m n hm hn) };
      };
      inside = λ sub k i. null_outside hl k (apart a b k disjoint i) ∙ sym (null_outside hm k (apart a b k disjoint i));
      long = hl.width ∙ sym hm.width;
      few = omega (arith, hl.width);
    }

    rights : (depth : ℕ) (rows others : List (List Value)) → SameRecord R fields (of_pair l r) (of_pair m n) depth rows others (record { base = first; changed = a; depends = no_fields }) r n
    rights depth rows others = record {
      base = record {
        place = 0;
        there = omega arith;
        in_scope = tt;
        own = record { at = refl; own = λ k e. sym (own_field k ∙ ap (λ (v : Value). joined_value v (at_field r k)) (null_outside hl k e)); long = hr.width ∙ sym (record_pair l r hl hr) };
        other = record { at = refl; own = λ k e. sym (other_field k ∙ ap (λ (v : Value). joined_value v (at_field n k)) (null_outside hm k e)); long = hn.width ∙ sym (record_pair m n hm hn) };
      };
      inside = λ sub k i. null_outside hr k (disjoint k i) ∙ sym (null_outside hn k (disjoint k i));
      long = hr.width ∙ sym hn.width;
      few = omega (arith, hr.width);
    }

    given : (depth : ℕ) (rows others : List (List Value)) (sides : List Side) (k : State) (from : Rec) → IsGiven kind from
        → SameRecord R fields (of_pair l r) (of_pair m n) depth rows others (held_of (scope kind fields a b ks js) sides k from) (given_record (of_pair l r) from) (given_record (of_pair m n) from)
    given depth rows others sides k (Reg n) i = absurd i
    given depth rows others sides k (Loop name) i = absurd i
    given depth rows others sides k Input i = absurd (not_map kind pair i) where
      not_map : (kd : Kind) → PairKind kd → is_map kd ≡ true → ⊥
      not_map Map p j = cc
      not_map Match p j = cc
      not_map Cross p j = cc
      not_map Reduce p j = cc
      not_map CoGroup p j = cc
    given depth rows others sides k Left i = lefts depth rows others
    given depth rows others sides k Right i = rights depth rows others
    given depth rows others sides k Join i =
        first_same R fields (of_pair l r) (of_pair m n) depth rows others (joined_record l r) (joined_record m n) (record_pair l r hl hr) (record_pair m n hm hn) (omega arith) refl refl
    given depth rows others sides k First i = absurd (not_reduce kind pair i) where
      not_reduce : (kd : Kind) → PairKind kd → is_reduce kd ≡ true → ⊥
      not_reduce Map p j = cc
      not_reduce Match p j = cc
      not_reduce Cross p j = cc
      not_reduce Reduce p j = cc
      not_reduce CoGroup p j = cc
