-- The records that two calls begin with, empty or given, are equal in what is read.
use Rattle.std.proofs.Common.{◌≡◌, ◌<◌, ℕ, zero, suc, true, false, List, [], ◌∷◌, length, get_or, refl, sym, ap, ◌∙◌, arith}
use Rattle.std.proofs.lemmas.Bool.{eqb-true, eq-eqb, both_ways, false_from_ne_true}
use Rattle.std.proofs.lemmas.List.{length-replicate}
use Rattle.pact_record.specs.declared.values.Value.{Value}
use Rattle.pact_record.specs.declared.values.Value.TheVariants.{Null}
use Rattle.pact_record.specs.Record.{at_field, key_of}
use Rattle.tac_syntax.specs.declared.functions.Kind.{Kind}
use Rattle.tac_syntax.specs.Call.{CallInput, empty_record}
use Rattle.tac_flow.specs.Known.{FieldSet, no_fields, left, Base, first, Held, side_of}
use Rattle.tac_flow.specs.Steps.{Scope, is_key_at}
use Rattle.tac_syntax.specs.Forms.{IsWithin, anchors}
use Rattle.tac_syntax.specs.Contexts.{Has}
use Rattle.tac_flow.proofs.TwoCalls.{anchor_at, HaveBase, SameRecord}

-- ---- keys

pub key_is : (ks : List ℕ) (row : List Value) (at k : ℕ) → is_key_at ks at k ≡ true → at_field row k ≡ get_or (key_of ks row) at Null
key_is [] row at k h = cc
key_is (j ∷ ks) row zero k h = ap (at_field row) (eqb-true k j h)
key_is (j ∷ ks) row (suc at) k h = key_is ks row at k h

pub key_same : (ks : List ℕ) (r q : List Value) (at : ℕ) → ((k : ℕ) → is_key_at ks at k ≡ true → at_field r k ≡ at_field q k) → get_or (key_of ks r) at Null ≡ get_or (key_of ks q) at Null
key_same [] r q at h = refl
key_same (j ∷ ks) r q zero h = h j (eq-eqb j j refl)
key_same (j ∷ ks) r q (suc at) h = key_same ks r q at h

-- ---- records

pub null_outside : {fields : ℕ} {s : FieldSet} {row : List Value} → IsWithin fields (Has s) row → (k : ℕ) → s k ≡ false → at_field row k ≡ Null
null_outside {s = s} h k out = h.null k (λ e. both_ways (s k) out e)

-- a field of one set isn't in a disjoint one
pub apart : (s t : FieldSet) (k : ℕ) → ((k : ℕ) → s k ≡ true → t k ≡ false) → t k ≡ true → s k ≡ false
apart s t k h m = false_from_ne_true (s k) (λ e. both_ways (t k) (h k e) m)

module _ (R : FieldSet) (fields : ℕ) (x y : CallInput) (depth : ℕ) (rows others : List (List Value)) where
  abbrev Same : Held → List Value → List Value → Type 0
  Same h r q = SameRecord R fields x y depth rows others h r q

  -- two empty records, if the anchors at a place are Null outside the set
  pub empty_same : (base : Base) (s : FieldSet) → HaveBase x y depth rows others (side_of base) base s (empty_record fields) (empty_record fields)
      → Same (record { base = base; changed = s; depends = no_fields }) (empty_record fields) (empty_record fields)
  empty_same base s h = record { base = h; inside = λ sub k m. refl; long = refl; few = omega (arith, length-replicate fields Null) }

  -- two records that are the first anchor, or the only one
  pub first_same : (r q : List Value) → length r ≡ fields → length q ≡ fields → 0 < length (anchors left x) → r ≡ anchor_at left x 0 → q ≡ anchor_at left y 0
      → Same (record { base = first; changed = no_fields; depends = no_fields }) r q
  first_same r q rw qw there e f = record {
    base = record {
      place = 0;
      there = there;
      in_scope = tt;
      own = record { at = refl; own = λ k m. ap (λ (a : List Value). at_field a k) e; long = ap (λ (a : List Value). length a) e };
      other = record { at = refl; own = λ k m. ap (λ (a : List Value). at_field a k) f; long = ap (λ (a : List Value). length a) f };
    };
    inside = λ sub k m. cc;
    long = rw ∙ sym qw;
    few = omega (arith, rw);
  }

-- ---- what an analysis is based on

abbrev pub scope : Kind → ℕ → FieldSet → FieldSet → List ℕ → List ℕ → Scope
scope kind fields a b ks js = record { kind = kind; fields = fields; left = a; right = b; left_keys = ks; right_keys = js }
