-- A Map that keeps groups: it emits one record for each, or equally many, and at most one, for records that have the
-- same key.
use Rattle.std.proofs.Common.{◌≡◌, ◌==◌, ◌≤◌, ◌⊎◌, inl, inr, ℕ, false, List, [], ◌∷◌, length, refl, sym, ap, ◌∙◌}
use Rattle.std.proofs.lemmas.Bool.{both_ways, eqb-true, or_cases}
use Rattle.pact_record.specs.declared.values.Value.{Value}
use Rattle.pact_record.specs.Keys.{is_listed}
use Rattle.pact_record.specs.Record.{Agree, at_field, key_of}
use Rattle.tac_syntax.specs.Call.{CallInput, of_record}
use Rattle.tac_syntax.specs.Contexts.{FieldSet, Ports}
use Rattle.tac_syntax.specs.Forms.{AreApart, IsWithin, KeepsGroups}
use Rattle.pact_operators.specs.Allowed.{Bag}
use Rattle.reorder_pair.proofs.FunctionForms.{Row}
use Rattle.reorder_pair.proofs.Maps.{IsLawful-record}

-- stated by the set of fields that its records may hold
pub record KeepsRecords (fields : ℕ) (set : ℕ → Type 0) (keys : FieldSet) (f : Row → Bag) : Type 0 where
  pub few : (r : Row) → IsWithin fields set r → length (f r) ≤ 1
  pub decided : ((r : Row) → IsWithin fields set r → length (f r) ≡ 1)
      ⊎ ((r s : Row) → IsWithin fields set r → IsWithin fields set s → Agree keys r s → length (f r) ≡ length (f s))

pub records_kept : (fields : ℕ) (c : Ports) (keys : FieldSet) (call : CallInput → Bag) → AreApart c.left c.right → KeepsGroups fields c keys call → KeepsRecords fields c.left keys (λ r. call (of_record r))
records_kept fields c keys call apart h = record {
  few = λ r fr. h.few r (IsLawful-record fields c r apart fr);
  decided = elim h.decided as (λ _. ((r : Row) → IsWithin fields c.left r → length (call (of_record r)) ≡ 1)
      ⊎ ((r s : Row) → IsWithin fields c.left r → IsWithin fields c.left s → Agree keys r s → length (call (of_record r)) ≡ length (call (of_record s)))) [
        | inl one ↦ inl (λ r fr. one r (IsLawful-record fields c r apart fr))
        | inr as_many ↦ inr (λ r s fr fs agree. as_many r s (IsLawful-record fields c r apart fr) (IsLawful-record fields c s apart fs) agree)
      ];
}

-- ---- records that have the same key

same_first : (a b : Value) (r s : Row) → (a ∷ r) ≡ (b ∷ s) → a ≡ b
same_first a b r s e = cc

same_rest : (a b : Value) (r s : Row) → (a ∷ r) ≡ (b ∷ s) → r ≡ s
same_rest a b r s e = cc

pub Agree-keys : (keys : List ℕ) (r s : Row) → key_of keys r ≡ key_of keys s → Agree (is_listed keys) r s
Agree-keys [] r s e i is = absurd (both_ways false refl is)
Agree-keys (k ∷ keys) r s e i is = elim (or_cases (i == k) (is_listed keys i) is) as (λ _. at_field r i ≡ at_field s i) [
  | inl here ↦ let same = eqb-true i k here in ap (at_field r) same ∙ same_first (at_field r k) (at_field s k) (key_of keys r) (key_of keys s) e ∙ sym (ap (at_field s) same)
  | inr there ↦ Agree-keys keys r s (same_rest (at_field r k) (at_field s k) (key_of keys r) (key_of keys s) e) i there
]
