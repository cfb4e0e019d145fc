-- For a record, the function that keeps the fields of a set emits one record, which agrees with it on the set.
use Rattle.std.proofs.Common.{◌≡◌, ◌∙◌, ◌<◌, ◌+◌, ◌==◌, ◌⊎◌, inl, inr, ℕ, true, List, [], ◌∷◌, ◌++◌, length, slice_set, replicate, refl, sym, subst, arith}
use Rattle.std.specs.List.{AllByRecursion}
use Rattle.std.proofs.lemmas.Bool.{cases_Bool, cases_lt, eq-eqb, eqb-true, or_cases, true≢false, both_ways}
use Rattle.std.proofs.lemmas.List.{get_or-set_other, get_or-set_same, length-replicate, length-set}
use Rattle.pact_record.specs.declared.values.Value.{Value}
use Rattle.pact_record.specs.declared.values.Value.TheVariants.{Null}
use Rattle.pact_record.specs.Keys.{is_listed}
use Rattle.pact_record.specs.Record.{Agree, at_field}
use Rattle.tac_syntax.specs.Call.{Out, Store, empty_record, of_record}
use Rattle.tac_syntax.specs.Contexts.{FieldSet, IsBelow}
use Rattle.tac_syntax.specs.Exec.{exec}
use Rattle.tac_syntax.proofs.StepsAsRecursion.{Out-exec}
use Rattle.prune_fields.specs.KeepFunctions.{keep_body, kept_fields, members}
use Rattle.prune_fields.proofs.Members.{members-below, members-listed}

-- a record with these fields copied from another one
abbrev pub with_fields : List ℕ → (from onto : List Value) → List Value
with_fields [] from onto = onto
with_fields (k ∷ ks) from onto = with_fields ks from (slice_set onto k (at_field from k))

-- a field that was copied has its value
with_fields-at : (ks : List ℕ) (from onto : List Value) (k : ℕ) → AllByRecursion (λ j. j < length onto) ks
    → (at_field onto k ≡ at_field from k) ⊎ (is_listed ks k ≡ true) → at_field (with_fields ks from onto) k ≡ at_field from k
with_fields-at [] from onto k below (inl e) = e
with_fields-at [] from onto k below (inr e) = absurd (true≢false (sym e))
with_fields-at (j ∷ ks) from onto k below h =
    let now = slice_set onto j (at_field from j) in
    let still = subst (λ (n : ℕ). AllByRecursion (λ i. i < n) ks) (sym (length-set onto j (at_field from j))) below.1 in
    elim (cases_Bool (k == j)) as (λ _. at_field (with_fields ks from now) k ≡ at_field from k) [
      | inl e ↦
          let same : j ≡ k = sym (eqb-true k j e) in
          with_fields-at ks from now k still
          (inl (subst (λ (i : ℕ). at_field now i ≡ at_field from i) same (get_or-set_same onto j (at_field from j) Null below.0)))
      | inr e ↦
          with_fields-at ks from now k still (elim h as (λ _. (at_field now k ≡ at_field from k) ⊎ (is_listed ks k ≡ true)) [
            | inl f ↦ inl (get_or-set_other onto j k (at_field from j) Null (λ (s : k ≡ j). both_ways (k == j) e (eq-eqb k j s)) ∙ f)
            | inr f ↦ elim (or_cases (k == j) (is_listed ks k) f) as (λ _. (at_field now k ≡ at_field from k) ⊎ (is_listed ks k ≡ true)) [
              | inl g ↦ absurd (both_ways (k == j) e g)
              | inr g ↦ inr g
            ]
          ])
    ]

-- ---- the call

-- the store at the start of such a call
abbrev started : ℕ → List Value → (values : List Value) → (records loops emitted : List (List Value)) → Store
started fields row values records loops emitted =
    record { fields = fields; input = of_record row; values = values; records = records; loops = loops; emitted = emitted }

kept_emits : (ks : List ℕ) (fields : ℕ) (row r : List Value) (v : Value) (vs : List Value) (rs loops emitted : List (List Value))
    → (exec (kept_fields ks) (started fields row (v ∷ vs) (r ∷ rs) loops emitted)).emitted ≡ emitted ++ with_fields ks row r ∷ []
kept_emits [] fields row r v vs rs loops emitted = refl
kept_emits (k ∷ ks) fields row r v vs rs loops emitted =
    kept_emits ks fields row (slice_set r k (at_field row k)) (at_field row k) vs rs loops emitted

pub keep_gives : (fields : ℕ) (s : FieldSet) (row : List Value)
    → Out fields (keep_body fields s) (of_record row) ≡ with_fields (members fields s) row (empty_record fields) ∷ []
keep_gives fields s row =
    Out-exec fields (keep_body fields s) (of_record row)
    ∙ kept_emits (members fields s) fields row (empty_record fields) Null (replicate 31 Null) (replicate 7 (empty_record fields)) [] []

-- the call emits one record that agrees with its input on the set
pub keep_agrees : (fields : ℕ) (s : FieldSet) (row : List Value) → IsBelow fields s
    → Agree s row (with_fields (members fields s) row (empty_record fields))
keep_agrees fields s row below k is =
    let long = length-replicate fields Null in
    sym (with_fields-at (members fields s) row (empty_record fields) k
    (subst (λ (n : ℕ). AllByRecursion (λ j. j < n) (members fields s)) (sym long) (members-below s 0 fields fields (omega arith)))
    (inr (members-listed s 0 fields k (omega arith) (inside k is) is)))
  where
    inside : (k : ℕ) → s k ≡ true → k < 0 + fields
    inside k is = elim (cases_lt k fields) as (λ _. k < 0 + fields) [ inl p ↦ omega (arith, p) | inr p ↦ absurd (both_ways (s k) (below k p) is) ]
