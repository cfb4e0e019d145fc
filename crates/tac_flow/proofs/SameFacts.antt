-- States that a test in the code finds equal are equal.
use Rattle.std.proofs.Common.{◌≡◌, ◌==◌, Bool, true, List, [], ◌∷◌, refl, ap}
use Rattle.std.specs.Cmp.Lexicographic.{pointwise}
use Rattle.std.proofs.lemmas.Bool.{and_parts, eqb-true}
use Rattle.tac_syntax.specs.contracts.contexts.SidePartialEq.TheImpl as side_eq
use Rattle.tac_flow.specs.contracts.bases.BasePartialEq.TheImpl as base_eq
use Rattle.tac_flow.specs.contracts.bases.OriginPartialEq.TheImpl as origin_eq
use Rattle.tac_flow.specs.contracts.facts.ValueFactsPartialEq.TheImpl as value_eq
use Rattle.tac_flow.specs.contracts.facts.RecordFactsPartialEq.TheImpl as record_eq
use Rattle.tac_flow.specs.contracts.facts.FactsPartialEq.TheImpl as facts_eq
use Rattle.tac_flow.specs.declared.facts.ValueFacts.{ValueFacts}
use Rattle.tac_flow.specs.declared.facts.RecordFacts.{RecordFacts}
use Rattle.tac_flow.specs.declared.facts.Facts.{Facts}
use Rattle.tac_flow.specs.Known.{Side, left, right, Base, first, bound, some, nowhere, Origin, field_of, key_at, unknown}

one_side : (a b : Side) → (side_eq.ghosts).eq a b ≡ true → a ≡ b
one_side left left h = refl
one_side right right h = refl
one_side a b h = cc

one_base : (a b : Base) → (base_eq.eq-value).it a b ≡ true → a ≡ b
one_base first first h = refl
one_base (bound n s) (bound m t) h = let both = and_parts (n == m) _ h in λ i. bound (eqb-true n m both.0 i) (one_side s t both.1 i)
one_base (some s) (some t) h = ap some (one_side s t h)
one_base nowhere nowhere h = refl
one_base a b h = cc

one_origin : (a b : Origin) → (origin_eq.eq-value).it a b ≡ true → a ≡ b
one_origin (field_of a k) (field_of b m) h =
    let both = and_parts ((base_eq.eq-value).it a b) (k == m) h in λ i. field_of (one_base a b both.0 i) (eqb-true k m both.1 i)
one_origin (key_at k) (key_at m) h = λ i. key_at (eqb-true k m h i)
one_origin unknown unknown h = refl
one_origin a b h = cc

one_value : (a b : ValueFacts) → (value_eq.eq-value).it a b ≡ true → a ≡ b
one_value a b h =
    let both = and_parts (a.deps == b.deps) _ h in
    λ i. record { deps = eqb-true a.deps b.deps both.0 i; origin = one_origin a.origin b.origin both.1 i }

one_record : (a b : RecordFacts) → (record_eq.eq-value).it a b ≡ true → a ≡ b
one_record a b h =
    let base = and_parts ((base_eq.eq-value).it a.base b.base) _ h in
    let sets = and_parts (a.changed == b.changed) _ base.1 in
    λ i. record { base = one_base a.base b.base base.0 i; changed = eqb-true a.changed b.changed sets.0 i; depends = eqb-true a.depends b.depends sets.1 i }

one_list : {A : Type 0} (same : A → A → Bool) → ((x y : A) → same x y ≡ true → x ≡ y) → (xs ys : List A) → pointwise same xs ys ≡ true → xs ≡ ys
one_list same one [] [] h = refl
one_list same one (x ∷ xs) (y ∷ ys) h = let both = and_parts (same x y) _ h in λ i. one x y both.0 i ∷ one_list same one xs ys both.1 i
one_list same one xs ys h = cc

pub one_state : (a b : Facts) → (facts_eq.eq-value).it a b ≡ true → a ≡ b
one_state a b h =
    let both = and_parts (pointwise (value_eq.eq-value).it a.values b.values) _ h in
    λ i. record { values = one_list (value_eq.eq-value).it one_value a.values b.values both.0 i; records = one_list (record_eq.eq-value).it one_record a.records b.records both.1 i }
