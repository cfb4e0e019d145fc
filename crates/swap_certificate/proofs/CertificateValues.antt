-- Certificates as JSON values: the fields of a set one after another, no float, limited nesting, and one more step.
use Rattle.std.proofs.Common.{◌≡◌, ◌<◌, ◌≤◌, ◌+◌, ◌++◌, ℕ, true, false, List, [], ◌∷◌, map, get_or, length, take, refl, ap, ◌∙◌, arith, sym}
use Rattle.std.proofs.lemmas.List.{map-append, take_more}
use Rattle.pact_record.specs.declared.records.TheConstants.{MAX_FIELDS}
use Rattle.pact_record.specs.FieldSets.{has_field}
use Rattle.plan_printer.specs.FoundText.{rising_fields}
use Rattle.plan_printer.proofs.RisingFields.{rising_fields-with, rising_fields-without}
use Rattle.reorder_pair.specs.declared.finding.Found.{Found}
use Rattle.serde_json.specs.Data.{depth, items_depth}
use Rattle.serde_json.specs.Read.{max_depth}
use Rattle.serde_json.specs.View.{items_of, view}
use Rattle.serde_json.specs.declared.value.Value.{Value}
use Rattle.serde_json.specs.Written.{has_float, items_have_float}
use Rattle.swap_certificate.specs.declared.certificates.Certificate.{Certificate}
use Rattle.swap_certificate.specs.declared.certificates.Step.{Step}
use Rattle.swap_certificate.specs.Shape.{certificate_data, found_data, step_data, whole}

-- ---- the fields of a set below a number, with one more number

pub wholes-with : (set n : ℕ) → has_field set n ≡ true → map whole (rising_fields set (n + 1)) ≡ map whole (rising_fields set n) ++ whole n ∷ []
wholes-with set n h = ap (map whole) (rising_fields-with set n h) ∙ map-append whole (rising_fields set n) (n ∷ [])

pub wholes-without : (set n : ℕ) → has_field set n ≡ false → map whole (rising_fields set (n + 1)) ≡ map whole (rising_fields set n)
wholes-without set n h = ap (map whole) (rising_fields-without set n h)

-- ---- no float

wholes-plain : (ns : List ℕ) → items_have_float (items_of (map whole ns)) ≡ false
wholes-plain [] = refl
wholes-plain (n ∷ ns) = wholes-plain ns

abbrev fields : ℕ → List ℕ
fields set = rising_fields set MAX_FIELDS

found-plain : (f : Found) → has_float (found_data f) ≡ false
found-plain f = rw (wholes-plain (fields f.sets.control), wholes-plain (fields f.sets.reads), wholes-plain (fields f.sets.touched), wholes-plain (fields f.sets.writes)) refl

steps-plain : (steps : List Step) → items_have_float (items_of (map step_data steps)) ≡ false
steps-plain [] = refl
steps-plain (s ∷ steps) = rw (found-plain s.lower, found-plain s.upper, steps-plain steps) refl

pub certificate-plain : (c : Certificate) → has_float (certificate_data c) ≡ false
certificate-plain c = rw (steps-plain c.steps) refl

-- ---- limited nesting

wholes-flat : (ns : List ℕ) → items_depth (items_of (map whole ns)) ≡ 0
wholes-flat [] = refl
wholes-flat (n ∷ ns) = rw (wholes-flat ns) refl

found-depth : (f : Found) → depth (found_data f) ≡ 2
found-depth f = rw (wholes-flat (fields f.sets.control), wholes-flat (fields f.sets.reads), wholes-flat (fields f.sets.touched), wholes-flat (fields f.sets.writes)) refl

steps-depth : (steps : List Step) → items_depth (items_of (map step_data steps)) ≤ 3
steps-depth [] = omega arith
steps-depth (s ∷ steps) = let rest = steps-depth steps in rw (found-depth s.lower, found-depth s.upper) (omega (arith, rest))

pub certificate-depth : (c : Certificate) → depth (certificate_data c) ≤ max_depth
certificate-depth c = let h = steps-depth c.steps in omega (arith, h)

-- ---- the value of one more step

pub one_value_more : (values : List Value) (steps : List Step) (n : ℕ) (v : Value) (s : Step) → map view values ≡ map step_data (take n steps) → n < length steps
    → s ≡ get_or steps n s → view v ≡ step_data s → map view (values ++ v ∷ []) ≡ map step_data (take (n + 1) steps)
one_value_more values steps n v s e lt is h =
    let front : take (n + 1) steps ≡ take n steps ++ s ∷ [] = take_more steps n s lt ∙ ap (λ (t : Step). take n steps ++ t ∷ []) (sym is) in
    map-append view values (v ∷ []) ∙ (λ i. e i ++ h i ∷ []) ∙ sym (ap (map step_data) front ∙ map-append step_data (take n steps) (s ∷ []))
