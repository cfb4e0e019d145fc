-- Sets from their strictly rising fields.
use Rattle.std.proofs.Common.{◌≡◌, ◌<◌, ◌≤◌, ◌+◌, ◌-◌, ◌/◌, ◌^◌, ◌==◌, ◌||◌, ◌++◌, ℕ, zero, suc, Bool, true, false, cond, List, [], ◌∷◌, map, drop, take, length, get_or, refl, sym, ap, subst, ◌∙◌, arith, append-nil, append_assoc, ne_eqb}
use Rattle.std.proofs.Math.Nat.{pow-suc}
use Rattle.std.proofs.Math.Numerals.{suc-eq-add-one}
use Rattle.std.proofs.lemmas.Bool.{eq-eqb}
use Rattle.std.proofs.lemmas.Bool.Decides.{nat_tests}
use Rattle.std.proofs.lemmas.List.{drop_more, map-append, take_all, take_more}
use Rattle.std.proofs.lemmas.Nat.Bits.{bit_at-lt, bit_at-suc, bit_at-zero, same_from_bits}
use Rattle.std.specs.Int.{bit_at}
use Rattle.pact_record.specs.declared.records.TheConstants.{MAX_FIELDS}
use Rattle.pact_record.specs.FieldSets.{IsEmpty, has_field}
use Rattle.pact_record.proofs.Members.{has_field-above}
use Rattle.plan_printer.specs.FoundText.{rising_fields}
use Rattle.plan_printer.proofs.RisingFields.{rising_fields-zero, rising_fields-with, rising_fields-without}
use Rattle.serde_json.specs.Data.{Data}
use Rattle.serde_json.specs.View.{view}
use Rattle.serde_json.specs.declared.value.Value.{Value}
use Rattle.swap_certificate.specs.RisingData.{RisesFrom}
use Rattle.swap_certificate.specs.Shape.{IsSet, whole}
use Rattle.swap_certificate.proofs.OneShape.{whole_one}

-- the set has no field from this number on
abbrev pub EndsBelow : ℕ → ℕ → Type 0
EndsBelow set n = (k : ℕ) → n ≤ k → has_field set k ≡ false

-- ---- the fields of a set below a number

rising_fields-same : (a b n : ℕ) → ((k : ℕ) → k < n → has_field a k ≡ has_field b k) → rising_fields a n ≡ rising_fields b n
unfolding rising_fields
rising_fields-same a b zero h = refl
rising_fields-same a b (suc n) h =
    let rest = rising_fields-same a b n (λ k lt. h k (omega (arith, lt))) in
    let last = h n (omega arith) in
    λ i. rest i ++ cond (last i) (n ∷ []) []

rising_fields-no_more : (set least more : ℕ) → EndsBelow set least → rising_fields set (least + more) ≡ rising_fields set least
rising_fields-no_more set least zero h = ap (rising_fields set) (omega arith)
rising_fields-no_more set least (suc more) h =
    ap (rising_fields set) (omega arith) ∙ rising_fields-without set (least + more) (h (least + more) (omega arith)) ∙ rising_fields-no_more set least more h

rising_fields-ended : (set least n : ℕ) → least ≤ n → EndsBelow set least → rising_fields set n ≡ rising_fields set least
rising_fields-ended set least n le h = ap (rising_fields set) (omega (arith, le)) ∙ rising_fields-no_more set least (n - least) h

-- ---- one more field, greater than all others

abbrev AddsField : ℕ → ℕ → ℕ → Type 0
AddsField set new field = (k : ℕ) → has_field new k ≡ ((k == field) || has_field set k)

added-has : (set new field : ℕ) → AddsField set new field → has_field new field ≡ true
added-has set new field h = h field ∙ ap (λ (b : Bool). b || has_field set field) (eq-eqb field field refl)

added-same : (set new field k : ℕ) → AddsField set new field → (k ≡ field → ⊥) → has_field new k ≡ has_field set k
added-same set new field k h other = h k ∙ ap (λ (b : Bool). b || has_field set k) (ne_eqb k field other)

rising_fields-added : (set new least field : ℕ) → least ≤ field → EndsBelow set least → AddsField set new field → rising_fields new (field + 1) ≡ rising_fields set least ++ field ∷ []
rising_fields-added set new least field le ends h =
    rising_fields-with new field (added-has set new field h)
    ∙ ap (λ (fields : List ℕ). fields ++ field ∷ []) (rising_fields-same new set field (λ k lt. added-same set new field k h (λ e. omega (arith, lt, e))) ∙ rising_fields-ended set least field le ends)

added-ends : (set new least field : ℕ) → least ≤ field → EndsBelow set least → AddsField set new field → EndsBelow new (field + 1)
added-ends set new least field le ends h k above = added-same set new field k h (λ e. omega (arith, above, e)) ∙ ends k (omega (arith, le, above))

-- ---- rising values

RisesFrom-rest : (most least field : ℕ) (d : Data) (ds : List Data) → d ≡ whole field → RisesFrom most least (d ∷ ds) → RisesFrom most (field + 1) ds
RisesFrom-rest most least field d ds e h = subst (λ (n : ℕ). RisesFrom most (n + 1) ds) (whole_one h.0 field (sym h.1 ∙ e)) h.4

RisesFrom-weaker : (most least less : ℕ) (ds : List Data) → less ≤ least → RisesFrom most least ds → RisesFrom most less ds
RisesFrom-weaker most least less [] le h = tt
RisesFrom-weaker most least less (d ∷ ds) le h = (h.0, h.1, omega (arith, le, h.2), h.3, h.4)

-- rising fields below a number, followed by values that rise from there
one-then : (most : ℕ) (has : Bool) (before : List ℕ) (n : ℕ) (ds : List Data) → n < most → RisesFrom most (suc n) ds → ((es : List Data) → RisesFrom most n es → RisesFrom most 0 (map whole before ++ es))
    → RisesFrom most 0 (map whole (before ++ cond has (n ∷ []) []) ++ ds)
one-then most true before n ds lt h rest =
    let all = rest (whole n ∷ ds) (n, refl, omega arith, lt, subst (λ (m : ℕ). RisesFrom most m ds) (suc-eq-add-one n) h) in
    subst (RisesFrom most 0) (sym (ap (λ (es : List Data). es ++ ds) (map-append whole before (n ∷ [])) ∙ append_assoc (map whole before) (whole n ∷ []) ds)) all
one-then most false before n ds lt h rest = subst (λ (fields : List ℕ). RisesFrom most 0 (map whole fields ++ ds)) (sym (append-nil before)) (rest ds (RisesFrom-weaker most (suc n) n ds (omega arith) h))

fields-then : (most set n : ℕ) (ds : List Data) → n ≤ most → RisesFrom most n ds → RisesFrom most 0 (map whole (rising_fields set n) ++ ds)
unfolding rising_fields
fields-then most set zero ds le h = h
fields-then most set (suc n) ds le h =
    one-then most (has_field set n) (rising_fields set n) n ds (omega (arith, le)) h (λ es g. fields-then most set n es (omega (arith, le)) g)

-- all fields of a set are below the limit that bounds its bits
set-ends : (most set : ℕ) → IsSet most set → EndsBelow set most
set-ends most set small k le = has_field-above most set k small le

pub rising_fields-rise : (most set : ℕ) → most ≤ MAX_FIELDS → IsSet most set → RisesFrom most 0 (map whole (rising_fields set MAX_FIELDS))
rising_fields-rise most set wide small =
    let rise = subst (RisesFrom most 0) (append-nil (map whole (rising_fields set most))) (fields-then most set most [] (omega arith) tt) in
    subst (λ (fields : List ℕ). RisesFrom most 0 (map whole fields)) (sym (rising_fields-ended set most MAX_FIELDS wide (set-ends most set small))) rise

-- ---- a set whose fields are all below a limit is a valid set for that limit

no_bit : (set k : ℕ) → has_field set k ≡ false → bit_at set k ≡ 0
unfolding has_field
no_bit set k h = let small = bit_at-lt set k in grind (arith, nat_tests)

below_from_bits : (w n : ℕ) → ((i : ℕ) → w ≤ i → bit_at n i ≡ 0) → n < 2 ^ w
below_from_bits zero n h = let none : n ≡ 0 = same_from_bits n 0 (λ i. h i (omega arith) ∙ sym (bit_at-zero i)) in omega (arith, none)
below_from_bits (suc w) n h =
    let half = below_from_bits w (n / 2) (λ i le. sym (bit_at-suc n i) ∙ h (suc i) (omega (arith, le))) in
    omega (arith, half, pow-suc 2 w)

pub ended-is_set : (most set n : ℕ) → n ≤ most → EndsBelow set n → IsSet most set
ended-is_set most set n le ends = below_from_bits most set (λ i above. no_bit set i (ends i (omega (arith, le, above))))

-- ---- one more value in the walk over the values

-- After n values were read, the set has exactly their fields. If all values rise from 0, the remaining ones rise from
-- `least`, the least field that may still come.
pub record HasRead (most : ℕ) (items : List Value) (n set least : ℕ) : Type 0 where
  pub within : least ≤ most
  pub ends : EndsBelow set least
  pub fields : map view (take n items) ≡ map whole (rising_fields set least)
  pub rest : RisesFrom most 0 (map view items) → RisesFrom most least (map view (drop n items))

pub nothing-read : (most : ℕ) (items : List Value) (set : ℕ) → IsEmpty set → HasRead most items 0 set 0
nothing-read most items set h = record { within = omega arith; ends = λ k _. h k; fields = sym (ap (map whole) (rising_fields-zero set)); rest = λ r. r }

next-rises : (most : ℕ) (items : List Value) (n set least : ℕ) (x : Value) → HasRead most items n set least → n < length items → x ≡ get_or items n x → RisesFrom most 0 (map view items)
    → RisesFrom most least (view x ∷ map view (drop (n + 1) items))
next-rises most items n set least x h lt e r =
    let first : drop n items ≡ x ∷ drop (n + 1) items = drop_more items n x lt ∙ ap (λ (y : Value). y ∷ drop (n + 1) items) (sym e) in
    subst (λ (ys : List Value). RisesFrom most least (map view ys)) first (h.rest r)

pub field-read : (most : ℕ) (items : List Value) (n set least : ℕ) (x : Value) (field new : ℕ) → HasRead most items n set least → n < length items → x ≡ get_or items n x
    → least ≤ field → 1 ≤ most → field ≤ most - 1 → view x ≡ whole field → AddsField set new field → HasRead most items (n + 1) new (field + 1)
field-read most items n set least x field new h lt e le some small is adds =
    let front : take (n + 1) items ≡ take n items ++ x ∷ [] = take_more items n x lt ∙ ap (λ (y : Value). take n items ++ y ∷ []) (sym e) in
    record {
      within = omega (arith, some, small);
      ends = added-ends set new least field le h.ends adds;
      fields = ap (map view) front ∙ map-append view (take n items) (x ∷ []) ∙ (λ i. h.fields i ++ is i ∷ [])
          ∙ sym (ap (map whole) (rising_fields-added set new least field le h.ends adds) ∙ map-append whole (rising_fields set least) (field ∷ []));
      rest = λ r. RisesFrom-rest most least field (view x) (map view (drop (n + 1) items)) is (next-rises most items n set least x h lt e r);
    }

pub all-read : (most : ℕ) (items : List Value) (n set least : ℕ) → most ≤ MAX_FIELDS → length items ≤ n → HasRead most items n set least → map view items ≡ map whole (rising_fields set MAX_FIELDS)
all-read most items n set least wide le h =
    ap (map view) (sym (take_all n items le)) ∙ h.fields ∙ sym (ap (map whole) (rising_fields-ended set least MAX_FIELDS (omega (arith, wide, h.within)) h.ends))
