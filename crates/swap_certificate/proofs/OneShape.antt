-- A JSON value belongs to one certificate.
use Rattle.std.proofs.Common.{◌≡◌, ◌<◌, ◌≤◌, ◌==◌, ◌||◌, inl, inr, ℕ, zero, suc, Bool, true, false, cond, List, [], ◌∷◌, map, codes, bytes_eq, IsUtf8, Some, refl, sym, ap, subst, ◌∙◌, arith}
use Rattle.std.proofs.lemmas.Bool.{cases_lt, or_from}
use Rattle.std.proofs.lemmas.Bool.Decides.{nat_tests}
use Rattle.std.proofs.lemmas.List.Folds.{list_any-append}
use Rattle.std.proofs.lemmas.Nat.Bits.{bit_at-lt, same_from_bits_below}
use Rattle.std.specs.Int.{bit_at}
use Rattle.std.specs.List.{AllByRecursion, list_any}
use Rattle.pact_record.specs.declared.records.TheConstants.{MAX_FIELDS}
use Rattle.pact_record.specs.FieldSets.{has_field}
use Rattle.tac_syntax.specs.Versions.{field_limit}
use Rattle.tac_syntax.proofs.FieldLimits.{wide_limit}
use Rattle.plan_printer.specs.FoundText.{anchor_word, rising_fields}
use Rattle.reorder_pair.specs.declared.finding.Found.{Found}
use Rattle.serde_json.specs.Data.{Data, Items, Members, null, boolean, number, string, array, object, no_members, member, item}
use Rattle.serde_json.specs.Read.{read}
use Rattle.serde_json.specs.View.{items_of}
use Rattle.swap_certificate.specs.declared.certificates.Certificate.{Certificate}
use Rattle.swap_certificate.specs.declared.certificates.Step.{Step}
use Rattle.swap_certificate.specs.Shape.{IsCertificateText, IsSet, IsShaped, MayBeFound, MayBeStated, MayBeStep, certificate_data, found_data, set_data, step_data, whole}

-- ---- a set has exactly its listed fields

is_in : ℕ → List ℕ → Bool
is_in k ns = list_any (λ n. n == k) ns

-- the list that one more number adds if the set has it
abbrev maybe : Bool → ℕ → List ℕ
maybe has n = cond has (n ∷ []) []

maybe-other : (has : Bool) (n k : ℕ) → (n == k) ≡ false → is_in k (maybe has n) ≡ false
unfolding is_in
maybe-other true n k h = rw h refl
maybe-other false n k h = refl

maybe-same : (has : Bool) (n k : ℕ) → (n == k) ≡ true → is_in k (maybe has n) ≡ has
unfolding is_in
maybe-same true n k h = rw h refl
maybe-same false n k h = refl

rising_fields-in : (set n k : ℕ) → is_in k (rising_fields set (suc n)) ≡ (is_in k (rising_fields set n) || is_in k (maybe (has_field set n) n))
unfolding rising_fields is_in
rising_fields-in set n k = list_any-append (λ m. m == k) (rising_fields set n) (maybe (has_field set n) n)

above-not_in : (set n k : ℕ) → n ≤ k → is_in k (rising_fields set n) ≡ false
unfolding rising_fields is_in
above-not_in set zero k h = refl
above-not_in set (suc n) k h =
    let differs : (n == k) ≡ false = grind (arith, nat_tests) in
    rising_fields-in set n k ∙ or_from _ _ (above-not_in set n k (omega (arith, h))) (maybe-other (has_field set n) n k differs)

or-right : (a b c : Bool) → a ≡ false → b ≡ c → (a || b) ≡ c
or-right a b c h k = rw (h, k) refl

or-left : (a b c : Bool) → b ≡ false → a ≡ c → (a || b) ≡ c
or-left true b c h k = k
or-left false b c h k = h ∙ k

listed-is_set : (set n k : ℕ) → k < n → is_in k (rising_fields set n) ≡ has_field set k
listed-is_set set zero k h = absurd (omega (arith, h))
listed-is_set set (suc n) k h = elim (cases_lt k n) [
  | inl below ↦
      let differs : (n == k) ≡ false = grind (arith, nat_tests) in
      rising_fields-in set n k ∙ or-left _ _ _ (maybe-other (has_field set n) n k differs) (listed-is_set set n k below)
  | inr above ↦
      let same : n ≡ k = omega (arith, h, above) in
      let test : (n == k) ≡ true = grind (arith, nat_tests) in
      rising_fields-in set n k ∙ or-right _ _ _ (above-not_in set n k above) (maybe-same (has_field set n) n k test ∙ ap (has_field set) same)
]

same_bit : (a b k : ℕ) → has_field a k ≡ has_field b k → bit_at a k ≡ bit_at b k
unfolding has_field
same_bit a b k e = let x = bit_at-lt a k in let y = bit_at-lt b k in grind (arith, nat_tests)

listed_one : (most a b : ℕ) → most ≤ MAX_FIELDS → IsSet most a → IsSet most b → rising_fields a MAX_FIELDS ≡ rising_fields b MAX_FIELDS → a ≡ b
listed_one most a b wide small few e =
    same_from_bits_below most a b small few
    (λ i less. same_bit a b i (sym (listed-is_set a MAX_FIELDS i (omega (arith, less, wide))) ∙ ap (is_in i) e ∙ listed-is_set b MAX_FIELDS i (omega (arith, less, wide))))

-- ---- parts of a value

pub array_one : (xs ys : Items) → array xs ≡ array ys → xs ≡ ys
array_one xs ys e = cc

string_one : (a b : List ℕ) → string a ≡ string b → a ≡ b
string_one a b e = cc

pub whole_one : (a b : ℕ) → whole a ≡ whole b → a ≡ b
whole_one a b e = cc

pub item_one : (a b : Data) (xs ys : Items) → item a xs ≡ item b ys → (a ≡ b) × (xs ≡ ys)
item_one a b xs ys e = (cc, cc)

wholes_one : (ms ns : List ℕ) → items_of (map whole ms) ≡ items_of (map whole ns) → ms ≡ ns
wholes_one [] [] e = refl
wholes_one [] (n ∷ ns) e = absurd (cc)
wholes_one (m ∷ ms) [] e = absurd (cc)
wholes_one (m ∷ ms) (n ∷ ns) e =
    let both = item_one (whole m) (whole n) (items_of (map whole ms)) (items_of (map whole ns)) e in
    let first = whole_one m n both.0 in
    let rest = wholes_one ms ns both.1 in
    λ i. first i ∷ rest i

-- the value of the member at a place
abbrev member_at : ℕ → Members → Data
member_at n no_members = null
member_at zero (member key d rest) = d
member_at (suc n) (member key d rest) = member_at n rest

abbrev part : ℕ → Data → Data
part n null = null
part n (boolean b) = null
part n (number x) = null
part n (string s) = null
part n (array ds) = null
part n (object entries) = member_at n entries

-- ---- a value belongs to one certificate

set_one : (most a b : ℕ) → most ≤ MAX_FIELDS → IsSet most a → IsSet most b → set_data a ≡ set_data b → a ≡ b
set_one most a b wide small few e = listed_one most a b wide small few (wholes_one (rising_fields a MAX_FIELDS) (rising_fields b MAX_FIELDS) (array_one _ _ e))

sides_of : List ℕ → Bool × Bool
sides_of word = (bytes_eq word (codes "both") || bytes_eq word (codes "left"), bytes_eq word (codes "both") || bytes_eq word (codes "right"))

sides_of-word : (left right : Bool) → sides_of (anchor_word left right) ≡ (left, right)
unfolding sides_of
sides_of-word true true = refl
sides_of-word true false = refl
sides_of-word false true = refl
sides_of-word false false = refl

found_one : (most : ℕ) (f g : Found) → most ≤ MAX_FIELDS → MayBeFound most f → MayBeFound most g → found_data f ≡ found_data g → f ≡ g
found_one most f g wide may can e =
    let sides : (f.sets.anchor_left, f.sets.anchor_right) ≡ (g.sets.anchor_left, g.sets.anchor_right) =
    sym (sides_of-word f.sets.anchor_left f.sets.anchor_right) ∙ ap sides_of (string_one _ _ (ap (part 0) e)) ∙ sides_of-word g.sets.anchor_left g.sets.anchor_right in
    let control = set_one most f.sets.control g.sets.control wide may.sets.control can.sets.control (ap (part 1) e) in
    let hi = whole_one f.hi g.hi (ap (part 2) e) in
    let lo = whole_one f.lo g.lo (ap (part 3) e) in
    let reads = set_one most f.sets.reads g.sets.reads wide may.sets.reads can.sets.reads (ap (part 4) e) in
    let touched = set_one most f.sets.touched g.sets.touched wide may.sets.touched can.sets.touched (ap (part 5) e) in
    let writes = set_one most f.sets.writes g.sets.writes wide may.sets.writes can.sets.writes (ap (part 6) e) in
    λ i. record {
      sets = record { reads = reads i; writes = writes i; control = control i; touched = touched i; anchor_left = (sides i).0; anchor_right = (sides i).1 };
      lo = lo i;
      hi = hi i;
    }

step_one : (most : ℕ) (s t : Step) → most ≤ MAX_FIELDS → MayBeStep most s → MayBeStep most t → step_data s ≡ step_data t → s ≡ t
step_one most s t wide may can e =
    let at = string_one s.at t.at (ap (part 0) e) in
    let lower = found_one most s.lower t.lower wide may.lower can.lower (ap (part 1) e) in
    let rule = string_one s.rule t.rule (ap (part 2) e) in
    let upper = found_one most s.upper t.upper wide may.upper can.upper (ap (part 3) e) in
    λ i. record { rule = rule i; at = at i; upper = upper i; lower = lower i }

steps_one : (most : ℕ) (ss ts : List Step) → most ≤ MAX_FIELDS → AllByRecursion (MayBeStep most) ss → AllByRecursion (MayBeStep most) ts → items_of (map step_data ss) ≡ items_of (map step_data ts) → ss ≡ ts
steps_one most [] [] wide may can e = refl
steps_one most [] (t ∷ ts) wide may can e = absurd (cc)
steps_one most (s ∷ ss) [] wide may can e = absurd (cc)
steps_one most (s ∷ ss) (t ∷ ts) wide may can e =
    let both = item_one (step_data s) (step_data t) (items_of (map step_data ss)) (items_of (map step_data ts)) e in
    let first = step_one most s t wide may.0 can.0 both.0 in
    let rest = steps_one most ss ts wide may.1 can.1 both.1 in
    λ i. first i ∷ rest i

pub certificate_one : (c d : Certificate) → MayBeStated c → MayBeStated d → certificate_data c ≡ certificate_data d → c ≡ d
certificate_one c d may can e =
    let version = whole_one c.version d.version (ap (part 2) e) in
    let same = subst (λ (v : ℕ). AllByRecursion (MayBeStep (field_limit v)) d.steps) (sym version) can.steps in
    let steps = steps_one (field_limit c.version) c.steps d.steps (wide_limit c.version) may.steps same (array_one _ _ (ap (part 1) e)) in
    let plan = string_one c.plan d.plan (ap (part 0) e) in
    λ i. record { version = version i; steps = steps i; plan = plan i }

-- ---- a text belongs to one certificate

some_one : (a b : Data) → Some a ≡ Some b → a ≡ b
some_one a b e = cc

pub read_one : (text : List ℕ) (value : Data) (c d : Certificate) → read text ≡ Some value → IsShaped c value → IsCertificateText text d → d ≡ c
read_one text value c d e h k =
    let same : k.value ≡ value = some_one _ _ (sym k.is_read ∙ e) in
    certificate_one d c k.shaped.stated h.stated (sym k.shaped.is ∙ same ∙ h.is)

pub text_one : (text : List ℕ) (c d : Certificate) → IsCertificateText text c → IsCertificateText text d → d ≡ c
text_one text c d h k = read_one text h.value c d h.is_read h.shaped k

pub stated-is_text : (text : List ℕ) (c : Certificate) → IsUtf8 text → read text ≡ Some (certificate_data c) → MayBeStated c → IsCertificateText text c
stated-is_text text c utf8 back may = record { is_text = utf8; value = certificate_data c; is_read = back; shaped = record { stated = may; is = refl } }
