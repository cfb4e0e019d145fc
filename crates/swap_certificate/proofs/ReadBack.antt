-- The JSON value of a certificate's parts, from what is read of it.
use Rattle.std.proofs.Common.{◌≡◌, ◌≢◌, ◌<◌, ◌≤◌, inl, inr, ℕ, zero, suc, List, [], ◌∷◌, Some, None, map, length, get_or, refl, sym, ap, subst, ◌∙◌, arith}
use Rattle.std.specs.Prelude.{Err, IfNone, Option, Result}
use Rattle.std.specs.List.{AllByRecursion}
use Rattle.pact_record.specs.declared.records.TheConstants.{MAX_FIELDS}
use Rattle.tac_syntax.specs.Versions.{IsVersion}
use Rattle.plan_printer.specs.FoundText.{rising_fields}
use Rattle.serde_json.specs.Data.{Data, Items, Members, array, object, member}
use Rattle.serde_json.specs.Find.{as_array, as_object}
use Rattle.serde_json.specs.View.{items_of, view}
use Rattle.serde_json.specs.declared.value.Value.{Value}
use Rattle.swap_certificate.specs.declared.certificates.Step.{Step}
use Rattle.swap_certificate.specs.RisingData.{RisesFrom}
use Rattle.swap_certificate.specs.Shape.{IsSet, MayBeStep, set_data, step_data, whole}
use Rattle.swap_certificate.proofs.OneShape.{array_one, item_one, whole_one}
use Rattle.swap_certificate.proofs.RisingSets.{rising_fields-rise}

-- ---- values by their kind

is_array : (d : Data) (ds : Items) → as_array d ≡ Some ds → d ≡ array ds
is_array (array es) ds e = cc
is_array d ds e = absurd (cc)

is_object : (d : Data) (ms : Members) → as_object d ≡ Some ms → d ≡ object ms
is_object (object ns) ms e = cc
is_object d ms e = absurd (cc)

-- ---- parts that are missing

pub if_none : {T : Type 0} {P : Type 0} (r : Option T) → P → IfNone r P
if_none None p = p
if_none (Some x) p = tt

pub if_none-weaker : {T : Type 0} {P Q : Type 0} (r : Option T) → (P → Q) → IfNone r P → IfNone r Q
if_none-weaker None f p = f p
if_none-weaker (Some x) f p = tt

pub one_error : {T E : Type 0} (x y : E) (r : Result T E) → r ≡ Err x → r ≡ Err y → x ≡ y
one_error x y r h k = let same = sym h ∙ k in cc

-- ---- objects

pub object-members : (d : Data) (ms ns : Members) → as_object d ≡ Some ms → d ≡ object ns → ms ≡ ns
object-members d ms ns h e = let same = sym (is_object d ms h) ∙ e in cc

-- two descriptions of an object with the same first key have the same members after it
pub next_rest : (ms ns rest : Members) (key : List ℕ) (d e : Data) → ms ≡ member key d ns → ms ≡ member key e rest → ns ≡ rest
next_rest ms ns rest key d e h k = cc

-- two descriptions of an object with the same first four keys have the same members after them
pub fourth_rest : {ms one two three four rest : Members} {i j k l : List ℕ} {a b c d e f g h : Data} → ms ≡ member i a one → one ≡ member j b two → two ≡ member k c three → three ≡ member l d four
    → ms ≡ member i e (member j f (member k g (member l h rest))) → four ≡ rest
fourth_rest o p q r all = next_rest _ _ _ _ _ _ r (next_rest _ _ _ _ _ _ q (next_rest _ _ _ _ _ _ p (next_rest _ _ _ _ _ _ o all)))

-- ---- arrays

items_one : (ds es : List Data) → items_of ds ≡ items_of es → ds ≡ es
items_one [] [] e = refl
items_one [] (d ∷ es) e = absurd (cc)
items_one (d ∷ ds) [] e = absurd (cc)
items_one (d ∷ ds) (c ∷ es) e =
    let both = item_one d c (items_of ds) (items_of es) e in
    let rest = items_one ds es both.1 in
    λ i. both.0 i ∷ rest i

-- the items of an array are the same in both of its descriptions
pub same_items : (d : Data) (ds es : List Data) → as_array d ≡ Some (items_of ds) → d ≡ array (items_of es) → ds ≡ es
same_items d ds es h e = items_one ds es (array_one _ _ (sym (is_array d (items_of ds) h) ∙ e))

pub set-rises : (most : ℕ) (d : Data) (ds : List Data) (set : ℕ) → most ≤ MAX_FIELDS → IsSet most set → as_array d ≡ Some (items_of ds) → d ≡ set_data set → RisesFrom most 0 ds
set-rises most d ds set wide small h e = subst (RisesFrom most 0) (sym (same_items d ds (map whole (rising_fields set MAX_FIELDS)) h e)) (rising_fields-rise most set wide small)

-- ---- versions

pub small_version : (v : ℕ) → IsVersion v → v ≤ 2
small_version v (inl e) = omega (arith, e)
small_version v (inr e) = omega (arith, e)

pub no_version : (v n : ℕ) → IsVersion v → n ≡ 0 → whole n ≡ whole v → ⊥
no_version v n (inl e) none same = let one = whole_one n v same in omega (arith, e, none, one)
no_version v n (inr e) none same = let one = whole_one n v same in omega (arith, e, none, one)

pub version_below : (n : ℕ) → n ≤ 2 → n ≢ 0 → IsVersion n
version_below zero le some = absurd (some refl)
version_below (suc zero) le some = inl (omega arith)
version_below (suc (suc zero)) le some = inr (omega arith)
version_below (suc (suc (suc n))) le some = absurd (omega (arith, le))

-- ---- steps

cons_one : (d e : Data) (ds es : List Data) → d ∷ ds ≡ e ∷ es → (d ≡ e) × (ds ≡ es)
cons_one d e ds es h = (cc, cc)

-- the step at a place of values that are all steps
pub step-at : (most : ℕ) (items : List Value) (steps : List Step) (n : ℕ) (x : Value) → map view items ≡ map step_data steps → AllByRecursion (MayBeStep most) steps → n < length items
    → x ≡ get_or items n x → (s : Step) × MayBeStep most s × (view x ≡ step_data s)
step-at most [] steps n x e all lt is = absurd (omega (arith, lt))
step-at most (y ∷ items) [] n x e all lt is = absurd (cc)
step-at most (y ∷ items) (s ∷ steps) zero x e all lt is = (s, all.0, ap view is ∙ (cons_one (view y) (step_data s) (map view items) (map step_data steps) e).0)
step-at most (y ∷ items) (s ∷ steps) (suc n) x e all lt is = step-at most items steps n x (cons_one (view y) (step_data s) (map view items) (map step_data steps) e).1 all.1 (omega (arith, lt)) is
