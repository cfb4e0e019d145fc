-- Fields with commas between them, with one more at the end.
use Rattle.std.proofs.Common.{◌≡◌, ◌≤◌, ◌<◌, ◌+◌, ◌++◌, ℕ, zero, suc, Bool, true, false, cond, List, [], ◌∷◌, length, ap, subst, sym, ◌∙◌, append_assoc, append-nil, length-append, ne_eqb, arith}
use Rattle.std.specs.List.{AllByRecursion}
use Rattle.std.specs.Prelude.{◌==◌, if◌then◌else◌, codes, decimal}
use Rattle.std.proofs.lemmas.Fmt.{decimal_nonempty}
use Rattle.pact_record.specs.declared.records.TheConstants.{MAX_FIELDS}
use Rattle.pact_record.specs.FieldSets.{has_field}
use Rattle.pact_record.proofs.Lists.{AllByRecursion-last}
use Rattle.plan_printer.specs.FoundText.{behind_commas, rising_fields, with_commas}
use Rattle.plan_printer.proofs.RisingFields.{rising_fields-with, rising_fields-without}

-- ---- one more number

behind_commas-last : (ns : List ℕ) (n : ℕ) → behind_commas (ns ++ n ∷ []) ≡ behind_commas ns ++ (codes "," ++ decimal n)
behind_commas-last [] n = ap (λ (t : List ℕ). 44 ∷ t) (append-nil (decimal n))
behind_commas-last (m ∷ ns) n =
    ap (λ (t : List ℕ). 44 ∷ (decimal m ++ t)) (behind_commas-last ns n)
    ∙ ap (λ (t : List ℕ). 44 ∷ t) (sym (append_assoc (decimal m) (behind_commas ns) (codes "," ++ decimal n)))

-- the separator before the next number
abbrev comma_behind : List ℕ → List ℕ
comma_behind text = if length text == 0 then [] else codes ","

comma_behind-some : (text : List ℕ) → 0 < length text → comma_behind text ≡ codes ","
comma_behind-some text h = ap (λ (none : Bool). cond none [] (codes ",")) (ne_eqb (length text) 0 (λ e. omega (arith, h, e)))

some_text : (m : ℕ) (ns : List ℕ) → m < MAX_FIELDS → 0 < length (with_commas (m ∷ ns))
some_text m ns h = omega (arith, decimal_nonempty m (omega (arith, h)), length-append (decimal m) (behind_commas ns))

with_commas-last : (ns : List ℕ) (n : ℕ) → AllByRecursion (λ k. k < MAX_FIELDS) ns → with_commas (ns ++ n ∷ []) ≡ with_commas ns ++ (comma_behind (with_commas ns) ++ decimal n)
with_commas-last [] n h = append-nil (decimal n)
with_commas-last (m ∷ ns) n h =
    ap (λ (t : List ℕ). decimal m ++ t) (behind_commas-last ns n)
    ∙ sym (append_assoc (decimal m) (behind_commas ns) (codes "," ++ decimal n))
    ∙ ap (λ (t : List ℕ). with_commas (m ∷ ns) ++ (t ++ decimal n)) (sym (comma_behind-some (with_commas (m ∷ ns)) (some_text m ns h.0)))

-- ---- the fields of a set

maybe_last : (has : Bool) (ns : List ℕ) (n : ℕ) → AllByRecursion (λ k. k < MAX_FIELDS) ns → n < MAX_FIELDS → AllByRecursion (λ k. k < MAX_FIELDS) (ns ++ cond has (n ∷ []) [])
maybe_last true ns n h lt = AllByRecursion-last (λ k. k < MAX_FIELDS) ns n h lt
maybe_last false ns n h lt = subst (AllByRecursion (λ k. k < MAX_FIELDS)) (sym (append-nil ns)) h

rising_fields-within : (set n : ℕ) → n ≤ MAX_FIELDS → AllByRecursion (λ k. k < MAX_FIELDS) (rising_fields set n)
unfolding rising_fields
rising_fields-within set zero le = tt
rising_fields-within set (suc n) le = maybe_last (has_field set n) (rising_fields set n) n (rising_fields-within set n (omega (arith, le))) (omega (arith, le))

-- the text after a field that the set doesn't have, and after one that it has
pub passed_over : (set n : ℕ) (text next : List ℕ) → has_field set n ≡ false → text ≡ with_commas (rising_fields set n) → next ≡ text → next ≡ with_commas (rising_fields set (n + 1))
passed_over set n text next h e same = same ∙ e ∙ sym (ap with_commas (rising_fields-without set n h))

pub listed : (set n : ℕ) (text next : List ℕ) → n < MAX_FIELDS → has_field set n ≡ true → text ≡ with_commas (rising_fields set n) → next ≡ text ++ (comma_behind text ++ decimal n)
    → next ≡ with_commas (rising_fields set (n + 1))
listed set n text next lt h e more =
    more ∙ ap (λ (t : List ℕ). t ++ (comma_behind t ++ decimal n)) e
    ∙ sym (ap with_commas (rising_fields-with set n h) ∙ with_commas-last (rising_fields set n) n (rising_fields-within set n (omega (arith, lt))))
