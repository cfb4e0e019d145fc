-- The records that are bound to loops' names.
use Rattle.std.proofs.Common.{◌≡◌, ◌<◌, ℕ, List, [], ◌∷◌, ◌++◌, length, take, map, get_or, ap, sym, ◌∙◌, subst, Bor}
use Rattle.std.proofs.lemmas.List.{take-map, map-append, length-map, get_or-map}
use Rattle.std.proofs.lemmas.List.Elements.{All-from_recursion, recursion_from_All, All-push, All-take}
use Rattle.pact_record.specs.declared.values.Value.{Value}
use Rattle.pact_record.specs.Widths.{AreWide}

abbrev row_of : Bor (List Value) → List Value
row_of r = r.now

pub map_now-bound : (before after : List (Bor (List Value))) (row : Bor (List Value)) (n : ℕ) → after ≡ take n before ++ row ∷ []
    → map (λ r. r.now) after ≡ take n (map (λ r. r.now) before) ++ row.now ∷ []
map_now-bound before after row n e =
    ap (map row_of) e ∙ map-append row_of (take n before) (row ∷ []) ∙ ap (λ (l : List (List Value)). l ++ row.now ∷ []) (sym (take-map row_of n before))

pub AreWide-bound : (fields n : ℕ) (rows : List (List Value)) (row : List Value) → AreWide fields rows → length row ≡ fields → AreWide fields (take n rows ++ row ∷ [])
AreWide-bound fields n rows row h e =
    let P : List Value → Type 0 = λ r. length r ≡ fields in
    recursion_from_All P (take n rows ++ row ∷ []) (All-push P (take n rows) row (All-take P n rows (All-from_recursion P rows h)) e)

pub length-loop : (fields n : ℕ) (loops : List (Bor (List Value))) (row : Bor (List Value)) → AreWide fields (map (λ r. r.now) loops) → n < length loops
    → row ≡ get_or loops n row → length row.now ≡ fields
length-loop fields n loops row h lt e =
    let P : List Value → Type 0 = λ r. length r ≡ fields in
    let at = All-from_recursion P (map row_of loops) h n row.now (subst (λ (k : ℕ). n < k) (sym (length-map loops row_of)) lt) in
    subst P (get_or-map row_of loops n row row.now lt ∙ ap row_of (sym e)) at
