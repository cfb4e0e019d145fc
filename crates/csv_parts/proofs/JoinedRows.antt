-- The rows of two lists of records, one after the other, and their first bad row.
use Rattle.std.proofs.Common.{◌≡◌, ◌+◌, ◌++◌, inl, inr, ℕ, suc, List, [], ◌∷◌, length, subst, arith}
use Rattle.pact_record.specs.declared.columns.Column.{Column}
use Rattle.pact_record.specs.declared.values.Value.{Value}
use Rattle.csv_source.specs.CsvRows.{AreRows, FirstBadRow}

pub are_rows-append : (fields : ℕ) (columns : List Column) (a b : List (List (List ℕ))) (xs ys : List (List Value)) → AreRows fields columns a xs → AreRows fields columns b ys → AreRows fields columns (a ++ b) (xs ++ ys)
are_rows-append fields columns [] b [] ys h k = k
are_rows-append fields columns [] b (x ∷ xs) ys h k = absurd h
are_rows-append fields columns (t ∷ ts) b [] ys h k = absurd h
are_rows-append fields columns (t ∷ ts) b (x ∷ xs) ys h k = (h.0, are_rows-append fields columns ts b xs ys h.1 k)

-- a bad row of the first list is the first of both
pub first_bad-in_prefix : (fields : ℕ) (columns : List Column) (n : ℕ) (a b : List (List (List ℕ))) (row column why : ℕ) → FirstBadRow fields columns n a row column why → FirstBadRow fields columns n (a ++ b) row column why
first_bad-in_prefix fields columns n [] b row column why h = absurd h
first_bad-in_prefix fields columns n (t ∷ ts) b row column why (inl h) = inl h
first_bad-in_prefix fields columns n (t ∷ ts) b row column why (inr h) = inr (h.0, h.1, first_bad-in_prefix fields columns (n + 1) ts b row column why h.2)

-- the same bad row, with rows numbered from a later number
pub first_bad-later : (fields : ℕ) (columns : List Column) (n m k : ℕ) (a : List (List (List ℕ))) (row column why : ℕ) → m ≡ n + k → FirstBadRow fields columns n a row column why → FirstBadRow fields columns m a (row + k) column why
first_bad-later fields columns n m k [] row column why e h = absurd h
first_bad-later fields columns n m k (t ∷ ts) row column why e (inl h) = inl (omega (arith, e, h.0), h.1)
first_bad-later fields columns n m k (t ∷ ts) row column why e (inr h) = inr (h.0, h.1, first_bad-later fields columns (n + 1) (m + 1) k ts row column why (omega arith) h.2)

-- a bad row of the second list, if all records of the first are rows
pub first_bad-after : (fields : ℕ) (columns : List Column) (n : ℕ) (a b : List (List (List ℕ))) (xs : List (List Value)) (row column why : ℕ) → AreRows fields columns a xs → FirstBadRow fields columns (n + length xs) b row column why → FirstBadRow fields columns n (a ++ b) row column why
first_bad-after fields columns n [] b [] row column why h f = subst (λ (m : ℕ). FirstBadRow fields columns m b row column why) (let e : n + 0 ≡ n = omega arith in e) f
first_bad-after fields columns n [] b (x ∷ xs) row column why h f = absurd h
first_bad-after fields columns n (t ∷ ts) b [] row column why h f = absurd h
first_bad-after fields columns n (t ∷ ts) b (x ∷ xs) row column why h f =
    inr (x, h.0, first_bad-after fields columns (n + 1) ts b xs row column why h.1 (subst (λ (m : ℕ). FirstBadRow fields columns m b row column why) (let e : n + suc (length xs) ≡ n + 1 + length xs = omega arith in e) f))
