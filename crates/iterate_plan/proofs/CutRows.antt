-- Rows that are cut: their values, their widths, and that they may be a source's.
use Rattle.std.proofs.Common.{◌≡◌, ◌<◌, ◌+◌, ◌++◌, ◌⊎◌, ◌==◌, ◌||◌, inl, inr, ℕ, zero, suc, Bool, true, false, cond, List, [], ◌∷◌}
use Rattle.std.proofs.Common.{length, take, get_or, refl, sym, ap, subst, ◌∙◌, arith}
use Rattle.std.specs.List.{AllByRecursion}
use Rattle.std.proofs.lemmas.List.{take_all, take_more}
use Rattle.std.proofs.lemmas.List.Elements.{All-map, All-take, All-weaker, recursion_from_All}
use Rattle.pact_record.specs.declared.columns.Column.{Column}
use Rattle.pact_record.specs.declared.values.Value.{Value}
use Rattle.pact_record.specs.declared.values.Value.TheVariants.{Null}
use Rattle.pact_record.specs.Record.{at_field}
use Rattle.pact_record.specs.Widths.{AreWide}
use Rattle.pact_bag.specs.Rows.{HaveOneWidth}
use Rattle.pact_bag.specs.SourceRows.{AreSourceRows, IsColumnField, IsSourceRow}
use Rattle.iterate_plan.specs.Rounds.{cut_from, cut_to, is_column}

-- ---- a record

length-cut : (columns : List Column) (k : ℕ) (row : List Value) → length (cut_from columns k row) ≡ length row
length-cut columns k [] = refl
length-cut columns k (v ∷ row) = ap suc (length-cut columns (k + 1) row)

-- a field's value, if the record is cut from another field on
at-cut : (columns : List Column) (n k m : ℕ) (row : List Value) → m ≡ n + k → k < length row
    → at_field (cut_from columns n row) k ≡ cond (is_column columns m) (at_field row k) Null
at-cut columns n k m [] e h = absurd (omega arith)
at-cut columns n zero m (v ∷ row) e h = ap (λ (j : ℕ). cond (is_column columns j) v Null) {x = n} {y = m} (omega (arith, e))
at-cut columns n (suc k) m (v ∷ row) e h = at-cut columns (n + 1) k m row (omega (arith, e)) (omega (arith, h))

-- ---- rows of a source

-- the test decides whether some column goes to the field
one_more_column : (c : Column) (columns : List Column) (k : ℕ) (t : Bool) → (c.field == k) ≡ t → (t || is_column columns k) ≡ true
    → (is_column columns k ≡ true → IsColumnField k columns) → (k ≡ c.field) ⊎ IsColumnField k columns
one_more_column c columns k true e h rest = inl (grind (arith, e))
one_more_column c columns k false e h rest = inr (rest h)

column_field : (columns : List Column) (k : ℕ) → is_column columns k ≡ true → IsColumnField k columns
column_field [] k e = absurd (grind (arith, e))
column_field (c ∷ columns) k e = one_more_column c columns k (c.field == k) refl e (column_field columns k)

not_kept : (columns : List Column) (k : ℕ) (v : Value) (b : Bool) → is_column columns k ≡ b → (IsColumnField k columns → ⊥)
    → cond b v Null ≡ Null
not_kept columns k v true e h = absurd (h (column_field columns k e))
not_kept columns k v false e h = refl

-- a field to which no column goes is Null
null-cut : (columns : List Column) (n k m : ℕ) (row : List Value) → m ≡ n + k → (IsColumnField m columns → ⊥)
    → at_field (cut_from columns n row) k ≡ Null
null-cut columns n k m [] e h = refl
null-cut columns n zero m (v ∷ row) e h =
    let same : n ≡ m = omega (arith, e) in
    not_kept columns n v (is_column columns n) refl (λ f. h (subst (λ (j : ℕ). IsColumnField j columns) same f))
null-cut columns n (suc k) m (v ∷ row) e h = null-cut columns (n + 1) k m row (omega (arith, e)) h

-- a record of the program's width, once cut, may be one of a source
cut_is_source_row : (fields : ℕ) (columns : List Column) (row : List Value) → length row ≡ fields
    → IsSourceRow fields columns (cut_from columns 0 row)
cut_is_source_row fields columns row e = record {
  width = length-cut columns 0 row ∙ e;
  null = λ k out. null-cut columns 0 k k row (omega arith) out;
}

pub cut_are_source_rows : (fields : ℕ) (columns : List Column) (rows : List (List Value)) → AreWide fields rows
    → AreSourceRows fields columns (cut_to columns rows)
cut_are_source_rows fields columns [] h = tt
cut_are_source_rows fields columns (row ∷ rows) h =
    (cut_is_source_row fields columns row h.0, cut_are_source_rows fields columns rows h.1)

-- ---- loops

-- one more value of a record
pub cut-next : (columns : List Column) (row : List Value) (k : ℕ) (items now : List Value) (v : Value) → k < length row
    → items ≡ take k (cut_from columns 0 row) → v ≡ cond (is_column columns k) (at_field row k) Null → now ≡ items ++ v ∷ []
    → now ≡ take (k + 1) (cut_from columns 0 row)
cut-next columns row k items now v below e f g =
    let value : v ≡ at_field (cut_from columns 0 row) k = f ∙ sym (at-cut columns 0 k k row (omega arith) below) in
    g ∙ (λ i. e i ++ value i ∷ []) ∙ sym (take_more (cut_from columns 0 row) k Null (omega (arith, below, length-cut columns 0 row)))

pub cut-done : (columns : List Column) (row : List Value) (k : ℕ) (items : List Value) → k ≡ length row → items ≡ take k (cut_from columns 0 row)
    → items ≡ cut_from columns 0 row
cut-done columns row k items e f = f ∙ take_all k (cut_from columns 0 row) (omega (arith, e, length-cut columns 0 row))

-- the next row is as wide as the rows that are cut
pub widths-next : (columns : List Column) (rows made : List (List Value)) (n : ℕ) (row next : List Value) → HaveOneWidth rows
    → n < length rows → row ≡ get_or rows n row → made ≡ cut_to columns (take n rows) → next ≡ cut_from columns 0 row
    → AllByRecursion (λ held. length held ≡ length next) made
widths-next columns rows made n row next h below e f g =
    let Wide : List Value → Type 0 = λ r. length r ≡ h.width in
    let Fits : List Value → Type 0 = λ r. length r ≡ length next in
    let own : length next ≡ h.width = ap length g ∙ length-cut columns 0 row ∙ subst Wide (sym e) (h.all n row below) in
    let cut_fits : (r : List Value) → Wide r → Fits (cut_from columns 0 r) = λ r w. length-cut columns 0 r ∙ w ∙ sym own in
    let front = All-weaker Wide (λ r. Fits (cut_from columns 0 r)) cut_fits (take n rows) (All-take Wide n rows h.all) in
    let whole = All-map Fits (cut_from columns 0) (take n rows) front in
    subst (AllByRecursion Fits) (sym f) (recursion_from_All Fits (cut_to columns (take n rows)) whole)
