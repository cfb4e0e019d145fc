-- Calls that make the rows of a source.
use Rattle.std.specs.Borrow.{Bor}
use Rattle.std.specs.Prelude.{◌≤◌, ◌<◌, ℕ, List, Result, IfOk, IfErr}
use Rattle.std.specs.List.{AllByRecursion}
use Rattle.csv_source.specs.CsvRows.{CsvRows, HasBadRow}
use Rattle.csv_source.specs.Refused.{IsMemory, SourceRefused}
use Rattle.csv_source.specs.declared.reading.BadRow.{BadRow}
use Rattle.pact_bag.specs.SourceRows.{AreSourceRows}
use Rattle.pact_record.specs.declared.columns.Column.{Column}
use Rattle.pact_record.specs.declared.records.TheConstants.{MAX_FIELDS}
use Rattle.pact_record.specs.declared.values.Value.{Value}

-- the columns go to fields of the program
pub record CanRead (fields : ℕ) (columns : List Column) : Type 0 where
  pub few : fields ≤ MAX_FIELDS
  pub within : AllByRecursion (λ column. column.field < fields) columns

-- The rows of the bytes, or their first bad row; neither only if memory runs out.
pub record IsRead (fields : ℕ) (columns : List Column) (bytes : List ℕ) (result : Result (List (List Value)) BadRow) : Type 0 where
  pub rows : IfOk result (CsvRows fields columns bytes)
  pub source_rows : IfOk result (AreSourceRows fields columns)
  pub bad_row : IfErr result (SourceRefused fields columns bytes)
  pub rows_always : (rows : List (List Value)) → CsvRows fields columns bytes rows → IfErr result IsMemory
  pub bad_row_always : (row column why : ℕ) → HasBadRow fields columns bytes row column why → IfOk result (λ _. ⊥)

-- may be called for any source, and makes its rows
pub record IsReader (Pre : Bor (List ℕ) → Bor (List Column) → ℕ → Type 0) (Post : Bor (List ℕ) → Bor (List Column) → ℕ → Result (List (List Value)) BadRow → Type 0) : Type 0 where
  pub pre : (bytes : Bor (List ℕ)) (columns : Bor (List Column)) (fields : ℕ) → CanRead fields columns.now → Pre bytes columns fields
  pub post : (bytes : Bor (List ℕ)) (columns : Bor (List Column)) (fields : ℕ) (result : Result (List (List Value)) BadRow) → CanRead fields columns.now → Post bytes columns fields result
      → IsRead fields columns.now bytes.now result
