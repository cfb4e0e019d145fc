-- The result for a text that was cut in two.
use Rattle.std.proofs.Common.{◌≡◌, ◌+◌, ◌++◌, inl, inr, ℕ, List, length, take, drop, subst, sym, arith}
use Rattle.std.specs.List.{AllByRecursion}
use Rattle.std.specs.Prelude.{Result, Ok, Err, IfOk, IfErr}
use Rattle.pact_bag.specs.Rows.{HaveOneWidth}
use Rattle.pact_bag.specs.SourceRows.{IsSourceRow}
use Rattle.pact_bag.proofs.Widths.{HaveOneWidth-append}
use Rattle.pact_record.proofs.Lists.{AllByRecursion-weaker}
use Rattle.pact_record.specs.declared.columns.Column.{Column}
use Rattle.pact_record.specs.declared.values.Value.{Value}
use Rattle.csv_cuts.specs.Cuts.{IsCut}
use Rattle.csv_source.specs.CsvRows.{CsvRows, FirstBadRow, records_of, AreRows}
use Rattle.csv_source.specs.Refused.{IsMemory, SourceRefused, RowsRefused}
use Rattle.csv_source.specs.declared.reading.BadRow.{BadRow}
use Rattle.csv_source.specs.declared.reading.BadRow.TheVariants as bads
use Rattle.csv_source.proofs.RowParts.{rows_or_bad_row, source_rows}
use Rattle.csv_parts.specs.Joined.{IsJoined, IsRenumbered}
use Rattle.csv_parts.proofs.JoinedRows.{are_rows-append, first_bad-after, first_bad-in_prefix, first_bad-later}

widths : (fields : ℕ) (columns : List Column) (text : List ℕ) (rows : List (List Value)) → CsvRows fields columns text rows → AllByRecursion (λ row. length row ≡ fields) rows
widths fields columns text rows h =
    AllByRecursion-weaker (IsSourceRow fields columns) (λ (row : List Value). length row ≡ fields) rows (λ row r. r.width) (source_rows fields columns (records_of text) rows h)

-- the rows of two texts have one width
pub one_width : (fields : ℕ) (columns : List Column) (prefix rest : List ℕ) (rows more : List (List Value)) → CsvRows fields columns prefix rows → CsvRows fields columns rest more → HaveOneWidth (rows ++ more)
one_width fields columns prefix rest rows more h k = HaveOneWidth-append fields rows more (widths fields columns prefix rows h) (widths fields columns rest more k)

pub rows_of_whole : (fields : ℕ) (columns : List Column) (text : List ℕ) (at : ℕ) (rows more all : List (List Value)) → IsCut text at → all ≡ rows ++ more
    → CsvRows fields columns (take at text) rows → CsvRows fields columns (drop at text) more → CsvRows fields columns text all
rows_of_whole fields columns text at rows more all cut e h k =
    subst (AreRows fields columns (records_of text)) (sym e)
    (subst (λ (rs : List (List (List ℕ))). AreRows fields columns rs (rows ++ more)) (sym cut.records) (are_rows-append fields columns (records_of (take at text)) (records_of (drop at text)) rows more h k))

pub prefix_refused : (fields : ℕ) (columns : List Column) (text : List ℕ) (at : ℕ) (bad : BadRow) → IsCut text at → SourceRefused fields columns (take at text) bad → SourceRefused fields columns text bad
prefix_refused fields columns text at (bads.At row column why) cut h =
    subst (λ (rs : List (List (List ℕ))). FirstBadRow fields columns 1 rs row column why) (sym cut.records) (first_bad-in_prefix fields columns 1 (records_of (take at text)) (records_of (drop at text)) row column why h)
prefix_refused fields columns text at bads.Memory cut h = tt

pub rest_refused : (fields : ℕ) (columns : List Column) (text : List ℕ) (at : ℕ) (rows : List (List Value)) (of_rest bad : BadRow) → IsCut text at
    → CsvRows fields columns (take at text) rows → SourceRefused fields columns (drop at text) of_rest → IsRenumbered (length rows) of_rest bad → SourceRefused fields columns text bad
rest_refused fields columns text at rows (bads.At row column why) bad cut h f (inl e) =
    subst (RowsRefused fields columns (records_of text)) (sym e)
    (subst (λ (rs : List (List (List ℕ))). FirstBadRow fields columns 1 rs (row + length rows) column why) (sym cut.records)
    (first_bad-after fields columns 1 (records_of (take at text)) (records_of (drop at text)) rows (row + length rows) column why h
    (first_bad-later fields columns 1 (1 + length rows) (length rows) (records_of (drop at text)) row column why (omega arith) f)))
rest_refused fields columns text at rows (bads.At row column why) bad cut h f (inr e) = subst (RowsRefused fields columns (records_of text)) (sym e) tt
rest_refused fields columns text at rows bads.Memory bad cut h f e = subst (RowsRefused fields columns (records_of text)) (sym e) tt

-- the result for the whole text, from the rows of its prefix and the result for the rest
pub joined_answer : (fields : ℕ) (columns : List Column) (text : List ℕ) (at : ℕ) (rows : List (List Value)) (rest result : Result (List (List Value)) BadRow) → IsCut text at
    → CsvRows fields columns (take at text) rows → IfOk rest (CsvRows fields columns (drop at text)) → IfErr rest (SourceRefused fields columns (drop at text)) → IsJoined rows rest result
    → IfOk result (CsvRows fields columns text) × IfErr result (SourceRefused fields columns text)
joined_answer fields columns text at rows (Ok more) (Ok all) cut h k f e = (rows_of_whole fields columns text at rows more all cut e h k, tt)
joined_answer fields columns text at rows (Ok more) (Err bad) cut h k f e = (tt, subst (RowsRefused fields columns (records_of text)) (sym e) tt)
joined_answer fields columns text at rows (Err of_rest) (Err bad) cut h k f e = (tt, rest_refused fields columns text at rows of_rest bad cut h f e)
joined_answer fields columns text at rows (Err of_rest) (Ok all) cut h k f e = absurd e

-- a text that has rows can only be refused for memory
pub only_memory : (fields : ℕ) (columns : List Column) (bytes : List ℕ) (held : List (List Value)) (bad : BadRow) → CsvRows fields columns bytes held → SourceRefused fields columns bytes bad → IsMemory bad
only_memory fields columns bytes held (bads.At row column why) h f = rows_or_bad_row fields columns 1 (records_of bytes) held row column why h f
only_memory fields columns bytes held bads.Memory h f = tt
