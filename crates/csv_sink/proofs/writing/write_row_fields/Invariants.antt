use Rattle.std.proofs.Common.{map, take}
use Rattle.csv.specs.Writing.{text_written}
use Rattle.pact_bag.specs.Rows.{cut}
use Rattle.csv_sink.specs.CsvText.{value_text}
use Rattle.csv_sink.specs.RowsWritten.{HasTexts}
use Rattle.csv_sink.proofs.writing.write_row_fields.Given as goal

abbrev pub invariant-loop-field : goal.invariant-loop-field
invariant-loop-field g l =
    HasTexts g.W.Write.contents (text_written g.W.Write.contents l.fn.writer) (map value_text (cut (take l.field-index l.fields) l.row)) l.writer
