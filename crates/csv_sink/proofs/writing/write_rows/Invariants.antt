use Rattle.std.proofs.Common.{◌≡◌, Some, false, take}
use Rattle.csv.specs.Writing.{default_writer, fields_written, has_written, text_written, writer_setup}
use Rattle.csv_sink.specs.CsvText.{csv_text}
use Rattle.csv_sink.proofs.writing.write_rows.Given as goal

abbrev pub invariant-loop-row : goal.invariant-loop-row
invariant-loop-row l = (writer_setup l.writer ≡ default_writer) × (fields_written l.writer ≡ 0) × (has_written l.writer ≡ false)
    × (text_written (λ v. Some v.items) l.writer ≡ Some (csv_text (take l.row-index l.row-items)))
