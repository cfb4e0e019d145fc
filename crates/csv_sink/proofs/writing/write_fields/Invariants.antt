use Rattle.std.proofs.Common.{◌≡◌, Some, false, map, take}
use Rattle.csv.specs.Writing.{default_writer, fields_written, has_written, text_written, writer_setup}
use Rattle.pact_bag.specs.Rows.{cut}
use Rattle.csv_sink.specs.CsvText.{csv_text}
use Rattle.csv_sink.proofs.writing.write_fields.Given as goal

abbrev pub invariant-loop-row : goal.invariant-loop-row
invariant-loop-row l = (writer_setup l.writer ≡ default_writer) × (fields_written l.writer ≡ 0) × (has_written l.writer ≡ false)
    × (text_written (λ v. Some v.items) l.writer ≡ Some (csv_text (map (cut l.fields) (take l.row-index l.rows))))
