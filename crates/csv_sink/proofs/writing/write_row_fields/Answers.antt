use Rattle.csv.proofs.WriteFacts.{appends-none}
use Rattle.csv.specs.Writing.{is_blank}
use Rattle.std.proofs.Common.{refl}
use Rattle.csv_sink.proofs.writing.write_row_fields.Goals as goal

pub loop-field-init : goal.loop-field-init
unfolding is_blank
loop-field-init g c = record { setup = c.requires.between.0; count = c.requires.between.1; body = appends-none _; blank = rw c.requires.between.2 refl }
