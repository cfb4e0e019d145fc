use Rattle.std.proofs.Common.{◌≡◌, length, take, vec_capacity}
use Rattle.pact_bag.specs.Rows.{cut}
use Rattle.pact_bag.proofs.rows.project_row.Given as goal

abbrev pub invariant-loop-field : goal.invariant-loop-field
invariant-loop-field l =
    (l.values.items ≡ cut (take l.field-index l.fields) l.row) × (vec_capacity l.values ≡ length l.fields)
