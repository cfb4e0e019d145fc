use Rattle.std.proofs.Common.{◌≡◌, length, take, vec_capacity, vec_len}
use Rattle.iterate_plan.specs.Rounds.{cut_from}
use Rattle.iterate_plan.proofs.cutting.cut_row.Given as goal

abbrev pub invariant-loop-field : goal.invariant-loop-field
invariant-loop-field l =
    (l.values.items ≡ take l.field (cut_from l.columns 0 l.row)) × (vec_len l.values ≡ l.field)
    × (vec_capacity l.values ≡ length l.row)
