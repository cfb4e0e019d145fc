use Rattle.std.proofs.Common.{◌≡◌, length, map}
use Rattle.tac_flow.specs.Known.{dropped_held}
use Rattle.tac_flow.specs.Views.{held_of}
use Rattle.tac_flow.proofs.ListsSoFar.{map_so_far}
use Rattle.tac_flow.proofs.facts.drop_records.Given as goal

abbrev pub invariant-loop-n : goal.invariant-loop-n
invariant-loop-n l = (map held_of l.records ≡ map_so_far (dropped_held l.name) (map held_of l.fn.records) l.n) × (length l.records ≡ length l.fn.records)
