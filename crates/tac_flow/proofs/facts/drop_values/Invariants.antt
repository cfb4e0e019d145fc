use Rattle.std.proofs.Common.{◌≡◌, length, map}
use Rattle.tac_flow.specs.Known.{dropped_known}
use Rattle.tac_flow.specs.Views.{known_of}
use Rattle.tac_flow.proofs.ListsSoFar.{map_so_far}
use Rattle.tac_flow.proofs.facts.drop_values.Given as goal

abbrev pub invariant-loop-n : goal.invariant-loop-n
invariant-loop-n l = (map known_of l.values ≡ map_so_far (dropped_known l.name) (map known_of l.fn.values) l.n) × (length l.values ≡ length l.fn.values)
