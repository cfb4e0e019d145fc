use Rattle.std.proofs.Common.{◌≡◌, length, map}
use Rattle.tac_flow.specs.Known.{joined_known}
use Rattle.tac_flow.specs.Views.{known_of}
use Rattle.tac_flow.proofs.ListsSoFar.{zip_so_far}
use Rattle.tac_flow.proofs.facts.join_values.Given as goal

abbrev pub invariant-loop-n : goal.invariant-loop-n
invariant-loop-n l = (map known_of l.values ≡ zip_so_far joined_known (map known_of l.fn.values) (map known_of l.others) l.n) × (length l.values ≡ length l.fn.values)
