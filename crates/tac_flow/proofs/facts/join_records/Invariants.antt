use Rattle.std.proofs.Common.{◌≡◌, length, map}
use Rattle.tac_flow.specs.Known.{joined_held}
use Rattle.tac_flow.specs.Views.{held_of}
use Rattle.tac_flow.proofs.ListsSoFar.{zip_so_far}
use Rattle.tac_flow.proofs.facts.join_records.Given as goal

abbrev pub invariant-loop-n : goal.invariant-loop-n
invariant-loop-n l = (map held_of l.records ≡ zip_so_far (joined_held l.fields) (map held_of l.fn.records) (map held_of l.others) l.n) × (length l.records ≡ length l.fn.records)
