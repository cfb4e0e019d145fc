use Rattle.std.proofs.Common.{◌≡◌, drop}
use Rattle.program_check.specs.RuleTests.{is_reached_reader}
use Rattle.program_check.proofs.reached.is_read_by_reached.Given as goal

abbrev pub invariant-loop-n : goal.invariant-loop-n
invariant-loop-n l = is_reached_reader l.name (drop l.n l.decls) (drop l.n l.reached) ≡ is_reached_reader l.name l.decls l.reached
