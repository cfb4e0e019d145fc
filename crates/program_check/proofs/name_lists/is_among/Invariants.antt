use Rattle.std.proofs.Common.{◌≡◌, drop}
use Rattle.pact_operators.specs.Resolved.{is_among as among}
use Rattle.program_check.proofs.name_lists.is_among.Given as goal

abbrev pub invariant-loop-other : goal.invariant-loop-other
invariant-loop-other l = among l.name (drop l.other-index l.names) ≡ among l.name l.names
