use Rattle.std.proofs.Common.{◌≡◌, ◌≤◌, ◌+◌, drop}
use Rattle.pact_operators.specs.Resolved.{times_among as times_of}
use Rattle.program_check.proofs.name_lists.times_among.Given as goal

abbrev pub invariant-loop-other : goal.invariant-loop-other
invariant-loop-other l = (l.times ≤ l.other-index) × (times_of l.name (drop l.other-index l.names) + l.times ≡ times_of l.name l.names)
