use Rattle.std.proofs.Common.{◌≡◌, drop}
use Rattle.program_hints.specs.Hints.{is_called}
use Rattle.program_hints.proofs.checks.is_called.Given as goal

abbrev pub invariant-loop-op : goal.invariant-loop-op
invariant-loop-op l = is_called (drop l.op-index l.ops) l.function ≡ is_called l.ops l.function
