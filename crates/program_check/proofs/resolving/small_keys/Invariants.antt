use Rattle.std.proofs.Common.{◌≡◌, take}
use Rattle.program_check.specs.WrittenOps.{small_keys as small}
use Rattle.program_check.proofs.resolving.small_keys.Given as goal

abbrev pub invariant-loop-number : goal.invariant-loop-number
invariant-loop-number l = l.keys ≡ small (take l.number-index l.numbers)
