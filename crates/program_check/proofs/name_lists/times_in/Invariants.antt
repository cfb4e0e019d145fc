use Rattle.std.proofs.Common.{◌≡◌, ◌≤◌, ◌+◌, drop}
use Rattle.program_check.specs.ProgramRules.{times_in as times_of}
use Rattle.program_check.proofs.name_lists.times_in.Given as goal

abbrev pub invariant-loop-other : goal.invariant-loop-other
invariant-loop-other l = (l.times ≤ l.other-index) × (times_of l.field (drop l.other-index l.fields) + l.times ≡ times_of l.field l.fields)
