use Rattle.std.proofs.Common.{length}
use Rattle.program_text.specs.ProgramStates.{state_of}
use Rattle.program_text.proofs.ReadLoop.{Reached}
use Rattle.program_text.proofs.program_reading.read_program.Given as goal

abbrev pub invariant-loop-rest : goal.invariant-loop-rest
invariant-loop-rest l = Reached l.text l.rest l.lines (state_of l.state)

abbrev pub decreases-loop-rest : goal.decreases-loop-rest
decreases-loop-rest l = length l.rest
