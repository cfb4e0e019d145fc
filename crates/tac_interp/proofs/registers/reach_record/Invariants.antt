use Rattle.tac_interp.specs.declared.registers.Held.TheVariants.{Blank}
use Rattle.tac_interp.proofs.FilledRegisters.{FillsTo}
use Rattle.tac_interp.proofs.registers.reach_record.Given as goal

abbrev pub invariant-loop : goal.invariant-loop
invariant-loop l = FillsTo Blank l.fn.held.items l.held.items l.counter l.end
