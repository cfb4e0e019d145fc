use Rattle.pact_record.specs.declared.values.Value.TheVariants.{Null}
use Rattle.tac_interp.proofs.FilledRegisters.{FillsTo}
use Rattle.tac_interp.proofs.registers.reach_value.Given as goal

abbrev pub invariant-loop : goal.invariant-loop
invariant-loop l = FillsTo Null l.fn.held.items l.held.items l.counter l.end
