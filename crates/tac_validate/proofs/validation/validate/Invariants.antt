use Rattle.tac_validate.proofs.Refusals.{KeepsBefore}
use Rattle.tac_validate.proofs.validation.validate.Given as goal

abbrev pub invariant-loop-rule : goal.invariant-loop-rule
invariant-loop-rule l = KeepsBefore l.function l.fields l.rule-index
