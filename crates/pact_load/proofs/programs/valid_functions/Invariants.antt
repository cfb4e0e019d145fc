use Rattle.std.proofs.Common.{[], take}
use Rattle.pact_load.specs.Stages.{each, gives}
use Rattle.pact_load.specs.Loading.{valid}
use Rattle.pact_load.proofs.programs.valid_functions.Given as goal

abbrev pub invariant-loop-function : goal.invariant-loop-function
invariant-loop-function l = (each (valid l.fields) (take l.function-index l.function-items)).Ends [] (gives l.valids)
