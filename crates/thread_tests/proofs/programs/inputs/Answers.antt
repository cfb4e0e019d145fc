use Rattle.std.proofs.Common.{List, Ok}
use Rattle.pact_load.specs.Answers.{Comes}
use Rattle.pact_load.specs.Loading.{sources}
use Rattle.pact_load.proofs.Sources.{are_inputs}
use Rattle.pact_operators.specs.Allowed.{Bag}
use Rattle.pact_operators.specs.Inputs.{AreInputsOf}
use Rattle.pact_operators.specs.Programs.{ProgramData}
use Rattle.pact_outside.specs.Outside.{Feeding}
use Rattle.thread_tests.proofs.programs.inputs.Goals as goal

-- what the call returns are the rows of the program's sources
loaded : (p : ProgramData) (before now : Feeding) (inputs : List Bag) → Comes (sources p) before now (Ok inputs) → AreInputsOf p inputs
loaded p before now inputs h = are_inputs p before.files inputs h.told.readings h.told.ends

pub returns-in-Ok : goal.returns-in-Ok
returns-in-Ok c = loaded c.args.program.now _ _ c.in-Ok.inputs c.in-Ok.ensures
