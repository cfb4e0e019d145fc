use Rattle.std.proofs.Common.{[]}
use Rattle.std.specs.Prelude.{codes}
use Rattle.pact_load.proofs.DecidedLoading.{text-AreNames, text-NamesDiffer}
use Rattle.plan_tests.proofs.programs.program.Goals as goal

pub returns-in-Ok-clause-names_differ : goal.returns-in-Ok-clause-names_differ
returns-in-Ok-clause-names_differ c = text-NamesDiffer (codes "program") c.args.text.now c.in-Ok.program [] c.in-Ok.ensures

pub returns-in-Ok-clause-names : goal.returns-in-Ok-clause-names
returns-in-Ok-clause-names c = text-AreNames (codes "program") c.args.text.now c.in-Ok.program [] c.in-Ok.ensures
