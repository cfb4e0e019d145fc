use Rattle.std.proofs.Common.{refl}
use Rattle.pact_top.specs.CommandTexts.{ready_drill}
use Rattle.pact_top.proofs.CommandsRun.{made_alone}
use Rattle.pact_top.proofs.answering.drill.Goals as goal

pub returns : goal.returns
returns g c = made_alone (ready_drill c.args.seed c.args.rows) c.out_alone.result (rw c.out_alone.ensures (c.in_ok-text.ensures, refl))
