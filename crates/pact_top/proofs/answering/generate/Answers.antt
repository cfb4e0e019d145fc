use Rattle.std.proofs.Common.{refl}
use Rattle.pact_top.specs.CommandTexts.{ready_gen}
use Rattle.pact_top.proofs.CommandsRun.{made_alone}
use Rattle.pact_top.proofs.answering.generate.Goals as goal

pub returns : goal.returns
returns c = made_alone (ready_gen c.args.seed c.args.rows) c.out_alone.result (rw c.out_alone.ensures (c.in_ok-text.ensures, refl))
