use Rattle.std.proofs.Common.{inr}
use Rattle.pact_words.specs.Words.{asked}
use Rattle.explain_report.proofs.Foretold.{if_ok}
use Rattle.explain_report.proofs.explaining.explain_command.Goals as goal

pub returns-in-Ok : goal.returns-in-Ok
returns-in-Ok g c = if_ok c.explain_known.result (λ e foretold. inr (asked c.in-Ok.command, c.in-Ok.ensures.answers, foretold)) c.explain_known.ensures
