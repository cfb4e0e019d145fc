use Rattle.std.proofs.Common.{refl}
use Rattle.pact_words.proofs.OneAsked.{never_both}
use Rattle.pact_words.specs.Words.{asked}
use Rattle.pact_top.specs.Work.{command, texts_for}
use Rattle.pact_load.proofs.AnswersOfStages.{comes_in}
use Rattle.pact_top.proofs.CommandsRun.{answered, refused_answered}
use Rattle.pact_top.proofs.answering.answer.Goals as goal

pub returns-in-Err : goal.returns-in-Err
returns-in-Err g c = refused_answered c.args.command c.in-Err.refused c.refusal_of.result (g.F.Feed.shows c.args.feed.now) _ c.in-Err.is c.refusal_of.ensures refl

pub returns-in-Ok : goal.returns-in-Ok
returns-in-Ok g c = rw c.in-Ok.is (record {
  answered = λ words read.
      let never = λ (refused : _). never_both words (asked c.in-Ok.known) read.answers refused in
      answered words c.texts_for.result (λ r. absurd (never r)) (λ r. absurd (never r)) (comes_in (command words) texts_for (asked c.in-Ok.known) c.texts_for.result (refl, read.answers) c.texts_for.ensures);
})
