use Rattle.pact_words.specs.Words.{texts_of}
use Rattle.pact_top.specs.Refusal.{AreReadAs}
use Rattle.pact_top.proofs.KeptPromises.{promises_kept}
use Rattle.pact_top.proofs.top.pact_main.Goals as goal

pub returns : goal.returns
returns g c =
    let words = texts_of c.args.words.now in
    let read : AreReadAs words c.read_words-command.result = record { answers = c.read_words-command.ensures.answers; unnamed = c.read_words-command.ensures.unnamed } in
    promises_kept words _ _ _ _ c.answer_on_threads-answered.result _ _ _ _ _ _ _ _ c.finish.result (c.answer_on_threads-answered.ensures.answered words read) c.finish.ensures
