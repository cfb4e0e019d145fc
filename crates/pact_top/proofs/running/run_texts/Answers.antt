use Rattle.pact_top.proofs.RunPlans.{are_answers}
use Rattle.pact_top.proofs.running.run_texts.Goals as goal

pub returns : goal.returns
returns g c =
    are_answers c.args.loaded c.args.options.workers c.args.options.plans c.args.counts c.args.rewrites.prune c.args.rewrites.combine c.texts_of_run.result c.in_ok-choice.choice c.in_ok-ran.ran
    c.texts_of_run.ensures.program c.in_ok-choice.ensures.choice c.in_ok-ran.ensures c.texts_of_run.ensures.lines c.texts_of_run.ensures.counts
