use Rattle.std.proofs.Common.{◌≡◌, sym, ap, ◌∙◌}
use Rattle.pact_words.specs.Words.{asked, to_certify, to_check, to_drill, to_generate, to_iterate, to_plan, to_run, to_tell_sets}
use Rattle.pact_top.specs.CommandTexts.{ready_gen, ready_drill}
use Rattle.pact_top.specs.Work.{at_once}
use Rattle.pact_load.proofs.AnswersOfStages.{comes_alone}
use Rattle.pact_top.proofs.answering.texts_for.Goals as goal

pub returns-in-Run : goal.returns-in-Run
returns-in-Run g c =
    let same : to_run c.as_bytes.result.now c.in-Run.options c.in-Run.rewrites c.in-Run.counts ≡ asked c.args.command =
    ap (λ name. to_run name c.in-Run.options c.in-Run.rewrites c.in-Run.counts) c.as_bytes.ensures.value ∙ ap asked (sym c.in-Run.is) in
    rw (← same) c.run_program.ensures

pub returns-in-Plan : goal.returns-in-Plan
returns-in-Plan g c =
    let same : to_plan c.as_bytes-in-Plan.result.now c.in-Plan.workers c.in-Plan.plans ≡ asked c.args.command =
    ap (λ name. to_plan name c.in-Plan.workers c.in-Plan.plans) c.as_bytes-in-Plan.ensures.value ∙ ap asked (sym c.in-Plan.is) in
    rw (← same) c.plan.ensures

pub returns-in-Cert : goal.returns-in-Cert
returns-in-Cert g c =
    let same : to_certify c.as_bytes-in-Cert.result.now c.in-Cert.workers c.in-Cert.plans ≡ asked c.args.command =
    ap (λ name. to_certify name c.in-Cert.workers c.in-Cert.plans) c.as_bytes-in-Cert.ensures.value ∙ ap asked (sym c.in-Cert.is) in
    rw (← same) c.cert.ensures

pub returns-in-Sets : goal.returns-in-Sets
returns-in-Sets g c =
    let same : to_tell_sets c.as_bytes-in-Sets.result.now ≡ asked c.args.command = ap to_tell_sets c.as_bytes-in-Sets.ensures.value ∙ ap asked (sym c.in-Sets.is) in
    rw (← same) c.sets.ensures

pub returns-in-Check : goal.returns-in-Check
returns-in-Check g c =
    let same : to_check c.as_bytes-in-Check.result.now c.as_bytes-in-Check-2.result.now ≡ asked c.args.command =
    (λ i. to_check (c.as_bytes-in-Check.ensures.value i) (c.as_bytes-in-Check-2.ensures.value i)) ∙ ap asked (sym c.in-Check.is) in
    rw (← same) c.check.ensures

pub returns-in-Gen : goal.returns-in-Gen
returns-in-Gen g c =
    let same : to_generate c.in-Gen.seed c.in-Gen.rows ≡ asked c.args.command = ap asked (sym c.in-Gen.is) in
    rw (← same) (comes_alone (at_once (ready_gen c.in-Gen.seed c.in-Gen.rows)) (g.F.Feed.shows c.args.feed.now) c.generate.result c.generate.ensures)

pub returns-in-Drill : goal.returns-in-Drill
returns-in-Drill g c =
    let same : to_drill c.in-Drill.seed c.in-Drill.rows c.in-Drill.options c.in-Drill.rewrites ≡ asked c.args.command = ap asked (sym c.in-Drill.is) in
    rw (← same) (comes_alone (at_once (ready_drill c.in-Drill.seed c.in-Drill.rows)) (g.F.Feed.shows c.args.feed.now) c.drill.result c.drill.ensures)

pub returns-in-Iterate : goal.returns-in-Iterate
returns-in-Iterate g c =
    let i = c.in-Iterate in
    let same : to_iterate c.as_bytes-name.result.now c.as_bytes-source.result.now i.rounds i.options i.stable ≡ asked c.args.command =
    (λ k. to_iterate (c.as_bytes-name.ensures.value k) (c.as_bytes-source.ensures.value k) i.rounds i.options i.stable) ∙ ap asked (sym i.is) in
    rw (← same) c.iterate.ensures
