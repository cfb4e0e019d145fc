use Rattle.std.proofs.Common.{◌≡◌, ◌<◌, ◌≤◌, ap, length, subst, sym, ◌∙◌}
use Rattle.std.specs.Prelude.{slice_index_or}
use Rattle.std.specs.List.{All}
use Rattle.std.proofs.lemmas.Result.{IfOk-weaker}
use Rattle.flow_run.specs.Schedules.{AreWorkersOf, HasWorkedIn, IsJobReady}
use Rattle.flow_run.proofs.EndsOut.{whole_loan}
use Rattle.flow_run.proofs.RunsOfWorkers.{all_worked, ready_jobs, some_jobs}
use Rattle.flow_run.proofs.schedules.work_side_by_side.Goals as goal

pub run_side_by_side-requires-clause-some : goal.run_side_by_side-requires-clause-some
run_side_by_side-requires-clause-some g c κs within =
    subst (λ l. 1 ≤ length l) (sym c.deref_mut.ensures.value) (some_jobs g.W.Width.fields c.args.pipes.now c.args.workers.items c.in_ok-jobs.jobs.items c.in_ok-jobs.ensures c.requires.some)

pub run_side_by_side-requires-clause-ready : goal.run_side_by_side-requires-clause-ready
run_side_by_side-requires-clause-ready g c κs within =
    subst (All (IsJobReady g.W.Width.fields)) (sym c.deref_mut.ensures.value) (ready_jobs g.W.Width.fields c.args.pipes.now c.args.workers.items c.in_ok-jobs.jobs.items c.in_ok-jobs.ensures c.requires.ready)

pub returns : goal.returns
returns g c =
    let old = c.in_ok-jobs.jobs.items in
    let new = c.run_side_by_side.new.jobs in
    let value = c.deref_mut.ensures.value in
    let same : length new ≡ length old = c.run_side_by_side.ensures.len ∙ ap length value in
    let loan = whole_loan c.in_ok-jobs.jobs.len old new c.in_ok-jobs.jobs.ok.0 same in
    IfOk-weaker c.workers_of.result _ _ (λ after h. all_worked g.W.Width.fields c.args.pipes.now c.args.workers.items old c.in_ok-jobs.ensures new after.items same
    (λ k d less. subst (λ l. HasWorkedIn g.W.Width.fields (slice_index_or l k d) (slice_index_or new k d)) value (c.run_side_by_side.ensures.each k d (subst (λ l. k < length l) (sym value) less)))
    (subst (λ l. AreWorkersOf l after.items) loan h)) c.workers_of.ensures
