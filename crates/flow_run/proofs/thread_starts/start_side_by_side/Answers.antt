use Rattle.std.proofs.Common.{◌≡◌, ◌<◌, ap, arith, length, subst, sym, ◌∙◌, List}
use Rattle.std.proofs.lemmas.Result.{IfOk-weaker}
use Rattle.std.specs.Prelude.{IfOk, Result, slice_index_or}
use Rattle.flow_instance.specs.Instances.{Instance}
use Rattle.flow_instance.specs.Starting.{IsStartedFrom}
use Rattle.flow_instance.specs.declared.before_start.Unstarted.{Unstarted}
use Rattle.flow_run.proofs.StartedJobs.{all_from, oks}
use Rattle.flow_run.proofs.thread_starts.start_side_by_side.Goals as goal

pub returns : goal.returns
returns g c =
    let own_items = c.args.own.held.items in
    let jobs : c.into_vec-jobs.result.items ≡ own_items = c.into_vec-jobs.ensures in
    let started = c.in_ok-started.started in
    IfOk-weaker c.all_started.result _ _ (λ own is.
    let same = ap length is in
    let as_many = ap length jobs in
    all_from own_items own (omega (arith, same, as_many, c.in_ok-started.ensures.len, started.ok.0, c.into_vec-jobs.result.ok.0)) (λ k u r less at.
    let job = (c.in_ok-started.ensures.each k r (omega (arith, less, as_many))).1 in
    let own_job : job.job ≡ u = sym (job.job_is u) ∙ ap (λ (l : List Unstarted). slice_index_or l k u) jobs ∙ sym at in
    subst (λ (v : Unstarted). IfOk (slice_index_or (oks own) k r) (IsStartedFrom v)) own_job
    (subst (λ (l : List (Result Instance _)). IfOk (slice_index_or l k r) (IsStartedFrom job.job)) is job.call.met)))
    c.all_started.ensures
