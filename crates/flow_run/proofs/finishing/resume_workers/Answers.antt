use Rattle.std.proofs.Common.{◌≡◌, ◌≤◌, ◌∙◌, [], ap, arith, length, map, replicate, rules, subst, sym, ℕ}
use Rattle.std.proofs.lemmas.Result.{IfOk-weaker}
use Rattle.std.specs.List.{AllByRecursion}
use Rattle.flow_instance.proofs.PartsOfPlans.{number_below}
use Rattle.flow_run.specs.WorkerData.{AreEnds, AreGathered, IsBeyond, WorkerData, history_of, with_columns}
use Rattle.flow_run.specs.Workers.{all_data, data_of}
use Rattle.flow_run.proofs.Arranged.{as_many}
use Rattle.flow_run.proofs.EndsOut.{same_count, whole_loan}
use Rattle.flow_run.proofs.Finished.{gathered_for_some, gathered_of_plan, gathered_stand, none_beyond, returned_ends}
use Rattle.flow_run.proofs.RunsOfWorkers.{few_numbers}
use Rattle.flow_run.proofs.finishing.resume_workers.Goals as goal

pub overflow_cast-count : goal.overflow_cast-count
overflow_cast-count g c =
    let few = few_numbers c.args.physical.now (length c.args.program.now.ops) c.workers-workers.ensures.physical c.requires.plan.all in
    let same = ap length c.ops-count.ensures.ops in
    let fact : length c.ops-count.result.now ≤ 64 = omega (arith, few, same) in
    search (rules, fact)

pub gather-requires-clause-few : goal.gather-requires-clause-few
gather-requires-clause-few g c κs within =
    let few = few_numbers c.args.physical.now (length c.args.program.now.ops) c.workers-workers.ensures.physical c.requires.plan.all in
    let same = ap length c.ops-count.ensures.ops in
    omega (arith, few, same)

pub gather-requires-clause-inside : goal.gather-requires-clause-inside
gather-requires-clause-inside g c κs within edge from to out =
    let ops = length c.args.program.now.ops in
    let is : length c.ops-count.result.now ≡ ops = ap length c.ops-count.ensures.ops in
    none_beyond c.args.physical.now ops c.args.pipes (all_data c.args.workers.items) c.requires.returned c.workers-workers.ensures.physical
    (λ at there. number_below c.args.program.now.ops at c.args.physical.now.tree there c.requires.plan.arity) edge from to (subst (λ (n : ℕ). IsBeyond n edge from to) is out)

pub gather-requires-clause-ends : goal.gather-requires-clause-ends
gather-requires-clause-ends g c κs within =
    subst (λ l. AreEnds c.args.pipes (all_data l)) (sym c.deref_mut.ensures.value) (returned_ends c.args.physical.now (length c.args.program.now.ops) c.args.pipes (all_data c.args.workers.items) c.requires.returned)

pub arrange-requires-after_bounds : goal.arrange-requires-after_bounds
arrange-requires-after_bounds g c κs within =
    let ws = all_data c.args.workers.items in
    let new = c.gather.new.workers in
    let gathered = subst (λ l. AreGathered c.args.pipes (all_data l) c.in_ok-notes.notes (all_data new)) c.deref_mut.ensures.value c.in_ok-notes.ensures in
    let loan = whole_loan c.args.workers.len c.args.workers.items new c.args.workers.ok.0 (same_count data_of new c.args.workers.items gathered.instances) in
    subst (λ l. AllByRecursion (λ (w : WorkerData). length w.instances ≡ length c.ops-count.result.now) (all_data l)) (sym loan)
    (subst (λ l. AllByRecursion (λ (w : WorkerData). length w.instances ≡ length l) (all_data new)) (sym c.ops-count.ensures.ops) (as_many (length c.args.program.now.ops) ws (all_data new) c.requires.returned.instances gathered.instances))

pub resume-requires-clause-of_plan : goal.resume-requires-clause-of_plan
resume-requires-clause-of_plan g c κs within =
    let p = c.args.program.now in
    let ws = all_data c.args.workers.items in
    let new = c.gather.new.workers in
    let gathered = subst (λ l. AreGathered c.args.pipes (all_data l) c.in_ok-notes.notes (all_data new)) c.deref_mut.ensures.value c.in_ok-notes.ensures in
    let loan = whole_loan c.args.workers.len c.args.workers.items new c.args.workers.ok.0 (same_count data_of new c.args.workers.items gathered.instances) in
    let rows = c.in_ok-instances.ensures ∙ (λ i. with_columns (replicate (length (c.ops-count.ensures.ops i)) []) (map (λ (w : WorkerData). w.instances) (all_data (loan i)))) in
    gathered_of_plan p c.args.physical.now c.requires.plan c.args.pipes ws (all_data new) c.requires.returned c.in_ok-notes.notes gathered c.in_ok-instances.instances rows

pub resume-requires-clause-stand : goal.resume-requires-clause-stand
resume-requires-clause-stand g c κs within =
    let p = c.args.program.now in
    let ws = all_data c.args.workers.items in
    let new = c.gather.new.workers in
    let gathered = subst (λ l. AreGathered c.args.pipes (all_data l) c.in_ok-notes.notes (all_data new)) c.deref_mut.ensures.value c.in_ok-notes.ensures in
    let loan = whole_loan c.args.workers.len c.args.workers.items new c.args.workers.ok.0 (same_count data_of new c.args.workers.items gathered.instances) in
    let rows = c.in_ok-instances.ensures ∙ (λ i. with_columns (replicate (length (c.ops-count.ensures.ops i)) []) (map (λ (w : WorkerData). w.instances) (all_data (loan i)))) in
    gathered_for_some p c.args.physical.now c.requires.plan c.args.pipes ws (all_data new) c.requires.returned c.in_ok-notes.notes gathered c.in_ok-instances.instances rows c.requires.local

pub returns-clause-standing : goal.returns-clause-standing
returns-clause-standing g c =
    let p = c.args.program.now in
    let ws = all_data c.args.workers.items in
    let new = c.gather.new.workers in
    let gathered = subst (λ l. AreGathered c.args.pipes (all_data l) c.in_ok-notes.notes (all_data new)) c.deref_mut.ensures.value c.in_ok-notes.ensures in
    let loan = whole_loan c.args.workers.len c.args.workers.items new c.args.workers.ok.0 (same_count data_of new c.args.workers.items gathered.instances) in
    let rows = c.in_ok-instances.ensures ∙ (λ i. with_columns (replicate (length (c.ops-count.ensures.ops i)) []) (map (λ (w : WorkerData). w.instances) (all_data (loan i)))) in
    IfOk-weaker c.resume.result _ _ (λ w stands s same local. stands s (history_of ws) same
    (gathered_stand p c.args.physical.now c.requires.plan c.args.pipes ws (all_data new) c.requires.returned c.in_ok-notes.notes gathered c.in_ok-instances.instances rows s same local)) c.resume.ensures.standing
