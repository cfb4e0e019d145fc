-- Workers at their start and after their work.
use Rattle.std.proofs.Common.{◌≡◌, ◌<◌, ◌≤◌, ◌+◌, ◌*◌, ℕ, zero, suc, true, false, List, [], ◌∷◌, ◌++◌, get_or, length, map, replicate, refl, ap, sym, ◌∙◌, subst, arith}
use Rattle.std.specs.Prelude.{slice_index_or}
use Rattle.std.specs.List.{All, AllByRecursion}
use Rattle.std.proofs.lemmas.List.{length-map, length-replicate}
use Rattle.pact_record.proofs.Lists.{AllByRecursion-get_or}
use Rattle.plan_trees.specs.Physicals.{IsPhysical, PhysicalData}
use Rattle.plan_trees.specs.Plans.{has, subtree_of}
use Rattle.plan_trees.proofs.Ships.{below_limit}
use Rattle.flow_instance.specs.Instances.{Instance}
use Rattle.flow_instance.specs.Local.{IsLocal}
use Rattle.flow_instance.specs.Spots.{Setting, spot}
use Rattle.flow_core.specs.Starting.{AreAllStarted}
use Rattle.flow_core.specs.Worlds.{no_instance}
use Rattle.flow_instance.proofs.LocalAfterPuts.{started_local}
use Rattle.flow_run.specs.WorkerStates.{AllLocal, IsReady, IsReadyFor, Works, worker_state}
use Rattle.flow_run.specs.Ends.{EndTable, PipeTables}
use Rattle.flow_run.specs.WorkerData.{AreLocal, HaveReturned, WorkerData, nothing, worker_at, with_columns}
use Rattle.flow_run.specs.Runs.{AreAssembled, AreAtStart, AreAssigned, IsAssembled}
use Rattle.flow_run.specs.Schedules.{AreJobs, AreWorkersOf, HasWorkedIn, IsJobReady, job_worker}
use Rattle.flow_run.specs.Wires.{AreWired, EndTables}
use Rattle.flow_run.specs.Workers.{HasWorked, HaveAllWorked, IsWorkerReady, all_data, data_of}
use Rattle.flow_run.specs.declared.schedules.Job.{Job}
use Rattle.flow_run.specs.declared.workers.Worker.{Worker}
use Rattle.flow_run.proofs.Arranged.{columns_at, length_columns, blank}
use Rattle.flow_run.proofs.WorkerLists.{all_last, map_get, map_last}
use Rattle.flow_run.proofs.WorkerStateLaws.{works_kept}
use Rattle.flow_run.proofs.Finished.{all_local}
use Rattle.flow_run.proofs.StartedWorkers.{ready_for, edge_there}
use Rattle.flow_run.proofs.WiredPipes.{pipes_of}

-- ---- jobs

some_item : {X : Type 0} (xs : List X) (k : ℕ) → k < length xs → X
some_item [] k less = absurd (omega (arith, less))
some_item (x ∷ xs) k less = x

module _ {L W : Type 0} where
  pub jobs_more : (pipes : PipeTables) (workers : List (Worker L W)) (w : Worker L W) (jobs new : List (Job L W)) (j : Job L W) → AreJobs pipes workers jobs → new ≡ jobs ++ j ∷ [] → j.worker ≡ w → j.pipes.now ≡ pipes
      → AreJobs pipes (workers ++ w ∷ []) new
  jobs_more pipes workers w jobs new j h is same pipes_are = subst (AreJobs pipes (workers ++ w ∷ [])) (sym is) (record {
    workers_are = map_last job_worker jobs j ∙ (λ i. h.workers_are i ++ same i ∷ []);
    pipes_are = all_last (λ (j : Job L W). j.pipes.now ≡ pipes) jobs j h.pipes_are pipes_are;
  })

  pub returned_more : (jobs : List (Job L W)) (j : Job L W) (workers new : List (Worker L W)) → AreWorkersOf jobs workers → j.failed ≡ false → new ≡ workers ++ j.worker ∷ [] → AreWorkersOf (jobs ++ j ∷ []) new
  returned_more jobs j workers new h done is = record {
    workers_are = is ∙ ap (λ (l : List (Worker L W)). l ++ j.worker ∷ []) h.workers_are ∙ sym (map_last job_worker jobs j);
    done = all_last (λ (j : Job L W). j.failed ≡ false) jobs j h.done done;
  }

  module _ (fields : ℕ) (pipes : PipeTables) (workers : List (Worker L W)) (jobs : List (Job L W)) (are : AreJobs pipes workers jobs) where
    as_many : length jobs ≡ length workers
    as_many = sym (length-map jobs job_worker) ∙ ap length are.workers_are

    job_is : (k : ℕ) (d : Job L W) (e : Worker L W) → k < length jobs → (get_or jobs k d).worker ≡ get_or workers k e
    job_is k d e less = sym (map_get job_worker jobs k d e less) ∙ ap (λ (l : List (Worker L W)). get_or l k e) are.workers_are

    job_pipes : (k : ℕ) (d : Job L W) → k < length jobs → (get_or jobs k d).pipes.now ≡ pipes
    job_pipes k d less = AllByRecursion-get_or (λ (j : Job L W). j.pipes.now ≡ pipes) jobs k d less are.pipes_are

    pub some_jobs : 1 ≤ length workers → 1 ≤ length jobs
    some_jobs some = omega (arith, some, as_many)

    pub ready_jobs : All (IsWorkerReady fields pipes) workers → All (IsJobReady fields) jobs
    ready_jobs ready k d less =
        let e = (get_or jobs k d).worker in
        subst (λ (x : PipeTables × Worker L W). IsWorkerReady fields x.0 x.1) (λ i. (sym (job_pipes k d less) i, sym (job_is k d e less) i)) (ready k e (omega (arith, less, as_many)))

    -- if no job failed, each worker has worked
    pub all_worked : (new : List (Job L W)) (after : List (Worker L W)) → length new ≡ length jobs → ((k : ℕ) (d : Job L W) → k < length jobs → HasWorkedIn fields (slice_index_or jobs k d) (slice_index_or new k d))
        → AreWorkersOf new after → HaveAllWorked fields pipes workers after
    all_worked new after same worked r = record {
      long = ap length r.workers_are ∙ length-map new job_worker ∙ same ∙ as_many;
      each = λ k e below.
          let less : k < length jobs = omega (arith, below, as_many) in
          let less_new : k < length new = omega (arith, less, same) in
          let d = some_item jobs k less in
          let done = AllByRecursion-get_or (λ (j : Job L W). j.failed ≡ false) new k d less_new r.done in
          let is : (get_or new k d).worker ≡ get_or after k e = sym (map_get job_worker new k d e less_new) ∙ sym (ap (λ (l : List (Worker L W)). get_or l k e) r.workers_are) in
          subst (λ (x : PipeTables × Worker L W × Worker L W). HasWorked fields x.0 x.1 x.2) (λ i. (job_pipes k d less i, job_is k d e less i, is i)) ((worked k d less).works done);
    }

-- ---- instances at their start

all_rows : (n : ℕ) (rows : List (List Instance)) → ((at : ℕ) → at < length rows → length (get_or rows at []) ≡ n) → AllByRecursion (λ (row : List Instance). length row ≡ n) rows
all_rows n [] h = tt
all_rows n (row ∷ rows) h = (h 0 (omega arith), all_rows n rows (λ at less. h (suc at) (omega (arith, less))))

module _ (g : Setting) (size ops : ℕ) (list : List (List Instance)) (started : AreAllStarted g size ops list) where
  -- one on each worker
  pub rows_long : AllByRecursion (λ (row : List Instance). length row ≡ g.physical.workers) list
  rows_long = all_rows g.physical.workers list (λ at less. (started.each at (omega (arith, less, started.long))).long)

  module _ (only : (at : ℕ) → has at g.physical.tree ≡ true → at < ops) (all : List (List Instance)) (all_is : all ≡ with_columns (replicate g.physical.workers []) list) where
    own_is : (worker : ℕ) → worker < g.physical.workers → get_or all worker [] ≡ map (λ own. get_or own worker no_instance) list
    own_is worker below =
        ap (λ (l : List (List Instance)). get_or l worker []) all_is
        ∙ columns_at g.physical.workers (replicate g.physical.workers []) list worker (length-replicate g.physical.workers []) below rows_long
        ∙ ap (λ (r : List Instance). r ++ map (λ own. get_or own worker no_instance) list) (blank g.physical.workers worker [] refl)

    instance_is : (at worker : ℕ) → at < ops → worker < g.physical.workers → get_or (get_or all worker []) at no_instance ≡ get_or (get_or list at []) worker no_instance
    instance_is at worker less below =
        ap (λ (l : List Instance). get_or l at no_instance) (own_is worker below)
        ∙ map_get (λ (own : List Instance). get_or own worker no_instance) list at [] no_instance (omega (arith, less, started.long))

    pub at_start : AreAtStart g ops all
    at_start = record {
      long = ap length all_is ∙ length_columns (replicate g.physical.workers []) list ∙ length-replicate g.physical.workers [];
      each = λ worker below. ap length (own_is worker below) ∙ length-map list (λ (own : List Instance). get_or own worker no_instance) ∙ started.long;
      local = λ at worker there below.
          let s = spot g (subtree_of at g.physical.tree) in
          let less = only at there in
          subst (λ (i : Instance). IsLocal s worker i (λ port from. []) (λ to. [])) (sym (instance_is at worker less below))
          (started_local s worker (get_or (get_or list at []) worker no_instance) ((started.each at less).each worker below).started);
    }

-- ---- workers after their work

-- What a worker has after its work: its ends are still those of its pipes, and it did events of its own instances and
-- nothing else.
record HasLeft (fields worker : ℕ) (pipes : PipeTables) (own : List Instance) (puts takes : EndTable) (w : WorkerData) : Type 0 where
  count : length w.instances ≡ length own
  ready : IsReady fields worker pipes w.instances w.puts w.takes
  works : Works worker (length own) (worker_state own puts takes) (worker_state w.instances w.puts w.takes)

-- a plan has at most 64 sources and operators
pub few_numbers : (p : PhysicalData) (ops : ℕ) → IsPhysical p → ((at : ℕ) → at < ops → has at p.tree ≡ true) → ops ≤ 64
few_numbers p zero plan all = omega arith
few_numbers p (suc n) plan all = let less = below_limit n p.tree plan.plan (all n (omega arith)) in omega (arith, less)

module _ (g : Setting) (ops depth : ℕ) (pipes : PipeTables) (puts takes : EndTables) (all : List (List Instance)) (plan : IsPhysical g.physical) (all_ops : (at : ℕ) → at < ops → has at g.physical.tree ≡ true)
    (only : (at : ℕ) → has at g.physical.tree ≡ true → at < ops) (deep : depth ≤ 64) (start : AreAtStart g ops all) (wired : AreWired g.physical ops depth (256 * ops) pipes puts takes)
    {L W : Type 0} (workers : List (Worker L W)) (assembled : AreAssembled all puts takes g.physical.workers workers) where
  ready_one : (worker : ℕ) → worker < g.physical.workers → IsReadyFor g g.fields worker pipes (get_or all worker []) (get_or puts worker []) (get_or takes worker [])
  ready_one worker below =
      ready_for g worker ops depth pipes puts takes (get_or all worker []) plan below (start.each worker below) (few_numbers g.physical ops plan all_ops) deep all_ops only wired (λ at there. start.local at worker there below)

  ready_worker : (k : ℕ) (w : Worker L W) → IsAssembled (get_or all k []) (get_or puts k []) (get_or takes k []) k w → IsReady g.fields k pipes (get_or all k []) (get_or puts k []) (get_or takes k []) → IsWorkerReady g.fields pipes w
  ready_worker k w i r =
      subst (λ (x : ℕ × List Instance × EndTable × EndTable). IsReady g.fields x.0 pipes x.1 x.2 x.3) (λ t. (sym i.number_is t, sym i.instances_are t, sym i.puts_are t, sym i.takes_are t)) r

  are_ready : All (IsWorkerReady g.fields pipes) workers
  are_ready k d less =
      let below : k < g.physical.workers = omega (arith, less, assembled.long) in
      ready_worker k (slice_index_or workers k d) (assembled.each k d below) (record { setting = g; ready = ready_one k below })

  left_worker : (k : ℕ) (own : List Instance) (put take : EndTable) (a b : Worker L W) → IsAssembled own put take k a → HasWorked g.fields pipes a b → HasLeft g.fields k pipes own put take (data_of b)
  left_worker k own put take a b i h = record {
    count = h.count ∙ ap length i.instances_are;
    ready = subst (λ (n : ℕ). IsReady g.fields n pipes b.instances.items b.puts b.takes) i.number_is h.ready;
    works = subst (λ (x : ℕ × List Instance × EndTable × EndTable). Works x.0 (length x.1) (worker_state x.1 x.2 x.3) (worker_state b.instances.items b.puts b.takes))
        (λ t. (i.number_is t, i.instances_are t, i.puts_are t, i.takes_are t)) h.works;
  }

  module _ (after : List (Worker L W)) (worked : HaveAllWorked g.fields pipes workers after) where
    abbrev ws : List WorkerData
    ws = all_data after

    left_long : length ws ≡ g.physical.workers
    left_long = length-map after data_of ∙ worked.long ∙ assembled.long

    left : (worker : ℕ) → worker < g.physical.workers → HasLeft g.fields worker pipes (get_or all worker []) (get_or puts worker []) (get_or takes worker []) (worker_at ws worker)
    left worker below =
        let less : worker < length workers = omega (arith, below, assembled.long) in
        let d = some_item workers worker less in
        subst (HasLeft g.fields worker pipes (get_or all worker []) (get_or puts worker []) (get_or takes worker [])) (sym (map_get data_of after worker d nothing (omega (arith, less, worked.long))))
        (left_worker worker (get_or all worker []) (get_or puts worker []) (get_or takes worker []) (slice_index_or workers worker d) (slice_index_or after worker d) (assembled.each worker d below) (worked.each worker d less))

    each_long : (n : ℕ) (xs : List WorkerData) → ((k : ℕ) → k < length xs → length (worker_at xs k).instances ≡ n) → AllByRecursion (λ (w : WorkerData). length w.instances ≡ n) xs
    each_long n [] h = tt
    each_long n (x ∷ xs) h = (h 0 (omega arith), each_long n xs (λ k less. h (suc k) (omega (arith, less))))

    have_returned : HaveReturned g.physical ops pipes ws
    have_returned = record {
      workers = left_long;
      instances = each_long ops ws (λ k less. let below : k < g.physical.workers = omega (arith, less, left_long) in (left k below).count ∙ start.each k below);
      of_plan = pipes_of g.physical ops depth (256 * ops) pipes puts takes deep plan.few_workers (λ edge from to goes. only edge (edge_there g.physical edge from to goes)) refl wired;
      puts = λ worker below. (left worker below).ready.ready.puts_are;
      takes = λ worker below. (left worker below).ready.ready.takes_are;
    }

    kept_local : (worker : ℕ) → worker < g.physical.workers → AllLocal g worker (worker_state (worker_at ws worker).instances (worker_at ws worker).puts (worker_at ws worker).takes)
    kept_local worker below =
        let own = get_or all worker [] in
        works_kept g worker plan.plan.different (length own) (λ at less. all_ops at (omega (arith, less, start.each worker below))) (worker_state own (get_or puts worker []) (get_or takes worker []))
        (worker_state (worker_at ws worker).instances (worker_at ws worker).puts (worker_at ws worker).takes) (ready_one worker below).local (left worker below).works

    are_local : AreLocal g ws
    are_local = all_local g ws (λ worker below at there. kept_local worker below at there)

  pub are_assigned : AreAssigned g ops g.fields pipes workers
  are_assigned = record {
    some = omega (arith, plan.some_worker, assembled.long);
    ready = are_ready;
    returned = λ after worked. have_returned after worked;
    local = λ after worked. are_local after worked;
  }
