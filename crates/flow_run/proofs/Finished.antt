-- The world that the workers have left represents what their ends have put and taken.
use Rattle.std.proofs.Common.{◌≡◌, ◌<◌, ◌≤◌, ◌&&◌, inl, inr, nat_lt, ℕ, Bool, true, false, true≢false, List, [], get_or, length, map, replicate, slice_get, arith, refl, sym, ap, ◌∙◌, subst}
use Rattle.std.specs.Prelude.{IfOk, Result, Ok, Err, Option, Some, None, if◌then◌else◌}
use Rattle.std.proofs.lemmas.Bool.{cases_lt}
use Rattle.std.proofs.lemmas.Bool.Decides.{nat_tests}
use Rattle.std.proofs.lemmas.List.{get_or_past, length-replicate}
use Rattle.batch_channel.specs.Ends.{APipe, AnEnd}
use Rattle.pact_bag.specs.declared.outcomes.Outcome.{Outcome}
use Rattle.pact_operators.specs.Allowed.{Bag, Counted}
use Rattle.pact_operators.specs.Inputs.{AreInputsOf}
use Rattle.pact_operators.specs.PlanOps.{plan_ops}
use Rattle.pact_operators.specs.Programs.{IsPlanOf, IsProgram, ProgramData}
use Rattle.ship_strategy.specs.PlanFacts.{facts_of}
use Rattle.ship_strategy.specs.Ships.{LegalShip}
use Rattle.plan_trees.specs.Physicals.{IsPhysical, PhysicalData, has_edge, ship_at}
use Rattle.plan_trees.specs.Plans.{has, subtree_of}
use Rattle.plan_trees.specs.Sending.{has_out}
use Rattle.plan_trees.specs.declared.physicals.Ship.{Ship}
use Rattle.flow_instance.proofs.PartsOfPlans.{number_below}
use Rattle.flow_instance.specs.declared.notes.Note.{Note}
use Rattle.flow_instance.specs.Instances.{Instance}
use Rattle.flow_instance.specs.Local.{IsLocal}
use Rattle.flow_instance.specs.Spots.{Port, Setting, ports_of, setting, spot}
use Rattle.flow_instance.specs.Worlds.{History, IsOutside, Stands, lists_at}
use Rattle.flow_core.specs.Left.{AreOfPlan, IsPipeOf, LeftOn, StandForSome, instance_of, left_world}
use Rattle.flow_core.specs.Outcomes.{IsWorldOutcome}
use Rattle.flow_core.specs.Worlds.{IsStanding, WorldData, no_instance}
use Rattle.flow_run.specs.Ends.{IsEndOf, IsPipeIf, PipeTables, goes_along, notes_in}
use Rattle.flow_run.specs.Outcomes.{IsPlanOutcome}
use Rattle.flow_run.specs.Tables.{cell, cell_in}
use Rattle.flow_run.specs.WorkerData.{AreEnds, AreGathered, AreLocal, AreLocalForSome, HaveReturned, IsBeyond, WorkerData, history_of, nothing, put_at, worker_at, take_at, with_columns}
use Rattle.flow_run.proofs.Arranged.{length_columns, row_at, row_item, row_length}
use Rattle.flow_run.proofs.Closing.{ends_none, no_end, no_some}

-- ---- pipes of the plan

no_pipe : (b : Bool) (o : Option APipe) → b ≡ false → IsPipeIf b o → o ≡ None
no_pipe true o e i = absurd (true≢false e)
no_pipe false o e i = i

goes_there : (b : Bool) (o : Option APipe) (p : APipe) → IsPipeIf b o → o ≡ Some p → b ≡ true
goes_there true o p i e = refl
goes_there false o p i e = absurd (no_some o p i e)

ship_there : (b : Bool) (s : Ship) (from to : ℕ) → has_out (if b then Some s else None) from to ≡ true → b ≡ true
ship_there true s from to e = refl
ship_there false s from to e = absurd (true≢false (sym e))

both_of : (s t : Bool) → (s && t) ≡ true → (s ≡ true) × (t ≡ true)
both_of true t e = (refl, e)
both_of false t e = absurd (true≢false (sym e))

within : (m n : ℕ) → nat_lt m n ≡ true → m < n
within m n e = grind (arith, nat_tests)

not_within : (m n : ℕ) → n ≤ m → nat_lt m n ≡ false
not_within m n more = grind (arith, nat_tests)

of_plan : (p : PhysicalData) (edge from to : ℕ) → goes_along p edge from to ≡ true → IsPipeOf p (record { edge = edge; from = from; to = to })
of_plan p edge from to e =
    let outer = both_of (nat_lt from p.workers && nat_lt to p.workers) (has_out (ship_at p edge) from to) e in
    let ends = both_of (nat_lt from p.workers) (nat_lt to p.workers) outer.0 in
    record {
      edge = (both_of (has edge p.tree) _ (ship_there (has_edge edge p.tree) _ from to outer.1)).0;
      from = within from p.workers ends.0;
      to = within to p.workers ends.1;
    }

unless_some : (o : Option APipe) → ((p : APipe) → o ≡ Some p → ⊥) → o ≡ None
unless_some None h = refl
unless_some (Some p) h = absurd (h p refl)

no_cell : (a b : ℕ) (rows : List (List (Option AnEnd))) → rows ≡ [] → cell rows a b ≡ None
no_cell a b rows e =
    ap (λ (l : List (List (Option AnEnd))). cell l a b) e ∙ ap (λ (l : List (Option AnEnd)). get_or l b None) (get_or_past [] a [] (omega arith)) ∙ get_or_past [] b None (omega arith)

-- ---- workers that have returned

module _ (physical : PhysicalData) (ops : ℕ) (pipes : PipeTables) (ws : List WorkerData) (r : HaveReturned physical ops pipes ws) where
  pub there_of_plan : (edge from to : ℕ) (pipe : APipe) → cell_in pipes edge from to ≡ Some pipe → IsPipeOf physical (record { edge = edge; from = from; to = to })
  there_of_plan edge from to pipe is = of_plan physical edge from to (goes_there (goes_along physical edge from to) (cell_in pipes edge from to) pipe (r.of_plan.each edge from to) is)

  none_from : (edge from to : ℕ) → IsOutside physical.workers from to → cell_in pipes edge from to ≡ None
  none_from edge from to out = unless_some (cell_in pipes edge from to) (λ pipe is.
      let of = there_of_plan edge from to pipe is in
      let f = of.from in
      let t = of.to in
      elim out as (λ _. ⊥) [ inl more ↦ omega (arith, more, f) | inr more ↦ omega (arith, more, t) ])

  pub none_beyond : IsPhysical physical → ((at : ℕ) → has at physical.tree ≡ true → at < ops) → (edge from to : ℕ) → IsBeyond ops edge from to → cell_in pipes edge from to ≡ None
  none_beyond plan only edge from to out = unless_some (cell_in pipes edge from to) (λ pipe is.
      let of = there_of_plan edge from to pipe is in
      let e = only edge of.edge in
      let f = of.from in
      let t = of.to in
      let few = plan.few_workers in
      elim out as (λ _. ⊥) [
        | inl more ↦ omega (arith, more, e)
        | inr further ↦ elim further as (λ _. ⊥) [ inl more ↦ omega (arith, more, f, few) | inr more ↦ omega (arith, more, t, few) ]
      ])

  no_worker : (worker : ℕ) → physical.workers ≤ worker → worker_at ws worker ≡ nothing
  no_worker worker more = get_or_past ws worker nothing (omega (arith, more, r.workers))

  pub returned_ends : AreEnds pipes ws
  returned_ends = record {
    puts = λ edge from to. elim (cases_lt from physical.workers) as (λ _. IsEndOf (cell_in pipes edge from to) (put_at ws edge from to)) [
      | inl below ↦ (r.puts from below).each edge to
      | inr more ↦ ends_none (cell_in pipes edge from to) (put_at ws edge from to) (none_from edge from to (inl more)) (no_cell edge to (worker_at ws from).puts (ap (λ (w : WorkerData). w.puts) (no_worker from more)))
    ];
    takes = λ edge from to. elim (cases_lt to physical.workers) as (λ _. IsEndOf (cell_in pipes edge from to) (take_at ws edge from to)) [
      | inl below ↦ (r.takes to below).each edge from
      | inr more ↦ ends_none (cell_in pipes edge from to) (take_at ws edge from to) (none_from edge from to (inr more)) (no_cell edge from (worker_at ws to).takes (ap (λ (w : WorkerData). w.takes) (no_worker to more)))
    ];
  }

  pub none_put : (edge from to : ℕ) → IsOutside physical.workers from to → notes_in (put_at ws edge from to) ≡ []
  none_put edge from to out = ap notes_in (no_end (cell_in pipes edge from to) (put_at ws edge from to) (none_from edge from to out) (returned_ends.puts edge from to))

-- ---- the world that they have left

module _ (p : ProgramData) (physical : PhysicalData) (plan : IsPlanOf p.functions p.ops physical.tree) (pipes : PipeTables) (ws rest : List WorkerData) (r : HaveReturned physical (length p.ops) pipes ws)
    (lists : List LeftOn) (g : AreGathered pipes ws lists rest) (rows : List (List Instance)) (rows_are : rows ≡ with_columns (replicate (length p.ops) []) (map (λ (w : WorkerData). w.instances) rest)) where
  rows_first : rows ≡ with_columns (replicate (length p.ops) []) (map (λ (w : WorkerData). w.instances) ws)
  rows_first = rows_are ∙ ap (with_columns (replicate (length p.ops) [])) g.instances

  rows_long : length rows ≡ length p.ops
  rows_long = ap length rows_first ∙ length_columns (replicate (length p.ops) []) (map (λ (w : WorkerData). w.instances) ws) ∙ length-replicate (length p.ops) []

  row_is : (at : ℕ) → at < length p.ops → get_or rows at [] ≡ map (λ own. get_or own at no_instance) (map (λ (w : WorkerData). w.instances) ws)
  row_is at less = ap (λ (l : List (List Instance)). get_or l at []) rows_first ∙ row_at (length p.ops) ws at less r.instances

  pub gathered_of_plan : AreOfPlan physical rows lists
  gathered_of_plan = record {
    each = λ at there. let below = number_below p.ops at physical.tree there plan.arity in omega (arith, below, rows_long);
    only = λ at less. plan.all at (omega (arith, less, rows_long));
    workers = λ at less. ap length (row_is at (omega (arith, less, rows_long))) ∙ row_length ws at ∙ r.workers;
    pipes = g.of_plan physical (there_of_plan physical (length p.ops) pipes ws r);
  }

  same_instance : (at worker : ℕ) → has at physical.tree ≡ true → worker < physical.workers → instance_of rows at worker ≡ get_or (worker_at ws worker).instances at no_instance
  same_instance at worker there below =
      ap (λ (l : List Instance). get_or l worker no_instance) (row_is at (number_below p.ops at physical.tree there plan.arity)) ∙ row_item ws at worker (omega (arith, below, r.workers))

  pub gathered_stand : (s : Setting) → s.physical ≡ physical → AreLocal s ws → Stands s (left_world rows lists) (history_of ws)
  gathered_stand s same local = record {
    pipe = g.whole;
    outside = λ edge from to out. none_put physical (length p.ops) pipes ws r edge from to (subst (λ (q : PhysicalData). IsOutside q.workers from to) same out);
    instances = λ at worker there below.
        let there_too : has at physical.tree ≡ true = subst (λ (q : PhysicalData). has at q.tree ≡ true) same there in
        let below_too : worker < physical.workers = subst (λ (q : PhysicalData). worker < q.workers) same below in
        let t = subtree_of at s.physical.tree in
        let h = history_of ws in
        subst (λ (i : Instance). IsLocal (spot s t) worker i (λ port from. lists_at h.taken (slice_get (ports_of s.physical t) port) from worker) (λ to. h.put at worker to))
        (sym (same_instance at worker there_too below_too)) (local at worker there below);
  }

  pub gathered_for_some : AreLocalForSome p physical ws → StandForSome p physical rows lists
  gathered_for_some some = record {
    inputs = some.inputs;
    history = history_of ws;
    are_inputs = some.are_inputs;
    stand = gathered_stand (setting p some.inputs physical) refl some.local;
  }

-- ---- worker by worker

-- at a port, the lists of the worker's own ends are those of the history
own_taken : (ws : List WorkerData) (worker : ℕ) (o : Option Port) (from : ℕ)
    → lists_at (λ edge from _. notes_in (cell (worker_at ws worker).takes edge from)) o from worker ≡ lists_at (history_of ws).taken o from worker
own_taken ws worker None from = refl
own_taken ws worker (Some port) from = refl

-- from single workers to all of them
pub all_local : (g : Setting) (ws : List WorkerData)
    → ((worker : ℕ) → worker < g.physical.workers → (at : ℕ) → has at g.physical.tree ≡ true
    → IsLocal (spot g (subtree_of at g.physical.tree)) worker (get_or (worker_at ws worker).instances at no_instance)
    (λ port from. lists_at (λ edge from _. notes_in (cell (worker_at ws worker).takes edge from)) (slice_get (ports_of g.physical (subtree_of at g.physical.tree)) port) from worker)
    (λ to. notes_in (cell (worker_at ws worker).puts at to)))
    → AreLocal g ws
all_local g ws each at worker there below =
    let t = subtree_of at g.physical.tree in
    subst (λ (taken : ℕ → ℕ → List Note). IsLocal (spot g t) worker (get_or (worker_at ws worker).instances at no_instance) taken (λ to. notes_in (cell (worker_at ws worker).puts at to)))
    (λ i port from. own_taken ws worker (slice_get (ports_of g.physical t) port) from i) (each worker below at there)

-- ---- the end of a run

-- a run on one thread, from a world that represents a history of the plan's run
pub plan_outcome : {E : Type 0} (p : ProgramData) (inputs : List Bag) (physical : PhysicalData) (w : WorldData) (h : History) (r : Result Outcome E) → w.physical ≡ physical
    → IsProgram p → AreInputsOf p inputs → IsPlanOf p.functions p.ops physical.tree → IsStanding (setting p inputs physical) w h
    → IfOk r (IsWorldOutcome w)
    → IfOk r (IsPlanOutcome p inputs physical)
plan_outcome p inputs physical w h (Ok o) same is are plan stand run = record {
  spread = run.spread (setting p inputs physical) h stand;
  counted = λ legal. subst
      (λ (q : PhysicalData). IsPlanOf p.functions p.ops q.tree → LegalShip (facts_of p q.tree) q → IsStanding (setting p inputs q) w h → Counted (plan_ops p inputs) q.tree o.rows o.counts)
      same (run.counted p inputs h is are) plan legal stand;
  widths = run.widths (setting p inputs physical) h stand;
  counts = run.counts p (subst (λ (q : PhysicalData). IsPlanOf p.functions p.ops q.tree) (sym same) plan);
}
plan_outcome p inputs physical w h (Err e) same is are plan stand run = tt
