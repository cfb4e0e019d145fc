-- Runs of a physical plan: with or without fields dropped before records are shipped, and with or without partial
-- groups.
use Rattle.std.specs.Borrow.{Bor}
use Rattle.std.specs.List.{AllByRecursion}
use Rattle.std.specs.Prelude.{◌≡◌, ◌≤◌, ℕ, Bool, true, false, List, [], Result, IfOk}
use Rattle.combine_rule.specs.CombinedPrograms.{IsCombinedPlan, Planned}
use Rattle.combine_rule.specs.CombinedRuns.{AllPutOnePerKey, IsCountedFor, PutsOnePerKey}
use Rattle.flow_core.specs.Worlds.{depth_limit}
use Rattle.flow_instance.specs.Limits.{batch_limit}
use Rattle.flow_instance.specs.Spots.{setting}
use Rattle.flow_instance.specs.Spread.{Spread}
use Rattle.flow_run.specs.Outcomes.{IsPlanOutcome}
use Rattle.flow_run.specs.declared.options.Options.{Options as RunOptions}
use Rattle.pact_bag.specs.declared.outcomes.Outcome.{Outcome}
use Rattle.pact_operators.specs.Allowed.{Bag}
use Rattle.pact_operators.specs.Inputs.{AreInputsOf}
use Rattle.pact_operators.specs.PlanOps.{plan_ops}
use Rattle.pact_operators.specs.Programs.{IsPlanOf, ProgramData}
use Rattle.pact_record.specs.Widths.{AreWide}
use Rattle.pact_words.specs.declared.commands.Options.{Options}
use Rattle.plan_trees.specs.Physicals.{PhysicalData}
use Rattle.prune_fields.specs.declared.pruning.Kept.{Kept}
use Rattle.prune_fields.specs.PrunedPlans.{IsPruned}
use Rattle.prune_fields.specs.SameAnswers.{AnswersSame, IsCountedBeside}
use Rattle.ship_strategy.specs.PlanFacts.{facts_of}
use Rattle.ship_strategy.specs.Ships.{LegalShip}
use Rattle.pact_top.specs.declared.rewriting.RunOutcome.{RunOutcome}

-- ---- a run

-- The plan is one of the program's, the rows are those of its sources, the plan has the number of workers that the
-- options have, and the other numbers are within their ranges.
pub record CanRun (p : ProgramData) (physical : PhysicalData) (rows : List Bag) (o : Options) : Type 0 where
  pub plan : IsPlanOf p.functions p.ops physical.tree
  pub inputs : AreInputsOf p rows
  pub workers : o.workers ≡ physical.workers
  pub batch : (1 ≤ o.batch) × (o.batch ≤ batch_limit)
  pub depth : (1 ≤ o.depth) × (o.depth ≤ depth_limit)

-- those of a command's options that tell how workers run a plan
abbrev pub run_options : Options → RunOptions
run_options o = record { workers = o.workers; batch = o.batch; depth = o.depth }

-- a call that may be made whenever a run is possible, and that returns what such a run leaves
pub record IsRunner {E : Type 0} (Pre : Bor ProgramData → Bor PhysicalData → List Bag → Options → Type 0)
    (Post : Bor ProgramData → Bor PhysicalData → List Bag → Options → Result Outcome E → Type 0) : Type 0 where
  pub pre : (p : Bor ProgramData) (physical : Bor PhysicalData) (inputs : List Bag) (o : Options)
      → CanRun p.now physical.now inputs o → Pre p physical inputs o
  pub post : (p : Bor ProgramData) (physical : Bor PhysicalData) (inputs : List Bag) (o : Options) (result : Result Outcome E)
      → CanRun p.now physical.now inputs o → Post p physical inputs o result
      → IfOk result (IsPlanOutcome p.now inputs physical.now)

-- ---- a plan that is rewritten

-- What every rewrite keeps: if the first program with its plan can be run, so can the second, on the same rows.
pub record KeepsPlan (s end : Planned) : Type 0 where
  pub plan : IsPlanOf end.program.functions end.program.ops end.physical.tree
  pub fields : end.program.fields ≡ s.program.fields
  pub workers : end.physical.workers ≡ s.physical.workers
  pub inputs : (inputs : List Bag) → AreInputsOf s.program inputs → AreInputsOf end.program inputs

-- the same program with the same plan, if no rewrite is asked for
pub record IsSamePlan (s end : Planned) : Type 0 where
  pub same_program : end.program ≡ s.program
  pub same_physical : end.physical ≡ s.physical

-- ---- with partial groups or without

-- The second program with its plan is the combined plan of the first. What a run of it leaves are the rows and the
-- counts of an evaluation of the first plan.
pub record IsCombinedRewrite (s end : Planned) (of : List (ℕ × ℕ)) : Type 0 where
  pub keeps : KeepsPlan s end
  pub combined : IsCombinedPlan s end of
  pub counted : IsCountedFor s end
  pub put_once : AllPutOnePerKey end of

-- the combined plan if that is asked for, and the same plan otherwise
abbrev pub IsCombinedAs : Bool → Planned → Planned → List (ℕ × ℕ) → Type 0
IsCombinedAs true s end of = IsCombinedRewrite s end of
IsCombinedAs false s end of = IsSamePlan s end × (of ≡ [])

-- A run of the plan as it is left the rows and the counts, and no operator was inserted.
pub record IsPlainRun (s : Planned) (inputs : List Bag) (o : Outcome) (of : List (ℕ × ℕ)) : Type 0 where
  pub run : Spread (setting s.program inputs s.physical) o.rows o.counts
  pub none : of ≡ []

-- A run of the combined plan left the rows and the counts. Each pair is an inserted operator and its Reduce. In this run
-- each instance of an inserted operator put one record for each key value that it took, so no worker sent two of a key.
pub record IsCombinedRun (s : Planned) (inputs : List Bag) (o : Outcome) (of : List (ℕ × ℕ)) : Type 0 where
  pub end : Planned
  pub combined : IsCombinedPlan s end of
  pub run : Spread (setting end.program inputs end.physical) o.rows o.counts
  pub put_once : AllByRecursion (λ pair. PutsOnePerKey end.program inputs end.physical o.rows o.counts run pair.0) of

-- a run of the combined plan if that is asked for, and a run of the plan as it is otherwise
abbrev pub IsRunCombinedAs : Planned → List Bag → Bool → Outcome → List (ℕ × ℕ) → Type 0
IsRunCombinedAs s inputs false o of = IsPlainRun s inputs o of
IsRunCombinedAs s inputs true o of = IsCombinedRun s inputs o of

-- ---- with fields dropped before records are shipped or without

-- The second program with its plan is the pruned plan of the first. Both give the same records, cut to the sink's
-- fields, with the same counts.
pub record IsPrunedRewrite (s end : Planned) (kept : List Kept) : Type 0 where
  pub keeps : KeepsPlan s end
  pub pruned : IsPruned s.program s.physical end.program end.physical kept
  pub legal : LegalShip (facts_of end.program end.physical.tree) end.physical
  pub same : AnswersSame s.program s.physical end.program end.physical

-- the pruned plan if that is asked for, and the same plan otherwise
abbrev pub IsPrunedAs : Bool → Planned → Planned → List Kept → Type 0
IsPrunedAs true s end kept = IsPrunedRewrite s end kept
IsPrunedAs false s end kept = IsSamePlan s end × (kept ≡ [])

-- A run of the plan itself left the rows and the counts, and no fields were dropped.
pub record IsWholeRun (s : Planned) (inputs : List Bag) (combine : Bool) (o : Outcome) (kept : List Kept) (of : List (ℕ × ℕ)) : Type 0 where
  pub run : IsRunCombinedAs s inputs combine o of
  pub none : kept ≡ []

-- A run of the pruned plan left the rows and the counts. Each source or operator whose records were cut is listed by
-- number, with the fields that were kept. The pruned plan ships legally. Cut to the sink's fields, both plans allow the
-- same bags with the same counts.
pub record IsPrunedRun (s : Planned) (inputs : List Bag) (combine : Bool) (o : Outcome) (kept : List Kept) (of : List (ℕ × ℕ)) : Type 0 where
  pub end : Planned
  pub pruned : IsPruned s.program s.physical end.program end.physical kept
  pub legal : LegalShip (facts_of end.program end.physical.tree) end.physical
  pub same : AnswersSame s.program s.physical end.program end.physical
  pub run : IsRunCombinedAs end inputs combine o of

-- A run of the pruned plan if `prune` is set, and of the plan itself otherwise. With `combine` the plan that runs is
-- combined.
abbrev pub IsRunRewrittenAs : Planned → List Bag → (prune combine : Bool) → Outcome → List Kept → List (ℕ × ℕ) → Type 0
IsRunRewrittenAs s inputs false combine o kept of = IsWholeRun s inputs combine o kept of
IsRunRewrittenAs s inputs true combine o kept of = IsPrunedRun s inputs combine o kept of

-- What a run of the program's physical plan left, with fields dropped and with partial groups if these are asked for.
-- Cut to the sink's fields, the rows are those of a bag that one evaluation of the plan gives, and the counts are those
-- of that evaluation. If no fields are dropped, the rows are that bag.
pub record IsRunOutcome (s : Planned) (inputs : List Bag) (prune combine : Bool) (r : RunOutcome) : Type 0 where
  pub run : IsRunRewrittenAs s inputs prune combine r.outcome r.kept.items r.combined.items
  pub counted : IsCountedBeside s.program.sink r.outcome.rows r.outcome.counts (plan_ops s.program inputs) s.physical.tree
  pub whole : prune ≡ false → counted.now ≡ r.outcome.rows
  pub widths : AreWide s.program.fields r.outcome.rows
