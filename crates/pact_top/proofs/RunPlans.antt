-- A run of the chosen plan gives a bag that the plan as written allows, and its texts are those of the command.
use Rattle.std.proofs.Common.{◌≡◌, ℕ, Bool, true, false, refl, List, [], Some, IfOk, Result, Ok, Err, sym, subst, ◌∙◌}
use Rattle.std.specs.Prelude.{slice_get}
use Rattle.std.specs.List.Sorted.{IsPermutation}
use Rattle.combine_rule.specs.CombinedPrograms.{planned}
use Rattle.flow_run.specs.Outcomes.{IsPlanOutcome}
use Rattle.pact_operators.specs.Allowed.{Bag, Counted, count_of}
use Rattle.pact_operators.specs.Inputs.{AreInputsOf}
use Rattle.pact_operators.specs.PlanOps.{plan_ops}
use Rattle.pact_operators.specs.Programs.{IsPlanOf, IsProgram, ProgramData}
use Rattle.pact_operators.proofs.PermutedEvaluations.{evaluates_allowed}
use Rattle.plan_trees.specs.Physicals.{PhysicalData}
use Rattle.plan_trees.specs.Plans.{PlanTree}
use Rattle.prune_fields.specs.declared.pruning.Kept.{Kept}
use Rattle.prune_fields.specs.SameAnswers.{HaveSameRows}
use Rattle.reorder_pair.specs.Legal.{KeepAnswers}
use Rattle.ship_strategy.specs.PlanFacts.{facts_of}
use Rattle.ship_strategy.specs.Ships.{LegalShip}
use Rattle.pact_bag.specs.declared.outcomes.Outcome.{Outcome}
use Rattle.pact_record.specs.Widths.{AreWide}
use Rattle.pact_words.specs.declared.commands.Options.{Options}
use Rattle.pact_words.specs.Words.{AreOptionsInRange}
use Rattle.pact_top.specs.declared.choosing.Choice.{Choice}
use Rattle.pact_load.specs.declared.loaded.Loaded.{Loaded}
use Rattle.pact_top.specs.declared.rewriting.RunOutcome.{RunOutcome}
use Rattle.pact_top.specs.declared.texts.Texts.{Texts}
use Rattle.pact_top.specs.CommandTexts.{IsAnswerOf, IsChoice, in_layout}
use Rattle.pact_top.specs.PrivateCalls.{AreReportedCounts, IsLayoutOutcome}
use Rattle.bag_lines.specs.Lines.{AreLines}
use Rattle.pact_top.specs.Runs.{CanRun, IsCombinedAs, IsPrunedAs, IsPrunedRewrite, IsRunOutcome, IsRunCombinedAs, IsRunRewrittenAs, IsSamePlan, KeepsPlan}
use Rattle.pact_top.proofs.ChosenTexts.{told-AreCounts}
use Rattle.pact_top.proofs.CommandsRun.{is_answer}

-- ---- a rewritten plan

-- The plan is one of the program's, for this number of workers, and the rows are those of the program's sources.
pub record IsRunnable (p : ProgramData) (x : PhysicalData) (rows : List Bag) (count : ℕ) : Type 0 where
  pub plan : IsPlanOf p.functions p.ops x.tree
  pub inputs : AreInputsOf p rows
  pub workers : count ≡ x.workers

kept_can : (p q : ProgramData) (x y : PhysicalData) (rows : List Bag) (count : ℕ) → IsRunnable p x rows count → KeepsPlan (planned p x) (planned q y) → IsRunnable q y rows count
kept_can p q x y rows count h k = record { plan = k.plan; inputs = k.inputs rows h.inputs; workers = h.workers ∙ sym k.workers }

-- what holds of the same program with the same plan
same_plan : (P : ProgramData → PhysicalData → Type 0) (p q : ProgramData) (x y : PhysicalData) → q ≡ p → y ≡ x → P q y → P p x
same_plan P p q x y e d h = subst (λ (a : ProgramData). P a x) e (subst (λ (b : PhysicalData). P q b) d h)

same_can : (p q : ProgramData) (x y : PhysicalData) (rows : List Bag) (count : ℕ) → IsRunnable p x rows count → IsSamePlan (planned p x) (planned q y) → IsRunnable q y rows count
same_can p q x y rows count h s = same_plan (λ (a : ProgramData) (b : PhysicalData). IsRunnable a b rows count) q p y x (sym s.same_program) (sym s.same_physical) h

pub pruned_can : (asked : Bool) (p q : ProgramData) (x y : PhysicalData) (kept : List Kept) (rows : List Bag) (count : ℕ) → IsRunnable p x rows count → IsPrunedAs asked (planned p x) (planned q y) kept → IsRunnable q y rows count
pruned_can true p q x y kept rows count h g = kept_can p q x y rows count h g.keeps
pruned_can false p q x y kept rows count h g = same_can p q x y rows count h g.0

pub combined_can : (asked : Bool) (p q : ProgramData) (x y : PhysicalData) (of : List (ℕ × ℕ)) (rows : List Bag) (count : ℕ) → IsRunnable p x rows count → IsCombinedAs asked (planned p x) (planned q y) of → IsRunnable q y rows count
combined_can true p q x y of rows count h g = kept_can p q x y rows count h g.keeps
combined_can false p q x y of rows count h g = same_can p q x y rows count h g.0

-- such a plan can be run with options within their ranges
pub runnable_can : (p : ProgramData) (x : PhysicalData) (rows : List Bag) (options : Options) → IsRunnable p x rows options.workers → AreOptionsInRange options → CanRun p x rows options
runnable_can p x rows options h range = record {
  plan = h.plan;
  inputs = h.inputs;
  workers = h.workers;
  batch = (range.least_batch, range.most_batch);
  depth = (range.least_depth, range.most_depth);
}

-- ---- what its run leaves

-- What a run of the plan left, with partial groups if these are asked for. If the plan ships legally, the counts are
-- those of one evaluation that gives the rows.
record IsGroupedLeft (p : ProgramData) (x : PhysicalData) (inputs : List Bag) (combine : Bool) (o : Outcome) (of : List (ℕ × ℕ)) : Type 0 where
  run : IsRunCombinedAs (planned p x) inputs combine o of
  counted : LegalShip (facts_of p x.tree) x → Counted (plan_ops p inputs) x.tree o.rows o.counts
  widths : AreWide p.fields o.rows

-- what the run of the combined plan leaves, or of the same one, is that of the plan
grouped_left : (combine : Bool) (p q : ProgramData) (x y : PhysicalData) (inputs : List Bag) (o : Outcome) (of : List (ℕ × ℕ)) → AreInputsOf p inputs → IsCombinedAs combine (planned p x) (planned q y) of
    → IsPlanOutcome q inputs y o → IsGroupedLeft p x inputs combine o of
grouped_left true p q x y inputs o of are h left = record {
  run = record { end = planned q y; combined = h.combined; run = left.spread; put_once = h.put_once inputs o.rows o.counts left.spread };
  counted = λ legal. h.counted inputs o.rows o.counts (record { of_inputs = are; legal = legal; run = left.spread });
  widths = subst (λ (n : ℕ). AreWide n o.rows) h.keeps.fields left.widths;
}
grouped_left false p q x y inputs o of are h left =
    let own : IsPlanOutcome p inputs x o = same_plan (λ (a : ProgramData) (b : PhysicalData). IsPlanOutcome a inputs b o) p q x y h.0.same_program h.0.same_physical left in
    record { run = record { run = own.spread; none = h.1 }; counted = own.counted; widths = own.widths }

-- a run that drops no fields leaves the plan's own bag
whole_left : (p : ProgramData) (x : PhysicalData) (inputs : List Bag) (combine : Bool) (r : RunOutcome) → LegalShip (facts_of p x.tree) x
    → IsGroupedLeft p x inputs combine r.outcome r.combined.items → r.kept.items ≡ [] → IsRunOutcome (planned p x) inputs false combine r
whole_left p x inputs combine r legal h none = record {
  run = record { run = h.run; none = none };
  counted = record { now = r.outcome.rows; counted = h.counted legal; rows = refl };
  whole = λ _. refl;
  widths = h.widths;
}

-- a run of the pruned plan leaves what a run of the plan can leave, cut to the sink's fields
dropped_left : (p q : ProgramData) (x y : PhysicalData) (inputs : List Bag) (combine : Bool) (r : RunOutcome) → AreInputsOf p inputs → IsPrunedRewrite (planned p x) (planned q y) r.kept.items
    → IsGroupedLeft q y inputs combine r.outcome r.combined.items → IsRunOutcome (planned p x) inputs true combine r
dropped_left p q x y inputs combine r are h left = record {
  run = record { end = planned q y; pruned = h.pruned; legal = h.legal; same = h.same; run = left.run };
  counted = (h.same inputs are).back r.outcome.rows r.outcome.counts (left.counted h.legal);
  whole = λ no_drop. absurd (let wrong : true ≡ false = no_drop in cc);
  widths = subst (λ (n : ℕ). AreWide n r.outcome.rows) h.keeps.fields left.widths;
}

pruned_left : (prune combine : Bool) (p q : ProgramData) (x y : PhysicalData) (inputs : List Bag) (r : RunOutcome) → LegalShip (facts_of p x.tree) x → AreInputsOf p inputs
    → IsPrunedAs prune (planned p x) (planned q y) r.kept.items → IsGroupedLeft q y inputs combine r.outcome r.combined.items → IsRunOutcome (planned p x) inputs prune combine r
pruned_left true combine p q x y inputs r legal are h left = dropped_left p q x y inputs combine r are h left
pruned_left false combine p q x y inputs r legal are h left =
    whole_left p x inputs combine r legal
    (same_plan (λ (a : ProgramData) (b : PhysicalData). IsGroupedLeft a b inputs combine r.outcome r.combined.items) p q x y h.0.same_program h.0.same_physical left)
    h.1

-- what the run of the plan that was rewritten step by step leaves is that of the plan
pub run_left : (prune combine : Bool) (p q s : ProgramData) (x y z : PhysicalData) (inputs : List Bag) (r : RunOutcome) → LegalShip (facts_of p x.tree) x → AreInputsOf p inputs → AreInputsOf q inputs
    → IsPrunedAs prune (planned p x) (planned q y) r.kept.items → IsCombinedAs combine (planned q y) (planned s z) r.combined.items → IsPlanOutcome s inputs z r.outcome
    → IsRunOutcome (planned p x) inputs prune combine r
run_left prune combine p q s x y z inputs r legal are own pruned combined left =
    pruned_left prune combine p q x y inputs r legal are pruned
    (grouped_left combine q s y z inputs r.outcome r.combined.items own combined left)

pub is_outcome : {E : Type 0} (l : Loaded) (workers : ℕ) (plan : PlanTree) (layout : ℕ) (prune combine : Bool) (physical : PhysicalData) (result : Result RunOutcome E) → physical ≡ (in_layout l workers plan layout).physical
    → physical.tree ≡ plan → AreInputsOf l.program l.inputs → KeepAnswers l.program l.program.plan plan
    → IfOk result (IsRunOutcome (planned l.program physical) l.inputs prune combine) → IfOk result (IsLayoutOutcome l workers plan layout prune combine)
is_outcome l workers plan layout prune combine physical (Ok r) is_laid same are_inputs answers left =
    let bag = left.counted.now in
    let counted = subst (λ (t : PlanTree). Counted (plan_ops l.program l.inputs) t bag r.outcome.counts) same left.counted.counted in
    record {
      bag = bag;
      rows = left.counted.rows;
      whole = left.whole;
      allowed = (answers l.inputs are_inputs bag).1 (evaluates_allowed (λ (n k : ℕ). slice_get r.outcome.counts n ≡ Some (count_of k)) (plan_ops l.program l.inputs) plan bag counted);
      counted = counted;
      widths = left.widths;
      run = subst (λ (d : PhysicalData). IsRunRewrittenAs (planned l.program d) l.inputs prune combine r.outcome r.kept.items r.combined.items) is_laid left.run;
    }
is_outcome l workers plan layout prune combine physical (Err e) is_laid same are_inputs answers left = tt

-- the lines of rows are the lines of each bag with the same rows, cut to the sink's fields
pub lines_beside : (sink : List ℕ) (bag rows : Bag) (text : List ℕ) → HaveSameRows sink bag rows → AreLines sink rows text → AreLines sink bag text
lines_beside sink bag rows text same h = record { rows = h.rows; permuted = subst (λ (cuts : Bag). IsPermutation cuts h.rows) (sym same) h.permuted; sorted = h.sorted; spelled = h.spelled }

pub are_answers : {E : Type 0} (l : Loaded) (workers plans : ℕ) (asked prune combine : Bool) (result : Result Texts E) (choice : Choice) (r : RunOutcome) → IsProgram l.program → IsChoice l workers plans choice
    → IsLayoutOutcome l workers choice.best.plan choice.best.chosen.layout prune combine r → IfOk result (λ t. AreLines l.program.sink r.outcome.rows t.out)
    → IfOk result (λ t. AreReportedCounts l.program choice.best.plan r.outcome.counts r.kept.items r.combined.items asked t.told) → IfOk result (IsAnswerOf l workers plans asked prune combine)
are_answers l workers plans asked prune combine (Ok t) choice r program chosen is lines told =
    is_answer l workers plans asked prune combine t is.bag program is.allowed (lines_beside l.program.sink is.bag r.outcome.rows t.out is.rows lines)
    (told-AreCounts l workers plans choice prune combine r is asked t.told chosen told)
are_answers l workers plans asked prune combine (Err e) choice r program chosen is lines told = tt
