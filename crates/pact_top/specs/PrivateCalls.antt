-- What private calls promise on the way to the texts of a command. No promise of `pact_main` uses these definitions.
use Rattle.std.specs.Prelude.{◌≡◌, ◌<◌, ℕ, Bool, true, false, List, length, Option, Some, None}
use Rattle.pact_record.specs.Widths.{AreWide}
use Rattle.pact_operators.specs.Allowed.{Bag, Counted}
use Rattle.pact_operators.specs.PlanOps.{plan_ops}
use Rattle.pact_operators.specs.Programs.{IsPlanOf, ProgramData}
use Rattle.plan_trees.specs.Plans.{PlanTree}
use Rattle.reorder_pair.specs.Legal.{KeepAnswers}
use Rattle.ship_strategy.specs.PlanFacts.{facts_of}
use Rattle.ship_strategy.specs.Layouts.{layout_count}
use Rattle.ship_strategy.specs.Views.{facts_in}
use Rattle.plan_enumerate.specs.Choices.{IsChosen}
use Rattle.plan_enumerate.specs.declared.entries.Entry.{Entry}
use Rattle.plan_enumerate.specs.Listing.{IsAt, IsListed, plans_of}
use Rattle.prune_fields.specs.declared.pruning.Kept.{Kept}
use Rattle.prune_fields.specs.SameAnswers.{HaveSameRows}
use Rattle.pact_top.specs.Runs.{IsRunRewrittenAs}
use Rattle.pact_top.specs.declared.choosing.Choice.{Choice}
use Rattle.pact_top.specs.declared.choosing.ListedChoice.{ListedChoice}
use Rattle.pact_load.specs.declared.loaded.Loaded.{Loaded}
use Rattle.pact_top.specs.declared.rewriting.RunOutcome.{RunOutcome}
use Rattle.pact_top.specs.CommandTexts.{AllowsWritten, IsChoice, in_layout, row_counts, told_text}

-- ---- the choice

-- each listed plan is one of the program's, and allows the same bags as the plan as written
pub record ArePlansOf (p : ProgramData) (entries : List Entry) : Type 0 where
  pub plans : (t : PlanTree) → IsListed t entries → IsPlanOf p.functions p.ops t
  pub answers : (t : PlanTree) → IsListed t entries → KeepAnswers p p.plan t

-- One of the listed plans is chosen for these rows: the first of least cost, with one of its layouts for this number of
-- workers.
pub record IsListedChoice (p : ProgramData) (inputs : List Bag) (workers : ℕ) (entries : List Entry) (c : ListedChoice) : Type 0 where
  pub chosen : IsChosen p (plans_of entries) (row_counts p.ops inputs) workers c.chosen
  pub there : IsAt entries c.chosen.entry c.plan
  pub plan : IsPlanOf p.functions p.ops c.plan
  pub answers : KeepAnswers p p.plan c.plan
  pub known : facts_in c.facts ≡ facts_of p c.plan
  pub counts : c.counts ≡ row_counts p.ops inputs
  pub entry : c.chosen.entry < length entries
  pub layout : c.chosen.layout < layout_count p.ops

-- The choice's plan is one of the program's, and allows the same bags as the plan as written. Its facts are those of
-- the plan, its row counts are those of the sources, and its numbers are those of an entry and of a layout.
pub record IsSoundChoice (l : Loaded) (workers plans : ℕ) (c : Choice) : Type 0 where
  pub choice : IsChoice l workers plans c
  pub plan : IsPlanOf l.program.functions l.program.ops c.best.plan
  pub answers : KeepAnswers l.program l.program.plan c.best.plan
  pub known : facts_in c.best.facts ≡ facts_of l.program c.best.plan
  pub counts : c.best.counts ≡ row_counts l.program.ops l.inputs
  pub entry : c.best.chosen.entry < length c.listed.entries
  pub layout : c.best.chosen.layout < layout_count l.program.ops

-- ---- a run

-- What a run of a plan in a layout gives, with fields dropped and with partial groups if `prune` and `combine` ask for
-- these. Cut to the sink's fields, the rows are those of a bag that the program as written allows. If no fields are
-- dropped, they are that bag. The counts are those of one evaluation of the plan that gives the bag.
pub record IsLayoutOutcome (l : Loaded) (workers : ℕ) (plan : PlanTree) (layout : ℕ) (prune combine : Bool) (r : RunOutcome) : Type 0 where
  pub bag : Bag
  pub rows : HaveSameRows l.program.sink bag r.outcome.rows
  pub whole : prune ≡ false → bag ≡ r.outcome.rows
  pub allowed : AllowsWritten l bag
  pub counted : Counted (plan_ops l.program l.inputs) plan bag r.outcome.counts
  pub widths : AreWide l.program.fields r.outcome.rows
  pub run : IsRunRewrittenAs (in_layout l workers plan layout) l.inputs prune combine r.outcome r.kept.items r.combined.items

-- the text of the counts if it is asked for, and none otherwise
abbrev pub AreReportedCounts : ProgramData → PlanTree → List ℕ → List Kept → List (ℕ × ℕ) → Bool → Option (List ℕ) → Type 0
AreReportedCounts p plan counts kept of true told = told ≡ Some (told_text p plan counts kept of)
AreReportedCounts p plan counts kept of false told = told ≡ None
