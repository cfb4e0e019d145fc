-- What each command writes, given what it has read.
use Rattle.std.specs.Prelude.{◌≡◌, ◌++◌, ℕ, Bool, true, false, cond, List, [], ◌∷◌, drop, get_or, length, map, Option, Some, None, Ok, codes}
use Rattle.std.specs.List.Sorted.{IsPermutation}
use Rattle.serde_json.specs.Written.{compact_text}
use Rattle.csv_sink.specs.CsvText.{csv_text}
use Rattle.drill_program.specs.Drill.{drill_program}
use Rattle.drill_program.specs.Summary.{summary_text}
use Rattle.pact_bag.specs.Rows.{cut}
use Rattle.combine_rule.specs.CombinedPrograms.{Planned, planned}
use Rattle.pact_gen.specs.Generated.{generated, listed}
use Rattle.pact_operators.specs.declared.operators.Op.{Op}
use Rattle.pact_operators.specs.Allowed.{Allows, Bag, Counted}
use Rattle.pact_operators.specs.PlanOps.{is_source_kind, plan_ops}
use Rattle.pact_operators.specs.Programs.{ProgramData}
use Rattle.plan_trees.specs.Plans.{PlanTree}
use Rattle.reorder_pair.specs.declared.legality.Condition.{Condition}
use Rattle.reorder_pair.specs.Legal.{KeepAnswers}
use Rattle.reorder_pair.specs.Reach.{Reach}
use Rattle.reorder_pair.specs.ToldExchanges.{Lead}
use Rattle.ship_strategy.specs.PlanFacts.{facts_of}
use Rattle.ship_strategy.specs.Layouts.{layout_of}
use Rattle.plan_enumerate.specs.Choices.{IsChosen}
use Rattle.plan_enumerate.specs.Listing.{IsAt, IsListing, plans_of}
use Rattle.plan_enumerate.specs.Steps.{AreStepsTo}
use Rattle.plan_printer.specs.CountsText.{counts_text, keeps_line_at, partials_text}
use Rattle.plan_printer.specs.PlanText.{plan_text}
use Rattle.plan_printer.specs.SetsText.{IsSetsText}
use Rattle.plan_printer.specs.declared.plans.Shown.{Shown}
use Rattle.swap_certificate.specs.declared.certificates.Certificate.{Certificate}
use Rattle.swap_certificate.specs.Checks.{Checks, certificate_of}
use Rattle.swap_certificate.specs.PlanLines.{line_of}
use Rattle.swap_certificate.specs.Shape.{IsCertificateText, certificate_data}
use Rattle.pact_top.specs.Iterations.{IsIterationText}
use Rattle.bag_lines.specs.Lines.{AreLines}
use Rattle.pact_top.specs.OrderFreePrograms.{AreGroupsFree}
use Rattle.prune_fields.specs.declared.pruning.Kept.{Kept}
use Rattle.prune_fields.specs.SameAnswers.{HaveSameRows}
use Rattle.pact_top.specs.Runs.{IsRunRewrittenAs}
use Rattle.pact_top.specs.declared.choosing.Choice.{Choice}
use Rattle.pact_load.specs.declared.loaded.Loaded.{Loaded}
use Rattle.pact_top.specs.declared.repeating.IterationInput.{IterationInput}
use Rattle.pact_top.specs.declared.texts.Texts.{Texts}

-- a program, a certificate, and the plan that the certificate leads to
pub record Accepted : Type 0 where
  pub program : ProgramData
  pub certificate : Certificate
  pub plan : PlanTree

-- what a command has read, from which its texts are made
pub data Ready : Type 0 where
  ready_run : (loaded : Loaded) → (workers plans : ℕ) → (counts prune combine : Bool) → Ready
  ready_plan : (loaded : Loaded) → (workers plans : ℕ) → Ready
  ready_cert : (loaded : Loaded) → (workers plans : ℕ) → Ready
  ready_sets : (program : ProgramData) → Ready
  ready_check : (accepted : Accepted) → Ready
  ready_gen : (seed rows : ℕ) → Ready
  ready_drill : (seed rows : ℕ) → Ready
  ready_iterate : (repeated : IterationInput) → (rounds : ℕ) → (stable : Bool) → Ready

-- ---- the choice

-- how many rows each source has, by its number; 0 for an operator
abbrev pub row_counts : List Op → List Bag → List ℕ
row_counts [] inputs = []
row_counts (op ∷ ops) inputs = cond (is_source_kind op.kind) (length (get_or inputs 0 []) ∷ row_counts ops (drop 1 inputs)) (0 ∷ row_counts ops inputs)

-- One plan is chosen from those that legal exchanges lead to, of which at most `plans` are listed. It is the first of
-- least cost for the sources' numbers of rows, with one of its layouts for `workers` workers.
pub record IsChoice (l : Loaded) (workers plans : ℕ) (c : Choice) : Type 0 where
  pub listing : IsListing l.program plans c.listed
  pub chosen : IsChosen l.program (plans_of c.listed.entries) (row_counts l.program.ops l.inputs) workers c.best.chosen
  pub plan : IsAt c.listed.entries c.best.chosen.entry c.best.plan

-- These are the exchanges by which the chosen plan was listed: legal exchanges, one after another, lead to it from the
-- plan as written.
pub record IsDerived (l : Loaded) (workers plans : ℕ) (c : Choice) (steps : List Condition) : Type 0 where
  pub choice : IsChoice l workers plans c
  pub steps_to : AreStepsTo c.listed.entries c.best.chosen.entry steps
  pub leads : Lead l.program l.program.plan steps c.best.plan

-- ---- `run`

-- what the program as written allows on the rows of its sources
abbrev pub AllowsWritten : Loaded → Bag → Type 0
AllowsWritten l bag = Allows (plan_ops l.program l.inputs) l.program.plan bag

-- the program with a plan in one of its layouts
abbrev pub in_layout : Loaded → (workers : ℕ) → PlanTree → (layout : ℕ) → Planned
in_layout l workers plan layout = planned l.program (layout_of (facts_of l.program plan) l.program.ops plan layout workers)

-- the `keeps` lines: which fields were kept, for each source and operator that others were dropped of
abbrev pub keeps_text : ProgramData → List Kept → List ℕ
keeps_text p [] = []
keeps_text p (k ∷ kept) = keeps_line_at p k.at k.fields ++ keeps_text p kept

-- The counts of a plan as text. After them come the fields that were kept, if others were dropped. Last comes how many
-- records each operator emitted that was inserted to make partial groups.
abbrev pub told_text : ProgramData → PlanTree → List ℕ → List Kept → List (ℕ × ℕ) → List ℕ
told_text p plan counts kept of = (counts_text p plan counts ++ keeps_text p kept) ++ partials_text p counts of

-- The counts, as text, of an evaluation of the chosen plan that gives the bag. Some run of that plan could leave these
-- counts; it isn't said that this call made that run.
-- That run also leaves rows that are the bag's, cut to the sink's fields; if no fields are dropped, it leaves the bag.
-- It drops fields and makes partial groups if `prune` and `combine` ask for these. The fields that were kept and the
-- numbers of partial groups come after the counts.
pub record IsCountsText (l : Loaded) (workers plans : ℕ) (prune combine : Bool) (bag : Bag) (text : List ℕ) : Type 0 where
  pub choice : Choice
  pub is_choice : IsChoice l workers plans choice
  pub counts : List ℕ
  pub counted : Counted (plan_ops l.program l.inputs) choice.best.plan bag counts
  pub left : Bag
  pub rows : HaveSameRows l.program.sink bag left
  pub whole : prune ≡ false → bag ≡ left
  pub kept : List Kept
  pub combined : List (ℕ × ℕ)
  pub run : IsRunRewrittenAs (in_layout l workers choice.best.plan choice.best.chosen.layout) l.inputs prune combine (record { rows = left; counts = counts }) kept combined
  pub spelled : text ≡ told_text l.program choice.best.plan counts kept combined

-- The counts are printed if they are asked for, and they are then those of the very bag that is written.
abbrev pub AreCounts : Loaded → (workers plans : ℕ) → (prune combine : Bool) → Bag → Bool → Option (List ℕ) → Type 0
AreCounts l workers plans prune combine bag true (Some text) = IsCountsText l workers plans prune combine bag text
AreCounts l workers plans prune combine bag true None = ⊥
AreCounts l workers plans prune combine bag false told = told ≡ None

-- The sorted lines of a bag that the program as written allows. If each function that a Reduce or a CoGroup calls
-- passes the order test, every such bag is this one, up to order, and its lines are these.
pub record IsAnswerOf (l : Loaded) (workers plans : ℕ) (counts prune combine : Bool) (t : Texts) : Type 0 where
  pub bag : Bag
  pub allowed : AllowsWritten l bag
  pub lines : AreLines l.program.sink bag t.out
  pub counted : AreCounts l workers plans prune combine bag counts t.told
  pub only_bag : AreGroupsFree l.program → (other : Bag) → AllowsWritten l other → IsPermutation bag other
  pub only_text : AreGroupsFree l.program → (other : Bag) (lines : List ℕ) → AllowsWritten l other → AreLines l.program.sink other lines → lines ≡ t.out

-- ---- `plan`

-- what `plan` shows of a choice
abbrev pub shown : Loaded → (workers : ℕ) → Choice → List Condition → Shown
shown l workers c steps = record {
  plans = length c.listed.entries;
  complete = c.listed.complete;
  entry = c.best.chosen.entry;
  layout = c.best.chosen.layout;
  cost = c.best.chosen.cost;
  physical = layout_of (facts_of l.program c.best.plan) l.program.ops c.best.plan c.best.chosen.layout workers;
  counts = row_counts l.program.ops l.inputs;
  steps = steps;
}

-- The text of the chosen plan with its layout, the estimates, and the exchanges that lead to it.
pub record IsPlanText (l : Loaded) (workers plans : ℕ) (text : List ℕ) : Type 0 where
  pub choice : Choice
  pub steps : List Condition
  pub derived : IsDerived l workers plans choice steps
  pub spelled : text ≡ plan_text l.program (shown l workers choice steps)

-- ---- `cert`

-- The certificate of the chosen plan, with a line feed after it. It is accepted: these bytes, read as a certificate,
-- are that certificate, and it leads to the chosen plan.
pub record IsCertificateLine (l : Loaded) (workers plans : ℕ) (text : List ℕ) : Type 0 where
  pub choice : Choice
  pub steps : List Condition
  pub derived : IsDerived l workers plans choice steps
  pub spelled : text ≡ compact_text (certificate_data (certificate_of l.program steps choice.best.plan)) ++ codes "\n"
  pub read_back : IsCertificateText text (certificate_of l.program steps choice.best.plan)
  pub accepted : Checks l.program (certificate_of l.program steps choice.best.plan) (Ok choice.best.plan)

-- ---- `check`

-- The text says that the certificate is accepted. Then the plan is the one whose line the certificate states, and legal
-- exchanges lead to it from the plan as written. Over every input of the program both plans allow the same bags.
pub record IsAcceptance (a : Accepted) (text : List ℕ) : Type 0 where
  pub told : text ≡ codes "accepted\n"
  pub line : a.certificate.plan ≡ line_of a.program.ops a.plan
  pub reached : Reach a.program a.plan
  pub answers : KeepAnswers a.program a.program.plan a.plan

-- ---- `gen`

-- the fields of the generated rows that have values, in the rows' own order
abbrev pub IsGeneratedText : (seed rows : ℕ) → List ℕ → Type 0
IsGeneratedText seed rows text = text ≡ csv_text (map (cut listed) (generated seed rows))

-- ---- `drill`

-- the program of a drill, with the generated rows instead of its file's rows
abbrev pub drilled : (seed rows : ℕ) → Loaded
drilled seed rows = record { program = drill_program; inputs = generated seed rows ∷ [] }

-- how many rows went in, how many came out, and the checksum of the bytes that `run` would write for these
pub record IsSummary (rows : ℕ) (sink : List ℕ) (bag : Bag) (text : List ℕ) : Type 0 where
  pub lines : List ℕ
  pub spelled : AreLines sink bag lines
  pub told : text ≡ summary_text rows (length bag) lines

-- The summary of a bag that the drill's program allows on the generated rows. Every such bag is this one, up to order,
-- and every summary of one is this text.
pub record IsDrillText (seed rows : ℕ) (text : List ℕ) : Type 0 where
  pub bag : Bag
  pub allowed : AllowsWritten (drilled seed rows) bag
  pub summary : IsSummary rows drill_program.sink bag text
  pub only_bag : (other : Bag) → AllowsWritten (drilled seed rows) other → IsPermutation bag other
  pub only_text : (other : Bag) (told : List ℕ) → AllowsWritten (drilled seed rows) other → IsSummary rows drill_program.sink other told → told ≡ text

-- ---- all commands

-- a text for the output, and none for standard error
abbrev pub IsOutAlone : (List ℕ → Type 0) → Texts → Type 0
IsOutAlone IsText t = IsText t.out × (t.told ≡ None)

abbrev pub AreTextsOf : Ready → Texts → Type 0
AreTextsOf (ready_run l workers plans counts prune combine) t = IsAnswerOf l workers plans counts prune combine t
AreTextsOf (ready_plan l workers plans) t = IsOutAlone (IsPlanText l workers plans) t
AreTextsOf (ready_cert l workers plans) t = IsOutAlone (IsCertificateLine l workers plans) t
AreTextsOf (ready_sets p) t = IsOutAlone (IsSetsText p) t
AreTextsOf (ready_check a) t = IsOutAlone (IsAcceptance a) t
AreTextsOf (ready_gen seed rows) t = IsOutAlone (IsGeneratedText seed rows) t
AreTextsOf (ready_drill seed rows) t = IsOutAlone (IsDrillText seed rows) t
AreTextsOf (ready_iterate r rounds stable) t = IsIterationText r rounds stable t
