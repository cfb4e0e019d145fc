-- A run of the drill's program has only one summary, for every plan and every way to run it.
use Rattle.std.proofs.Common.{◌≡◌, ◌<◌, ℕ, Bool, zero, suc, List, [], ◌∷◌, length, Option, Some, None, slice_get, sym, ap, subst, ◌∙◌, arith}
use Rattle.std.specs.List.{AllByRecursion}
use Rattle.std.specs.List.Sorted.{IsPermutation}
use Rattle.std.proofs.lemmas.List.{length-map}
use Rattle.std.proofs.lemmas.List.Sorted.{length_permutation}
use Rattle.tac_syntax.specs.Valid.{WithFields}
use Rattle.order_free.specs.OrderFree.{IsOrderFree}
use Rattle.pact_operators.specs.Allowed.{Bag}
use Rattle.pact_operators.specs.PlanOps.{function_in, kind_in}
use Rattle.plan_trees.specs.Plans.{PlanTree}
use Rattle.pact_gen.specs.Generated.{behind_row, generated, listed}
use Rattle.pact_bag.specs.Rows.{cut}
use Rattle.prune_fields.specs.SameAnswers.{HaveSameRows}
use Rattle.drill_program.specs.Drill.{drill_functions, drill_program}
use Rattle.drill_program.specs.Summary.{summary_text}
use Rattle.drill_program.proofs.DrillFree.{total_free}
use Rattle.drill_program.proofs.DrillProgram.{is_a_program}
use Rattle.pact_top.specs.CommandTexts.{IsDrillText, IsSummary, drilled}
use Rattle.pact_top.specs.PrivateCalls.{IsLayoutOutcome}
use Rattle.pact_top.specs.OrderFreePrograms.{AreGroupsFree, IsGrouping}
use Rattle.pact_load.specs.declared.loaded.Loaded.{Loaded}
use Rattle.pact_top.specs.declared.rewriting.RunOutcome.{RunOutcome}
use Rattle.pact_top.proofs.OnlyBag.{one_text, only_bag}
use Rattle.pact_top.proofs.RunPlans.{lines_beside}

-- ---- generated rows

-- each row has the fields that are written
pub listed_within : (x n : ℕ) → AllByRecursion (λ row. AllByRecursion (λ field. field < length row) listed) (generated x n)
listed_within x zero = tt
listed_within x (suc n) = ((omega arith, (omega arith, (omega arith, tt))), listed_within (behind_row x) n)

-- ---- the order test

abbrev is_free : Option WithFields → Type 0
is_free None = Unit {0}
is_free (Some v) = IsOrderFree v.function.kind v.function.body

abbrev is_some : {X : Type 0} → Option X → Type 0
is_some None = ⊥
is_some (Some x) = Unit {0}

-- the only function that is called for groups passes the order test
pub groups_free : AreGroupsFree drill_program
groups_free zero op called e grouping f = absurd (subst IsGrouping (sym (ap kind_in e)) grouping)
groups_free (suc zero) op called e grouping f = subst is_free (subst (λ (k : ℕ). slice_get drill_functions k ≡ Some called) (sym (ap function_in e)) f) total_free
groups_free (suc (suc zero)) op called e grouping f = absurd (subst IsGrouping (sym (ap kind_in e)) grouping)
groups_free (suc (suc (suc n))) op called e grouping f = absurd (subst is_some (sym e) tt)

-- ---- the summary

one_summary : (rows : ℕ) (sink : List ℕ) (bag other : Bag) (text told : List ℕ) → IsPermutation bag other → IsSummary rows sink bag text → IsSummary rows sink other told → told ≡ text
one_summary rows sink bag other text told p its theirs =
    let same = sym (one_text sink bag other its.lines theirs.lines p its.spelled theirs.spelled) in
    theirs.told ∙ (λ i. summary_text rows (length_permutation bag other p i) (same i)) ∙ sym its.told

-- a summary of rows is a summary of each bag with the same rows, cut to the sink's fields
summary_beside : (rows : ℕ) (sink : List ℕ) (bag left : Bag) (text : List ℕ) → HaveSameRows sink bag left → IsSummary rows sink left text → IsSummary rows sink bag text
summary_beside rows sink bag left text same h =
    let lengths : length left ≡ length bag = sym (length-map left (cut sink)) ∙ ap (λ (cuts : Bag). length cuts) (sym same) ∙ length-map bag (cut sink) in
    record { lines = h.lines; spelled = lines_beside sink bag left h.lines same h.spelled; told = h.told ∙ ap (λ (n : ℕ). summary_text rows n h.lines) lengths }

pub is_drill_text : (seed rows : ℕ) (l : Loaded) (workers : ℕ) (plan : PlanTree) (layout : ℕ) (prune combine : Bool) (ran : RunOutcome) (text : List ℕ) → l ≡ drilled seed rows
    → IsLayoutOutcome (drilled seed rows) workers plan layout prune combine ran → IsSummary rows l.program.sink ran.outcome.rows text → IsDrillText seed rows text
is_drill_text seed rows l workers plan layout prune combine ran text loaded is told =
    let bag = is.bag in
    let summary = summary_beside rows drill_program.sink bag ran.outcome.rows text is.rows (subst (λ (x : Loaded). IsSummary rows x.program.sink ran.outcome.rows text) loaded told) in
    let only = only_bag drill_program is_a_program groups_free (generated seed rows ∷ []) drill_program.plan bag in
    record {
      bag = bag;
      allowed = is.allowed;
      summary = summary;
      only_bag = λ other also. only other is.allowed also;
      only_text = λ other theirs also summed. one_summary rows drill_program.sink bag other text theirs (only other is.allowed also) summary summed;
    }
