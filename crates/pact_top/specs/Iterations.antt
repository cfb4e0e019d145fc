-- Iterations: a program runs again and again, each time over the bag that the round before gave.
use Rattle.std.specs.Prelude.{◌≡◌, ◌++◌, ℕ, Bool, true, false, List, [], Option, Some, None, Result, IfOk, slice_get, codes, decimal}
use Rattle.std.specs.Borrow.{Bor}
use Rattle.std.specs.List.Sorted.{IsPermutation}
use Rattle.iterate_plan.specs.Rounds.{AllowsOn, IsIterated}
use Rattle.pact_operators.specs.declared.operators.Op.{Op}
use Rattle.pact_operators.specs.Allowed.{Bag}
use Rattle.pact_operators.specs.Inputs.{AreInputsOf}
use Rattle.pact_operators.specs.PlanOps.{is_source_kind, source_place}
use Rattle.pact_operators.specs.Programs.{ProgramData}
use Rattle.pact_record.specs.declared.columns.Column.{Column}
use Rattle.bag_lines.specs.Lines.{AreLines}
use Rattle.pact_top.specs.OrderFreePrograms.{AreGroupsFree}
use Rattle.pact_top.specs.declared.repeating.IterationInput.{IterationInput}
use Rattle.pact_top.specs.declared.texts.Texts.{Texts}

-- ---- a source by its number

-- a source has this number
abbrev pub HasSource : ProgramData → ℕ → Type 0
HasSource p at = (source : Op) × (slice_get p.ops at ≡ Some source) × (is_source_kind source.kind ≡ true)

abbrev pub columns_in : Option Op → List Column
columns_in None = []
columns_in (Some op) = op.columns

-- the columns of a source, by its number
abbrev pub columns_at : ProgramData → ℕ → List Column
columns_at p at = columns_in (slice_get p.ops at)

-- ---- the call made in each round

-- may be called for any rows that are the program's, and returns a bag that is allowed on them
pub record IsCallOf (p : ProgramData) {A E : Type 0} (Pre : A → Bor (List Bag) → Type 0) (Post : A → Bor (List Bag) → Result Bag E → Type 0) : Type 0 where
  pub pre : (alloc : A) (inputs : Bor (List Bag)) → AreInputsOf p inputs.now → Pre alloc inputs
  pub post : (alloc : A) (inputs : Bor (List Bag)) (result : Result Bag E) → Post alloc inputs result → IfOk result (AllowsOn p inputs.now)

-- ---- what is written

-- The last round gives this bag, and this is the number of rounds. From the second round on the source has the bag of
-- the round before, cut to its columns.
abbrev pub IsIterationOf : IterationInput → (rounds : ℕ) → (stable : Bool) → Bag → ℕ → Type 0
IsIterationOf r rounds stable bag count =
    IsIterated r.loaded.program r.loaded.inputs (source_place r.loaded.program.ops r.at) (columns_at r.loaded.program r.at) rounds stable bag count

-- the line that prints the number of rounds
abbrev pub rounds_line : ℕ → List ℕ
rounds_line count = codes "rounds " ++ (decimal count ++ codes "\n")

-- the number of rounds is printed only if the iteration may end early
abbrev pub told_rounds : Bool → ℕ → Option (List ℕ)
told_rounds true count = Some (rounds_line count)
told_rounds false count = None

-- The sorted lines of the last round's bag, and the number of rounds. If each function that a Reduce or a CoGroup calls
-- passes the order test, each iteration gives this bag, up to order, after this number of rounds, and its lines are
-- these.
pub record IsIterationText (r : IterationInput) (rounds : ℕ) (stable : Bool) (t : Texts) : Type 0 where
  pub bag : Bag
  pub count : ℕ
  pub iterated : IsIterationOf r rounds stable bag count
  pub lines : AreLines r.loaded.program.sink bag t.out
  pub told : t.told ≡ told_rounds stable count
  pub only_bag : AreGroupsFree r.loaded.program → (other : Bag) (times : ℕ) → IsIterationOf r rounds stable other times → IsPermutation bag other
  pub only_count : AreGroupsFree r.loaded.program → (other : Bag) (times : ℕ) → IsIterationOf r rounds stable other times → times ≡ count
  pub only_text : AreGroupsFree r.loaded.program → (other : Bag) (times : ℕ) (lines : List ℕ) → IsIterationOf r rounds stable other times
      → AreLines r.loaded.program.sink other lines → lines ≡ t.out
