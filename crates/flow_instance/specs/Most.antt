-- A bound on the number of events of a run. It is finite, but not tight.
use Rattle.std.specs.Prelude.{◌≤◌, ◌+◌, ◌*◌, ℕ, List, length}
use Rattle.tac_syntax.specs.declared.declarations.OpKind.{OpKind}
use Rattle.tac_syntax.specs.declared.declarations.OpKind.TheVariants.{Map, Reduce, Match, Cross, CoGroup}
use Rattle.plan_trees.specs.Plans.{PlanTree, leaf, over, both}
use Rattle.pact_operators.specs.Allowed.{Bag}
use Rattle.pact_operators.specs.PlanOps.{PlanOps, body_at}
use Rattle.pact_operators.specs.Programs.{ProgramData}
use Rattle.tac_syntax.specs.Call.{turns}
use Rattle.pact_record.specs.declared.values.Value.{Value}
use Rattle.flow_instance.specs.declared.notes.Note.{Note}
use Rattle.flow_instance.specs.declared.notes.Want.TheVariants.{Done}
use Rattle.flow_instance.specs.Instances.{want}
use Rattle.flow_instance.specs.Local.{one_if}
use Rattle.flow_instance.specs.Spots.{Setting}
use Rattle.flow_instance.specs.Spread.{sum_below}
use Rattle.flow_instance.specs.Worlds.{World, History, does_want}

-- A call of an operator's function emits at most `most n longest` records, for the operator's number and the length of
-- the longest list.
pub record AreCallsBounded (o : PlanOps) (most : ℕ → ℕ → ℕ) : Type 0 where
  pub of_record : (n : ℕ) (row : List Value) → length (o.of_record n row) ≤ most n 0
  pub of_pair : (n : ℕ) (left right : List Value) → length (o.of_pair n left right) ≤ most n 0
  pub of_group : (n m : ℕ) (key : List Value) (group : Bag) → length group ≤ m → length (o.of_group n key group) ≤ most n m
  pub of_groups : (n m : ℕ) (key : List Value) (left right : Bag) → length left ≤ m → length right ≤ m → length (o.of_groups n key left right) ≤ most n m

-- the bound for the functions of a program: the number of steps of a call
abbrev pub program_turns : ProgramData → (n longest : ℕ) → ℕ
program_turns p n longest = turns longest (body_at p n)

-- ---- records

-- the most records that the instances of an operator with one input give, if its input's instances give x
abbrev pub most_of_one : OpKind → (workers x : ℕ) → (ℕ → ℕ) → ℕ
most_of_one Map workers x turns = workers * (x * turns 0)
most_of_one Reduce workers x turns = workers * (x * turns x)
most_of_one kind workers x turns = 0

-- the most records that the instances of an operator with two inputs give, if its inputs' instances give x and y
abbrev pub most_of_two : OpKind → (workers x y : ℕ) → (ℕ → ℕ) → ℕ
most_of_two Match workers x y turns = workers * ((x * y) * turns 0)
most_of_two Cross workers x y turns = workers * ((x * y) * turns 0)
most_of_two CoGroup workers x y turns = workers * ((x + y) * turns (x + y))
most_of_two kind workers x y turns = 0

-- the most records that the instances at the root of a tree give together
abbrev pub most_given : Setting → (turns : ℕ → ℕ → ℕ) → PlanTree → ℕ
most_given setting turns (leaf n) = length (setting.ops.rows n)
most_given setting turns (over n t) = most_of_one (setting.ops.kind n) setting.physical.workers (most_given setting turns t) (turns n)
most_given setting turns (both n t u) = most_of_two (setting.ops.kind n) setting.physical.workers (most_given setting turns t) (most_given setting turns u) (turns n)

-- ---- events

-- The most events of a source or operator other than the root: each instance ends once, and each note is put once and
-- taken once.
abbrev pub own_most : Setting → (turns : ℕ → ℕ → ℕ) → PlanTree → ℕ
own_most setting turns t = setting.physical.workers + 2 * (setting.physical.workers * most_given setting turns t + setting.physical.workers * setting.physical.workers)

-- the most events of all sources and operators of a tree whose root has an edge
abbrev pub most_below : Setting → (turns : ℕ → ℕ → ℕ) → PlanTree → ℕ
most_below setting turns (leaf n) = own_most setting turns (leaf n)
most_below setting turns (over n t) = own_most setting turns (over n t) + most_below setting turns t
most_below setting turns (both n t u) = own_most setting turns (both n t u) + (most_below setting turns t + most_below setting turns u)

-- the most events of a tree; the instances of its root put nothing, and only end
abbrev pub most_of : Setting → (turns : ℕ → ℕ → ℕ) → PlanTree → ℕ
most_of setting turns (leaf n) = setting.physical.workers
most_of setting turns (over n t) = setting.physical.workers + most_below setting turns t
most_of setting turns (both n t u) = setting.physical.workers + (most_below setting turns t + most_below setting turns u)

-- the most events of a run
abbrev pub most : Setting → (turns : ℕ → ℕ → ℕ) → ℕ
most setting turns = most_of setting turns setting.physical.tree

-- ---- the events so far

-- the number of notes on the lists of an edge
abbrev pub notes_on : Setting → (ℕ → ℕ → ℕ → List Note) → (edge : ℕ) → ℕ
notes_on setting lists edge = sum_below setting.physical.workers (λ from. sum_below setting.physical.workers (λ to. length (lists edge from to)))

-- the number of instances of an operator that are done
abbrev pub done_at : Setting → World → ℕ → ℕ
done_at setting w at = sum_below setting.physical.workers (λ worker. one_if (does_want (want (w.instance at worker)) Done))

-- the number of an operator's instances that are done, plus the notes that they put and the notes that were taken from
-- them
abbrev pub events_at : Setting → World → History → ℕ → ℕ
events_at setting w h at = done_at setting w at + (notes_on setting h.put at + notes_on setting h.taken at)

-- the sum over the numbers of a tree
abbrev pub tree_sum : (ℕ → ℕ) → PlanTree → ℕ
tree_sum f (leaf n) = f n
tree_sum f (over n t) = f n + tree_sum f t
tree_sum f (both n t u) = f n + (tree_sum f t + tree_sum f u)

-- the number of notes put, notes taken and instances that are done
abbrev pub events : Setting → World → History → ℕ
events setting w h = tree_sum (events_at setting w h) setting.physical.tree
