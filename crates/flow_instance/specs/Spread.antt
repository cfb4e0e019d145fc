-- The result of a run.
use Rattle.std.specs.Prelude.{◌≡◌, ◌<◌, ◌+◌, ℕ, zero, suc, true, Some, List, slice_get}
use Rattle.std.specs.List.Sorted.{IsPermutation}
use Rattle.plan_trees.specs.Plans.{has, root_of, subtree_of}
use Rattle.plan_trees.specs.Sending.{all_of}
use Rattle.pact_operators.specs.Allowed.{Bag, count_of}
use Rattle.flow_instance.specs.declared.notes.Note.{Note}
use Rattle.flow_instance.specs.Spots.{Setting}
use Rattle.flow_instance.specs.Worlds.{AreDone, History, LocalAt, World}

-- the sum over the numbers below n
abbrev pub sum_below : ℕ → (ℕ → ℕ) → ℕ
sum_below zero f = 0
sum_below (suc n) f = sum_below n f + f n

-- the records that the root's instances placed
abbrev pub placed_in : Setting → World → Bag
placed_in setting w = all_of setting.physical.workers (λ worker. (w.instance (root_of setting.physical.tree) worker).placed)

-- the number of records that the instances of an operator gave, saturating
abbrev pub given_in : Setting → World → ℕ → ℕ
given_in setting w at = count_of (sum_below setting.physical.workers (λ worker. (w.instance at worker).given))

-- the history in which every note that was put was taken
abbrev pub through : (ℕ → ℕ → ℕ → List Note) → History
through notes = record { put = notes; taken = notes }

-- Each pipe has one list of notes. Every instance is done and agrees with these lists, both as the notes that it took
-- and as the notes that it put. The rows are, in some order, those that the root's instances placed. The counts are the
-- numbers of records that the instances gave.
pub record Spread (setting : Setting) (rows : Bag) (counts : List ℕ) : Type 0 where
  pub notes : ℕ → ℕ → ℕ → List Note
  pub world : World
  pub done : AreDone setting.physical world
  pub each : (at worker : ℕ) → has at setting.physical.tree ≡ true → worker < setting.physical.workers → LocalAt setting world (through notes) (subtree_of at setting.physical.tree) at worker
  pub rows_are : IsPermutation rows (placed_in setting world)
  pub counts_are : (at : ℕ) → has at setting.physical.tree ≡ true → slice_get counts at ≡ Some (given_in setting world at)
