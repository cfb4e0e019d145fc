-- Instances at their start, and queued instances of them.
use Rattle.std.specs.Prelude.{◌≡◌, ◌≤◌, ◌<◌, ◌+◌, ℕ, Bool, true, false, List, [], ◌∷◌, get_or, length}
use Rattle.std.specs.List.{AllByRecursion}
use Rattle.pact_operators.specs.Allowed.{Bag}
use Rattle.pact_operators.specs.PlanOps.{kind_at, plan_ops}
use Rattle.pact_operators.specs.Programs.{ProgramData}
use Rattle.plan_trees.specs.Physicals.{PhysicalData}
use Rattle.plan_trees.specs.Plans.{subtree_of}
use Rattle.plan_trees.specs.Sending.{share_from}
use Rattle.tac_syntax.specs.declared.declarations.OpKind.TheVariants.{Source}
use Rattle.flow_instance.specs.Spots.{Setting, setting, spot}
use Rattle.flow_instance.specs.Steps.{Started}
use Rattle.flow_instance.specs.Instances.{Instance}
use Rattle.flow_instance.specs.declared.before_start.Unstarted.{Unstarted}
use Rattle.flow_instance.specs.Starting.{CanStart, IsStartedFrom, IsUnstarted}
use Rattle.flow_core.specs.declared.starting.UnstartedInstances.{UnstartedInstances}
use Rattle.flow_core.specs.Worlds.{QueuedInstanceData, no_instance, no_queued_instance}

-- a source takes the first bag of those that are left, and an operator takes none
abbrev pub TakesOwn : Bool → (old : List Bag) → (own : Bag) → (new : List Bag) → Type 0
TakesOwn true old own new = old ≡ own ∷ new
TakesOwn false old own new = (own ≡ []) × (new ≡ old)

-- if it is a source, the rows are those that it has in the program
abbrev pub AreOwn : ProgramData → List Bag → (at : ℕ) → Bag → Type 0
AreOwn p inputs at rows = kind_at p.ops at ≡ Source → rows ≡ (plan_ops p inputs).rows at

-- each worker has its share of the rows
pub record AreDealt (workers : ℕ) (rows : Bag) (shares : List Bag) : Type 0 where
  pub long : length shares ≡ workers
  pub each : (worker : ℕ) → worker < workers → get_or shares worker [] ≡ share_from 0 workers worker rows

-- ---- before the start

-- what the instance of a number on a worker starts from, with its share of the rows
pub record IsUnstartedOn (p : ProgramData) (physical : PhysicalData) (size at : ℕ) (rows : Bag) (worker : ℕ) (u : Unstarted) : Type 0 where
  pub share : Bag
  pub is_share : share ≡ share_from 0 physical.workers worker rows
  pub is : IsUnstarted p physical at worker size share u

-- those of the workers from the number `from` on
abbrev pub AreUnstartedFrom : ProgramData → PhysicalData → (size at : ℕ) → Bag → (from : ℕ) → List Unstarted → Type 0
AreUnstartedFrom p physical size at rows from [] = Unit {0}
AreUnstartedFrom p physical size at rows from (u ∷ row) = IsUnstartedOn p physical size at rows from u × AreUnstartedFrom p physical size at rows (from + 1) row

-- those of the first `count` workers
pub record AreUnstarted (p : ProgramData) (physical : PhysicalData) (size at : ℕ) (rows : Bag) (count : ℕ) (row : List Unstarted) : Type 0 where
  pub long : length row ≡ count
  pub each : AreUnstartedFrom p physical size at rows 0 row

-- how many rows the first worker has of its own, and 0 if there is no worker
abbrev pub first_share : List Unstarted → ℕ
first_share [] = 0
first_share (u ∷ items) = length u.rows

-- no worker has more than `most` rows
abbrev pub HaveAtMost : (most : ℕ) → List Unstarted → Type 0
HaveAtMost most items = AllByRecursion (λ (u : Unstarted). length u.rows ≤ most) items

-- each instance is started from the item at its place
abbrev pub StartFrom : List Unstarted → List Instance → Type 0
StartFrom [] [] = Unit {0}
StartFrom (u ∷ items) (i ∷ own) = IsStartedFrom u i × StartFrom items own
StartFrom [] (i ∷ own) = ⊥
StartFrom (u ∷ items) [] = ⊥

-- the instances of each source and operator are started from the items at their place
abbrev pub StartAllFrom : List UnstartedInstances → List (List Instance) → Type 0
StartAllFrom [] [] = Unit {0}
StartAllFrom (u ∷ unstarted) (own ∷ all) = StartFrom u.held.items own × StartAllFrom unstarted all
StartAllFrom [] (own ∷ all) = ⊥
StartAllFrom (u ∷ unstarted) [] = ⊥

-- each of the instances can start
abbrev pub CanStartEach : UnstartedInstances → Type 0
CanStartEach u = AllByRecursion CanStart u.held.items

-- the items of one number, whose rows are those of the source in the program
pub record AreUnstartedOf (p : ProgramData) (physical : PhysicalData) (inputs : List Bag) (size at : ℕ) (u : UnstartedInstances) : Type 0 where
  pub own : Bag
  pub own_are : AreOwn p inputs at own
  pub are : AreUnstarted p physical size at own physical.workers u.held.items

-- the items of the numbers from `from` on
abbrev pub AreAllUnstartedFrom : ProgramData → PhysicalData → List Bag → (size from : ℕ) → List UnstartedInstances → Type 0
AreAllUnstartedFrom p physical inputs size from [] = Unit {0}
AreAllUnstartedFrom p physical inputs size from (u ∷ unstarted) = AreUnstartedOf p physical inputs size from u × AreAllUnstartedFrom p physical inputs size (from + 1) unstarted

-- the items of the first `count` numbers
pub record AreAllUnstarted (p : ProgramData) (physical : PhysicalData) (inputs : List Bag) (size count : ℕ) (unstarted : List UnstartedInstances) : Type 0 where
  pub long : length unstarted ≡ count
  pub each : AreAllUnstartedFrom p physical inputs size 0 unstarted

-- ---- at the start

-- the instance of a number on a worker, with batches of at most `size` records
pub record IsStartedOn (g : Setting) (size at worker : ℕ) (i : Instance) : Type 0 where
  pub started : Started (spot g (subtree_of at g.physical.tree)) worker i
  pub batch : i.part.batch ≡ size

-- one on each worker
pub record AreStartedOn (g : Setting) (size at : ℕ) (own : List Instance) : Type 0 where
  pub long : length own ≡ g.physical.workers
  pub each : (worker : ℕ) → worker < g.physical.workers → IsStartedOn g size at worker (get_or own worker no_instance)

-- those of the first `count` numbers
pub record AreAllStarted (g : Setting) (size count : ℕ) (all : List (List Instance)) : Type 0 where
  pub long : length all ≡ count
  pub each : (at : ℕ) → at < count → AreStartedOn g size at (get_or all at [])

-- for some rows of the program's sources
pub record AreStartedForSome (p : ProgramData) (physical : PhysicalData) (all : List (List Instance)) : Type 0 where
  pub inputs : List Bag
  pub size : ℕ
  pub started : AreAllStarted (setting p inputs physical) size (length p.ops) all

-- ---- as queued instances

-- an instance at its start, with empty pipes, and batches of at most `size` records
pub record IsStarted (g : Setting) (size at worker : ℕ) (s : QueuedInstanceData) : Type 0 where
  pub started : Started (spot g (subtree_of at g.physical.tree)) worker s.instance
  pub batch : s.instance.part.batch ≡ size
  pub long : length s.queues ≡ g.physical.workers
  pub empty : AllByRecursion (λ queue. queue ≡ []) s.queues

-- one on each of the first `count` workers
abbrev pub AreBelow : Setting → (size at count : ℕ) → List QueuedInstanceData → Type 0
AreBelow g size at count row = (worker : ℕ) → worker < count → IsStarted g size at worker (get_or row worker no_queued_instance)

-- one on each worker
pub record AreStartedAt (g : Setting) (size at : ℕ) (row : List QueuedInstanceData) : Type 0 where
  pub long : length row ≡ g.physical.workers
  pub each : AreBelow g size at g.physical.workers row

-- those of the first `count` numbers
pub record AreStarted (g : Setting) (size count : ℕ) (queued_instances : List (List QueuedInstanceData)) : Type 0 where
  pub long : length queued_instances ≡ count
  pub each : (at : ℕ) → at < count → AreStartedAt g size at (get_or queued_instances at [])
