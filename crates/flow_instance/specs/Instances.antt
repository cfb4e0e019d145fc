-- An instance as data, and its next want.
use Rattle.std.specs.Prelude.{◌&&◌, ◌≤◌, ℕ, zero, suc, Bool, true, false, List, [], ◌∷◌, Option, get_or, length}
use Rattle.std.specs.List.{AllByRecursion}
use Rattle.tac_syntax.specs.Code.{Code}
use Rattle.tac_syntax.specs.declared.declarations.OpKind.{OpKind}
use Rattle.plan_trees.specs.declared.physicals.Ship.{Ship}
use Rattle.pact_operators.specs.Allowed.{Bag}
use Rattle.plan_trees.specs.Senders.{all_below}
use Rattle.flow_instance.specs.Spots.{Port}
use Rattle.flow_instance.specs.declared.notes.Want.{Want}
use Rattle.flow_instance.specs.declared.notes.Want.TheVariants.{Take, Put, End, Done}

-- The parts of the program and of the physical plan that an instance keeps.
pub record Part : Type 0 where
  pub at : ℕ
  pub kind : OpKind
  pub body : Code
  pub left_keys : List ℕ
  pub right_keys : List ℕ
  -- whether Nulls match in these keys
  pub nulls : Bool
  pub fields : ℕ
  pub worker : ℕ
  pub workers : ℕ
  -- the most records of a batch
  pub batch : ℕ
  pub ports : List Port
  pub out : Option Ship

-- `left_ended` and `right_ended` hold, by a sender's number, whether it has ended at port 0 and at port 1. `left_kept`
-- and `right_kept` are the rows kept of these ports. `waiting` has batches with their receivers, the next one first.
-- `marks` has the receivers of the end marks, which go out after the batches. `placed` is what the root gave.
-- `receiver` is the worker for which the last note went out, or the number of workers if no note is out.
pub record Instance : Type 0 where
  pub part : Part
  pub left_ended : List Bool
  pub right_ended : List Bool
  pub left_kept : Bag
  pub right_kept : Bag
  pub waiting : List (ℕ × Bag)
  pub marks : List ℕ
  pub receiver : ℕ
  pub placed : Bag
  pub given : ℕ
  pub finished : Bool

-- port 0 is the only or the left one, and port 1 the right one
abbrev pub of_port : {A : Type 0} → A → A → A → ℕ → A
of_port left right other zero = left
of_port left right other (suc zero) = right
of_port left right other (suc (suc port)) = other

-- Whether a sender has ended at a port. A worker that can't send there counts as ended.
abbrev pub ended_at : Instance → (port from : ℕ) → Bool
ended_at i port from = get_or (of_port i.left_ended i.right_ended [] port) from true

-- the rows that are kept for a port
abbrev pub kept_at : Instance → ℕ → Bag
kept_at i port = of_port i.left_kept i.right_kept [] port

-- whether every sender of the port has ended
abbrev pub port_ended : Instance → ℕ → Bool
port_ended i port = all_below i.part.workers (ended_at i port)

-- whether every sender of every port has ended
abbrev pub all_ended : Instance → Bool
all_ended i = port_ended i 0 && port_ended i 1

-- If a note waits, it goes out. Otherwise a note is taken at the first port that hasn't ended. If every port has ended,
-- the instance ends.
abbrev pub want_by : (waiting : List (ℕ × Bag)) (marks : List ℕ) → (left_ended right_ended finished : Bool) → Want
want_by (w ∷ ws) marks left_ended right_ended finished = Put w.0
want_by [] (m ∷ marks) left_ended right_ended finished = Put m
want_by [] [] false right_ended finished = Take 0
want_by [] [] true false finished = Take 1
want_by [] [] true true false = End
want_by [] [] true true true = Done

-- An instance first puts what waits, then takes at port 0, then at port 1, and ends last.
abbrev pub want : Instance → Want
want i = want_by i.waiting i.marks (port_ended i 0) (port_ended i 1) i.finished

-- every waiting batch has at most `batch` records
abbrev pub HasSmallBatches : Instance → Type 0
HasSmallBatches i = AllByRecursion (λ w. length w.1 ≤ i.part.batch) i.waiting
