-- Which records go from which worker to which.
use Rattle.std.specs.Prelude.{◌%◌, ◌==◌, ℕ, zero, suc, Bool, true, false, cond, filter, flat_map, Option, Some, None, List, [], ◌∷◌}
use Rattle.pact_record.specs.declared.values.Value.{Value}
use Rattle.pact_record.specs.Hash.{target}
use Rattle.pact_record.specs.Record.{key_of}
use Rattle.plan_trees.specs.declared.physicals.Ship.{Ship}
use Rattle.plan_trees.specs.declared.physicals.Ship.TheVariants.{Forward, Partition, Broadcast}

-- ---- workers

-- the numbers below the number of workers, in descending order
abbrev pub workers_below : ℕ → List ℕ
workers_below zero = []
workers_below (suc n) = n ∷ workers_below n

-- what all workers have
abbrev pub all_of : {A : Type 0} → ℕ → (ℕ → List A) → List A
all_of workers f = flat_map f (workers_below workers)

-- ---- edges

-- Whether an edge has a pipe from a worker to another. One that forwards has a pipe from each worker to itself; the
-- others have one from each worker to each.
abbrev pub has_pipe : Ship → (from to : ℕ) → Bool
has_pipe Forward from to = from == to
has_pipe (Partition keys) from to = true
has_pipe Broadcast from to = true

-- whether an edge, if there is one, has a pipe from a worker to another
abbrev pub has_out : Option Ship → (from to : ℕ) → Bool
has_out None from to = false
has_out (Some ship) from to = has_pipe ship from to

-- whether an edge takes a record of a worker to another
abbrev pub goes : Ship → (workers from to : ℕ) → List Value → Bool
goes Forward workers from to row = from == to
goes (Partition keys) workers from to row = target workers (key_of keys row) == to
goes Broadcast workers from to row = true

-- those of a worker's records that an edge takes to another
abbrev pub sent : Ship → (workers from to : ℕ) → List (List Value) → List (List Value)
sent ship workers from to rows = filter (goes ship workers from to) rows

-- what reaches a worker over an edge
abbrev pub arriving : Ship → ℕ → (ℕ → List (List Value)) → ℕ → List (List Value)
arriving ship workers gave to = all_of workers (λ from. sent ship workers from to (gave from))

-- ---- sources

-- the rows of a source whose number, counted from n, is the worker's modulo the number of workers
abbrev pub share_from : ℕ → (workers worker : ℕ) → List (List Value) → List (List Value)
share_from n workers worker [] = []
share_from n workers worker (row ∷ rows) = cond (n % workers == worker) (row ∷ share_from (suc n) workers worker rows) (share_from (suc n) workers worker rows)
