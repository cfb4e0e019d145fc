-- Runs of a combined plan: what they mean for the plan before it was combined, and which records the inserted operators
-- put.
use Rattle.std.specs.List.{AllByRecursion}
use Rattle.std.specs.List.Sorted.{IsPermutation}
use Rattle.std.specs.Prelude.{◌≡◌, ◌<◌, ℕ, true, Some, List, length, map, slice_get}
use Rattle.pact_record.specs.Hash.{target}
use Rattle.pact_record.specs.Record.{key_of}
use Rattle.plan_trees.specs.declared.physicals.Ship.TheVariants.{Partition}
use Rattle.plan_trees.specs.Physicals.{PhysicalData, ship_at}
use Rattle.plan_trees.specs.Plans.{PlanTree, has, over, root_of, subtree_of}
use Rattle.plan_trees.specs.Sending.{all_of}
use Rattle.pact_operators.specs.Allowed.{Bag, Counted, count_of, keys_in}
use Rattle.pact_operators.specs.Divided.{IsDivided, IsReceived, Shares}
use Rattle.pact_operators.specs.Inputs.{AreInputsOf}
use Rattle.pact_operators.specs.PlanOps.{PlanOps, plan_ops}
use Rattle.pact_operators.specs.Programs.{ProgramData}
use Rattle.ship_strategy.specs.PlanFacts.{facts_of}
use Rattle.ship_strategy.specs.Ships.{LegalShip}
use Rattle.flow_instance.specs.declared.notes.Note.{Note}
use Rattle.flow_instance.specs.Notes.{rows_of}
use Rattle.flow_instance.specs.Spots.{setting}
use Rattle.flow_instance.specs.Spread.{Spread, sum_below}
use Rattle.combine_rule.specs.CombinedPrograms.{Planned}

-- A run of the combined plan for a plan that ships legally, over the rows of the sources of its program.
pub record IsRunFor (s end : Planned) (inputs : List Bag) (rows : Bag) (counts : List ℕ) : Type 0 where
  pub of_inputs : AreInputsOf s.program inputs
  pub legal : LegalShip (facts_of s.program s.physical.tree) s.physical
  pub run : Spread (setting end.program inputs end.physical) rows counts

-- The result of such a run is counted for the plan before it was combined.
abbrev pub IsCountedFor : Planned → Planned → Type 0
IsCountedFor s end = (inputs : List Bag) (rows : Bag) (counts : List ℕ) → IsRunFor s end inputs rows counts → Counted (plan_ops s.program inputs) s.physical.tree rows counts

-- The operator with the number has one input. Each of its instances gave exactly one record for each key value that it
-- took, and the record has this key value.
pub record GivesOnce (o : PlanOps) (q : PhysicalData) (gave : Shares) (new : ℕ) : Type 0 where
  pub input : PlanTree
  pub reads : subtree_of new q.tree ≡ over new input
  pub once : (worker : ℕ) → worker < q.workers
      → (rows : Bag) × IsReceived q gave input worker rows × IsPermutation (map (key_of (o.left_keys new)) (gave new worker)) (keys_in (o.left_keys new) rows)

-- The instances of such a run gave their shares. Those of each inserted operator gave one record for each key, and the
-- record has this key.
abbrev pub AreSentOnce : Planned → Planned → List (ℕ × ℕ) → Type 0
AreSentOnce s end of = (inputs : List Bag) (rows : Bag) (counts : List ℕ) → IsRunFor s end inputs rows counts
    → (d : IsDivided (plan_ops end.program inputs) end.physical rows counts) × AllByRecursion (λ pair. GivesOnce (plan_ops end.program inputs) end.physical d.gave pair.0) of

-- ---- properties of the run's own notes

-- the records that a worker took from the instances of a number on all workers, by the notes of a run
abbrev pub taken_from : (workers : ℕ) (notes : ℕ → ℕ → ℕ → List Note) (number worker : ℕ) → Bag
taken_from workers notes number worker = all_of workers (λ from. rows_of (notes number from worker))

-- the records in the put lists of a number's instance on a worker, one list for each receiver, by the notes of a run
abbrev pub put_by : (workers : ℕ) (notes : ℕ → ℕ → ℕ → List Note) (number worker : ℕ) → Bag
put_by workers notes number worker = all_of workers (λ to. rows_of (notes number worker to))

-- In this run each instance of the inserted operator put exactly one record for each key value that it took. So no
-- worker sends two partial records with the same key.
pub record PutsOnePerKey (p : ProgramData) (inputs : List Bag) (q : PhysicalData) (rows : Bag) (counts : List ℕ) (run : Spread (setting p inputs q) rows counts) (new : ℕ) : Type 0 where
  -- it is in the plan, has one input, and its edge is a Partition
  pub there : has new q.tree ≡ true
  pub input : PlanTree
  pub reads : subtree_of new q.tree ≡ over new input
  pub fields : List ℕ
  pub ship : ship_at q new ≡ Some (Partition fields)
  -- the keys of the records in its put lists are the key values that it took, each once
  pub once : (worker : ℕ) → worker < q.workers
      → IsPermutation (map (key_of ((plan_ops p inputs).left_keys new)) (put_by q.workers run.notes new worker)) (keys_in ((plan_ops p inputs).left_keys new) (taken_from q.workers run.notes (root_of input) worker))
  -- these records are all that it gave
  pub all_given : (worker : ℕ) (below : worker < q.workers) → IsPermutation (run.each new worker there below).given (put_by q.workers run.notes new worker)
  -- each of these records is in the list for the worker that its fields of the Partition name
  pub to_its_worker : (worker to : ℕ) → worker < q.workers → to < q.workers → AllByRecursion (λ row. target q.workers (key_of fields row) ≡ to) (rows_of (run.notes new worker to))
  -- its count in the run is the sum, over its instances, of the number of key values taken
  pub counted : slice_get counts new ≡ Some (count_of (sum_below q.workers (λ worker. length (keys_in ((plan_ops p inputs).left_keys new) (taken_from q.workers run.notes (root_of input) worker)))))

-- `PutsOnePerKey` holds for each inserted operator in each run of the combined plan.
abbrev pub AllPutOnePerKey : Planned → List (ℕ × ℕ) → Type 0
AllPutOnePerKey end of = (inputs : List Bag) (rows : Bag) (counts : List ℕ) (run : Spread (setting end.program inputs end.physical) rows counts)
    → AllByRecursion (λ pair. PutsOnePerKey end.program inputs end.physical rows counts run pair.0) of
