-- What the instances of a physical plan emit: each source and operator has one instance on each worker.
use Rattle.std.specs.Prelude.{◌≡◌, ◌<◌, ℕ, true, length, List, map, slice_get, Some, sum}
use Rattle.std.specs.List.Sorted.{IsPermutation}
use Rattle.tac_syntax.specs.declared.declarations.OpKind.TheVariants.{Source}
use Rattle.plan_trees.specs.Physicals.{PhysicalData, ship_of}
use Rattle.plan_trees.specs.Plans.{PlanTree, leaf, over, both, has, root_of, subtree_of}
use Rattle.plan_trees.specs.Sending.{all_of, arriving, share_from, workers_below}
use Rattle.pact_operators.specs.Allowed.{Bag, AboveOne, AboveTwo, Gives, GivesBoth, count_of}
use Rattle.pact_operators.specs.PlanOps.{PlanOps}

-- what each instance emitted, by the number of its source or operator and by its worker
abbrev pub Shares : Type 0
Shares = ℕ → ℕ → Bag

-- what a worker received of what the instances of a tree's root emitted, in some order
abbrev pub IsReceived : PhysicalData → Shares → PlanTree → ℕ → Bag → Type 0
IsReceived p gave t worker rows = IsPermutation (arriving (ship_of p t) p.workers (gave (root_of t)) worker) rows

-- The instance of a tree's root emitted, in some order, what it may emit for what it received. A source emitted its
-- share of the rows.
abbrev pub GaveShare : PlanOps → PhysicalData → Shares → PlanTree → ℕ → Type 0
GaveShare o p gave (leaf n) worker = (o.kind n ≡ Source) × IsPermutation (share_from 0 p.workers worker (o.rows n)) (gave n worker)
GaveShare o p gave (over n t) worker = AboveOne (IsReceived p gave t worker) (Gives o (o.kind n) n) (gave n worker)
GaveShare o p gave (both n t u) worker = AboveTwo (IsReceived p gave t worker) (IsReceived p gave u worker) (GivesBoth o (o.kind n) n) (gave n worker)

-- how many records all instances of a number emitted
abbrev pub count_given : ℕ → Shares → ℕ → ℕ
count_given workers gave at = sum (map (λ w. length (gave at w)) (workers_below workers))

-- Every instance emitted its share, the rows are those that the root's instances emitted, and the counts are those of
-- all instances of a number.
pub record IsDivided (o : PlanOps) (p : PhysicalData) (rows : Bag) (counts : List ℕ) : Type 0 where
  pub gave : Shares
  pub shares : (at : ℕ) → has at p.tree ≡ true → (worker : ℕ) → worker < p.workers → GaveShare o p gave (subtree_of at p.tree) worker
  pub placed : IsPermutation (all_of p.workers (gave (root_of p.tree))) rows
  pub counted : (at : ℕ) → has at p.tree ≡ true → slice_get counts at ≡ Some (count_of (count_given p.workers gave at))
