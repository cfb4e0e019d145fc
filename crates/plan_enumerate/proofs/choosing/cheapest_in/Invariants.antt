use Rattle.std.proofs.Common.{◌≡◌, ◌+◌, ℕ, List}
use Rattle.plan_trees.specs.Plans.{PlanTree}
use Rattle.pact_operators.specs.Programs.{ProgramData}
use Rattle.ship_strategy.specs.Facts.{Facts}
use Rattle.ship_strategy.specs.Layouts.{ways_of}
use Rattle.ship_strategy.specs.Views.{ways_in}
use Rattle.plan_enumerate.specs.Leasts.{IsLeastBelow}
use Rattle.plan_enumerate.specs.RowsOfPlans.{AreWeighed, Holds}
use Rattle.plan_enumerate.specs.Weights.{weighed}
use Rattle.plan_enumerate.proofs.choosing.cheapest_in.Given as goal

abbrev pub invariant-loop-number : goal.invariant-loop-number
invariant-loop-number l =
    ((p : ProgramData) (counts : List ℕ) (f : Facts) → AreWeighed p counts l.workers f (ways_in l.ways) l.rows.held l.weights l.rows.count)
    × ((p : ProgramData) (counts : List ℕ) (f : Facts) (t : PlanTree) (root : ℕ) → l.rows.count ≡ root + 1 → Holds p counts f l.rows.held root t
    → IsLeastBelow (λ k. (weighed p counts l.workers f (ways_of l.ops k) t).cost) l.number l.least.layout l.least.cost)
