use Rattle.std.proofs.Common.{ℕ, List}
use Rattle.pact_operators.specs.Programs.{ProgramData}
use Rattle.ship_strategy.specs.Facts.{Facts}
use Rattle.ship_strategy.specs.Views.{ways_in}
use Rattle.plan_enumerate.specs.RowsOfPlans.{AreWeighed}
use Rattle.plan_enumerate.proofs.choosing.weigh_from.Given as goal

abbrev pub invariant-loop-n : goal.invariant-loop-n
invariant-loop-n l =
    (p : ProgramData) (counts : List ℕ) (f : Facts) → AreWeighed p counts l.workers f (ways_in l.ways) l.rows.held l.fn.weights l.first → AreWeighed p counts l.workers f (ways_in l.ways) l.rows.held l.weights l.n
