-- How a physical plan is stored in the logic.
use Rattle.std.specs.Prelude.{ℕ, List, refl}
use Rattle.std.specs.Coded.{Coded, code_by, coded×, coded_list, coded_ℕ}
use Rattle.plan_trees.specs.declared.physicals.Ship.{Ship}
use Rattle.plan_trees.specs.contracts.physicals.Ship.{the_row as ship_row}
use Rattle.plan_trees.specs.Plans.{PlanTree}
use Rattle.plan_trees.specs.PlanCode.{coded_plan}
use Rattle.plan_trees.specs.Physicals.{PhysicalData}

abbrev pub coded_physical : Coded PhysicalData
coded_physical =
    code_by (PlanTree × (ℕ × List Ship)) (coded× coded_plan (coded× coded_ℕ (coded_list ship_row.coded)))
    (λ p. (p.tree, (p.workers, p.ships))) (λ q. record { tree = q.0; workers = q.1.0; ships = q.1.1 }) (λ _. refl)
