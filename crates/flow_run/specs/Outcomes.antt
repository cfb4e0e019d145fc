-- The result of a run.
use Rattle.std.specs.Prelude.{◌≡◌, List, length}
use Rattle.pact_bag.specs.declared.outcomes.Outcome.{Outcome}
use Rattle.pact_operators.specs.Allowed.{Bag, Counted}
use Rattle.pact_operators.specs.PlanOps.{plan_ops}
use Rattle.pact_operators.specs.Programs.{ProgramData}
use Rattle.pact_record.specs.Widths.{AreWide}
use Rattle.plan_trees.specs.Physicals.{PhysicalData}
use Rattle.ship_strategy.specs.PlanFacts.{facts_of}
use Rattle.ship_strategy.specs.Ships.{LegalShip}
use Rattle.flow_instance.specs.Spots.{setting}
use Rattle.flow_instance.specs.Spread.{Spread}

-- The rows and counts are those of one run of the physical plan. If it ships legally, they are also those of one
-- evaluation of its tree. Each row has the program's fields, and each source and operator has a count.
pub record IsPlanOutcome (p : ProgramData) (inputs : List Bag) (physical : PhysicalData) (o : Outcome) : Type 0 where
  pub spread : Spread (setting p inputs physical) o.rows o.counts
  pub counted : LegalShip (facts_of p physical.tree) physical → Counted (plan_ops p inputs) physical.tree o.rows o.counts
  pub widths : AreWide p.fields o.rows
  pub counts : length o.counts ≡ length p.ops
