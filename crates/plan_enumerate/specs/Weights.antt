-- The cost and placement of a tree's layout, without a physical plan.
use Rattle.std.specs.Prelude.{ℕ, None, List}
use Rattle.cost_model.specs.Costs.{edge_cost}
use Rattle.cost_model.specs.Estimates.{estimate, plus}
use Rattle.plan_trees.specs.Plans.{PlanTree, leaf, over, both}
use Rattle.plan_trees.specs.declared.physicals.Ship.{Ship}
use Rattle.pact_operators.specs.Programs.{ProgramData}
use Rattle.ship_strategy.specs.Facts.{Facts, NodeFacts}
use Rattle.ship_strategy.specs.Layouts.{left_ship, only_ship, right_ship}
use Rattle.ship_strategy.specs.Ships.{placed_both, placed_over}
use Rattle.ship_strategy.specs.declared.ways.Way.{Way}
use Rattle.plan_enumerate.specs.declared.weights.Weight.{Weight}

-- a source's records have no known placement, and cost nothing
abbrev pub source_weight : Weight
source_weight = record { placement = None; cost = 0 }

-- the weight of an operator with this ship on its edge, along which `records` records come
abbrev pub shipped_over : NodeFacts → ℕ → Ship → ℕ → Weight → Weight
shipped_over x workers ship records below = record { placement = placed_over x ship below.placement; cost = plus (edge_cost workers ship records) below.cost }

abbrev pub weight_over : NodeFacts → ℕ → ℕ → Weight → Weight
weight_over x workers records below = shipped_over x workers (only_ship x.kind x.left_keys below.placement) records below

-- the weight of an operator with these ships on both edges
abbrev pub shipped_both : NodeFacts → ℕ → (left_ship right_ship : Ship) → (left_records right_records : ℕ) → (left right : Weight) → Weight
shipped_both x workers on_left on_right left_records right_records left right =
    record {
      placement = placed_both x on_left on_right left.placement right.placement;
      cost = plus (plus (edge_cost workers on_left left_records) (edge_cost workers on_right right_records)) (plus left.cost right.cost);
    }

abbrev pub weight_both : NodeFacts → Way → ℕ → (left_records right_records : ℕ) → (left right : Weight) → Weight
weight_both x way workers left_records right_records left right =
    shipped_both x workers (left_ship way x.left_keys left.placement) (right_ship way x.right_keys right.placement) left_records right_records left right

-- the weight of a tree whose operators have these ways
abbrev pub weighed : ProgramData → List ℕ → ℕ → Facts → (ℕ → Way) → PlanTree → Weight
weighed p counts workers f w (leaf n) = source_weight
weighed p counts workers f w (over n t) = weight_over (f n) workers (estimate p counts t) (weighed p counts workers f w t)
weighed p counts workers f w (both n t u) =
    weight_both (f n) (w n) workers (estimate p counts t) (estimate p counts u) (weighed p counts workers f w t) (weighed p counts workers f w u)
