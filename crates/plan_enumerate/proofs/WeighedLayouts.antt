-- A layout's cost and placement, weighed without a physical plan, are those of the layout.
use Rattle.std.proofs.Common.{◌≡◌, ℕ, List, refl, ap, ◌∙◌}
use Rattle.cost_model.specs.Costs.{edge_cost, spent}
use Rattle.cost_model.specs.Estimates.{estimate, plus}
use Rattle.plan_trees.specs.Physicals.{PhysicalData, forwarded}
use Rattle.plan_trees.specs.Plans.{PlanTree, leaf, over, both, IsPlan}
use Rattle.pact_operators.specs.Programs.{ProgramData}
use Rattle.ship_strategy.specs.Facts.{Facts}
use Rattle.ship_strategy.specs.PlanFacts.{facts_of}
use Rattle.ship_strategy.specs.Layouts.{IsLaidOut, layout_of, left_ship, only_ship, planned, right_ship, ways_of}
use Rattle.ship_strategy.specs.Ships.{Placement, placed_both, placed_over, placement}
use Rattle.ship_strategy.specs.declared.ways.Way.{Way}
use Rattle.ship_strategy.proofs.LaidSteps.{laid_tree, laid_workers}
use Rattle.ship_strategy.proofs.LaidShips.{layout_out, placement-planned}
use Rattle.plan_enumerate.specs.Choices.{layout_cost}
use Rattle.plan_enumerate.specs.Weights.{weighed}

module _ (p : ProgramData) (counts : List ℕ) (workers : ℕ) (f : Facts) (w : ℕ → Way) (physical : PhysicalData) where
  planned-weighed : (t : PlanTree) → planned f w t ≡ (weighed p counts workers f w t).placement
  planned-weighed (leaf n) = refl
  planned-weighed (over n t) = ap (λ (below : Placement). placed_over (f n) (only_ship (f n).kind (f n).left_keys below) below) (planned-weighed t)
  planned-weighed (both n t u) =
      let left = planned-weighed t in
      let right = planned-weighed u in
      λ i. placed_both (f n) (left_ship (w n) (f n).left_keys (left i)) (right_ship (w n) (f n).right_keys (right i)) (left i) (right i)

  placed : (t : PlanTree) → IsLaidOut f w physical t → placement f physical t ≡ (weighed p counts workers f w t).placement
  placed t h = placement-planned f w physical t h ∙ planned-weighed t

  module _ (same : physical.workers ≡ workers) where
    spends : (t : PlanTree) → IsLaidOut f w physical t → spent p counts physical t ≡ (weighed p counts workers f w t).cost
    spends (leaf n) h = refl
    spends (over n t) h =
        let below = spends t h.1 in
        let ship = h.0 ∙ ap (only_ship (f n).kind (f n).left_keys) (placed t h.1) in
        λ i. plus (edge_cost (same i) (ship i) (estimate p counts t)) (below i)
    spends (both n t u) h =
        let left = spends t h.2 in
        let right = spends u h.3 in
        let on_left = h.0 ∙ ap (left_ship (w n) (f n).left_keys) (placed t h.2) in
        let on_right = h.1 ∙ ap (right_ship (w n) (f n).right_keys) (placed u h.3) in
        λ i. plus (plus (edge_cost (same i) (on_left i) (estimate p counts t)) (edge_cost (same i) (on_right i) (estimate p counts u))) (plus (left i) (right i))

-- a layout costs what is weighed with the ways that it gives to the operators
pub layout_weighed : (p : ProgramData) (counts : List ℕ) (workers : ℕ) (t : PlanTree) (number : ℕ) → IsPlan t
    → layout_cost p counts workers t number ≡ (weighed p counts workers (facts_of p t) (ways_of p.ops number) t).cost
layout_weighed p counts workers t number h =
    let f = facts_of p t in
    let w = ways_of p.ops number in
    let physical = layout_of f p.ops t number workers in
    ap (spent p counts physical) (laid_tree f w t (forwarded t workers))
    ∙ spends p counts workers f w physical (laid_workers f w t (forwarded t workers)) t (layout_out f w t (forwarded t workers) h refl)
