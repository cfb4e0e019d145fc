-- Each edge of a layout has the ship that the layout's own placements call for.
use Rattle.std.proofs.Common.{◌≡◌, ℕ, length, refl, ap, sym, ◌∙◌}
use Rattle.plan_trees.specs.Physicals.{PhysicalData}
use Rattle.plan_trees.specs.Plans.{PlanTree, leaf, over, both, IsPlan, node_limit}
use Rattle.plan_trees.proofs.NumbersApart.{above_one, above_two}
use Rattle.ship_strategy.specs.declared.ways.Way.{Way}
use Rattle.ship_strategy.specs.Facts.{Facts}
use Rattle.ship_strategy.specs.Ships.{placed_over, placed_both, placement}
use Rattle.ship_strategy.specs.Layouts.{planned, laid, left_ship, right_ship, only_ship, IsLaidOut}
use Rattle.ship_strategy.proofs.LaidPlacements.{Agree, agree_self, laid_long, laid_placed, over_agrees, both_agrees}

pub laid_out : (f : Facts) (w : ℕ → Way) (t : PlanTree) (p q : PhysicalData) → IsPlan t → length q.ships ≡ node_limit → Agree p (laid f w t q) t → IsLaidOut f w p t
laid_out f w (leaf n) p q h long a = tt
laid_out f w (over n t) p q h long a =
    let s = over_agrees f w p q n t h long a in
    let below = laid_placed f w t p q (above_one n t h).input long s.below in
    (s.ship ∙ ap (only_ship (f n).kind (f n).left_keys) (sym below), laid_out f w t p q (above_one n t h).input long s.below)
laid_out f w (both n t u) p q h long a =
    let s = both_agrees f w p q n t u h long a in
    let left = laid_placed f w t p q (above_two n t u h).left long s.left in
    let more : length (laid f w t q).ships ≡ node_limit = laid_long f w t q ∙ long in
    let right = laid_placed f w u p (laid f w t q) (above_two n t u h).right more s.right in (
      s.left_ship ∙ ap (left_ship (w n) (f n).left_keys) (sym left),
      s.right_ship ∙ ap (right_ship (w n) (f n).right_keys) (sym right),
      laid_out f w t p q (above_two n t u h).left long s.left,
      laid_out f w u p (laid f w t q) (above_two n t u h).right more s.right,
    )

pub layout_out : (f : Facts) (w : ℕ → Way) (t : PlanTree) (q : PhysicalData) → IsPlan t → length q.ships ≡ node_limit → IsLaidOut f w (laid f w t q) t
layout_out f w t q h long = laid_out f w t (laid f w t q) q h long (agree_self (laid f w t q) t)

-- if each edge has the ship that the ways choose, the placements are the planned ones
pub placement-planned : (f : Facts) (w : ℕ → Way) (p : PhysicalData) (t : PlanTree) → IsLaidOut f w p t → placement f p t ≡ planned f w t
placement-planned f w p (leaf n) h = refl
placement-planned f w p (over n t) h =
    let below = placement-planned f w p t h.1 in
    let ship = h.0 ∙ ap (only_ship (f n).kind (f n).left_keys) below in
    λ i. placed_over (f n) (ship i) (below i)
placement-planned f w p (both n t u) h =
    let left = placement-planned f w p t h.2 in
    let right = placement-planned f w p u h.3 in
    let left_is = h.0 ∙ ap (left_ship (w n) (f n).left_keys) left in
    let right_is = h.1 ∙ ap (right_ship (w n) (f n).right_keys) right in
    λ i. placed_both (f n) (left_is i) (right_is i) (left i) (right i)
