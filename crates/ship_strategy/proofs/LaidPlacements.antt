-- Every layout is legal, and its placements are the planned ones.
use Rattle.std.proofs.Common.{◌≡◌, ◌≢◌, ◌<◌, ◌==◌, ℕ, true, length, get_or, set, refl, sym, subst, ◌∙◌, arith}
use Rattle.std.proofs.lemmas.Bool.{or_left, or_right}
use Rattle.std.proofs.lemmas.List.{get_or-set_same, get_or-set_other, length-set}
use Rattle.plan_trees.specs.declared.physicals.Ship.{Ship}
use Rattle.plan_trees.specs.declared.physicals.Ship.TheVariants.{Forward}
use Rattle.plan_trees.specs.Physicals.{PhysicalData, ship_of}
use Rattle.plan_trees.specs.Plans.{PlanTree, leaf, over, both, root_of, has, IsPlan, node_limit}
use Rattle.plan_trees.proofs.SubtreesOfPlans.{has-root}
use Rattle.ship_strategy.specs.declared.ways.Way.{Way}
use Rattle.ship_strategy.specs.Facts.{Facts}
use Rattle.ship_strategy.specs.Ships.{Placement, placed_over, placed_both, placement, IsLegal, AllowsOver, AllowsBoth}
use Rattle.ship_strategy.specs.Layouts.{planned, laid, left_ship, right_ship, only_ship}
use Rattle.plan_trees.proofs.NumbersApart.{above_one, above_two}
use Rattle.ship_strategy.proofs.AllowedShips.{IsSingle, Suits, over_allowed, both_allowed}

-- ---- what a layout doesn't change

pub laid_long : (f : Facts) (w : ℕ → Way) (t : PlanTree) (p : PhysicalData) → length (laid f w t p).ships ≡ length p.ships
laid_long f w (leaf n) p = refl
laid_long f w (over n t) p = length-set (laid f w t p).ships (root_of t) _ ∙ laid_long f w t p
laid_long f w (both n t u) p =
    length-set _ (root_of u) _ ∙ length-set (laid f w u (laid f w t p)).ships (root_of t) _ ∙ laid_long f w u (laid f w t p) ∙ laid_long f w t p

-- a number that isn't in the tree isn't its root
not_root : (k : ℕ) (t : PlanTree) → (has k t ≡ true → ⊥) → k ≢ root_of t
not_root k t out e = out (subst (λ (x : ℕ). has x t ≡ true) (sym e) (has-root t))

pub laid_keeps : (f : Facts) (w : ℕ → Way) (t : PlanTree) (p : PhysicalData) (k : ℕ) → (has k t ≡ true → ⊥) → get_or (laid f w t p).ships k Forward ≡ get_or p.ships k Forward
laid_keeps f w (leaf n) p k out = refl
laid_keeps f w (over n t) p k out =
    let below : has k t ≡ true → ⊥ = λ e. out (or_right (k == n) (has k t) e) in
    get_or-set_other (laid f w t p).ships (root_of t) k _ Forward (not_root k t below) ∙ laid_keeps f w t p k below
laid_keeps f w (both n t u) p k out =
    let left : has k t ≡ true → ⊥ = λ e. out (or_right (k == n) _ (or_left (has k t) (has k u) e)) in
    let right : has k u ≡ true → ⊥ = λ e. out (or_right (k == n) _ (or_right (has k t) (has k u) e)) in
    get_or-set_other _ (root_of u) k _ Forward (not_root k u right)
    ∙ get_or-set_other (laid f w u (laid f w t p)).ships (root_of t) k _ Forward (not_root k t left)
    ∙ laid_keeps f w u (laid f w t p) k right
    ∙ laid_keeps f w t p k left

-- ---- ships of the edges

-- two physical plans have the same ships on the edges of a tree
pub Agree : PhysicalData → PhysicalData → PlanTree → Type 0
Agree p q t = (k : ℕ) → has k t ≡ true → k ≢ root_of t → get_or p.ships k Forward ≡ get_or q.ships k Forward

pub agree_self : (p : PhysicalData) (t : PlanTree) → Agree p p t
unfolding Agree
agree_self p t = λ k e d. refl

pub record OverAgrees (f : Facts) (w : ℕ → Way) (p q : PhysicalData) (n : ℕ) (t : PlanTree) : Type 0 where
  pub ship : ship_of p t ≡ only_ship (f n).kind (f n).left_keys (planned f w t)
  pub below : Agree p (laid f w t q) t

pub over_agrees : (f : Facts) (w : ℕ → Way) (p q : PhysicalData) (n : ℕ) (t : PlanTree) → IsPlan (over n t) → length q.ships ≡ node_limit → Agree p (laid f w (over n t) q) (over n t)
    → OverAgrees f w p q n t
unfolding Agree
over_agrees f w p q n t h long a =
    let s = above_one n t h in
    let other : (k : ℕ) → has k t ≡ true → k ≢ n = λ k e d. s.root (subst (λ (x : ℕ). has x t ≡ true) d e) in
    let room : root_of t < length (laid f w t q).ships = let b = s.below in let m = laid_long f w t q in omega (arith, long) in
    record {
      ship = a (root_of t) (s.whole (root_of t) (has-root t)) (other (root_of t) (has-root t)) ∙ get_or-set_same (laid f w t q).ships (root_of t) _ Forward room;
      below = λ k e d. a k (s.whole k e) (other k e) ∙ get_or-set_other (laid f w t q).ships (root_of t) k _ Forward d;
    }

pub record BothAgrees (f : Facts) (w : ℕ → Way) (p q : PhysicalData) (n : ℕ) (t u : PlanTree) : Type 0 where
  pub left_ship : ship_of p t ≡ left_ship (w n) (f n).left_keys (planned f w t)
  pub right_ship : ship_of p u ≡ right_ship (w n) (f n).right_keys (planned f w u)
  pub left : Agree p (laid f w t q) t
  pub right : Agree p (laid f w u (laid f w t q)) u

pub both_agrees : (f : Facts) (w : ℕ → Way) (p q : PhysicalData) (n : ℕ) (t u : PlanTree) → IsPlan (both n t u) → length q.ships ≡ node_limit → Agree p (laid f w (both n t u) q) (both n t u)
    → BothAgrees f w p q n t u
unfolding Agree
both_agrees f w p q n t u h long a =
    let s = above_two n t u h in
    let first = laid f w t q in
    let second = laid f w u first in
    let l = left_ship (w n) (f n).left_keys (planned f w t) in
    let third = set second.ships (root_of t) l in
    let r = right_ship (w n) (f n).right_keys (planned f w u) in
    let long_first = laid_long f w t q in
    let long_second = laid_long f w u first in
    let long_third = length-set second.ships (root_of t) l in
    let left_other : (k : ℕ) → has k t ≡ true → k ≢ n = λ k e d. s.left_root (subst (λ (x : ℕ). has x t ≡ true) d e) in
    let right_other : (k : ℕ) → has k u ≡ true → k ≢ n = λ k e d. s.right_root (subst (λ (x : ℕ). has x u ≡ true) d e) in
    let not_right : (k : ℕ) → has k t ≡ true → k ≢ root_of u = λ k e d. s.apart k e (subst (λ (x : ℕ). has x u ≡ true) (sym d) (has-root u)) in
    let not_left : (k : ℕ) → has k u ≡ true → k ≢ root_of t = λ k e d. s.apart k (subst (λ (x : ℕ). has x t ≡ true) (sym d) (has-root t)) e in
    let left_room : root_of t < length second.ships = let b = s.left_below in omega (arith, long, long_first, long_second) in
    let right_room : root_of u < length third = let b = s.right_below in omega (arith, long, long_first, long_second, long_third) in
    record {
      left_ship =
          a (root_of t) (s.left_whole (root_of t) (has-root t)) (left_other (root_of t) (has-root t))
          ∙ get_or-set_other third (root_of u) (root_of t) r Forward (not_right (root_of t) (has-root t))
          ∙ get_or-set_same second.ships (root_of t) l Forward left_room;
      right_ship =
          a (root_of u) (s.right_whole (root_of u) (has-root u)) (right_other (root_of u) (has-root u))
          ∙ get_or-set_same third (root_of u) r Forward right_room;
      left = λ k e d.
          a k (s.left_whole k e) (left_other k e)
          ∙ get_or-set_other third (root_of u) k r Forward (not_right k e)
          ∙ get_or-set_other second.ships (root_of t) k l Forward d
          ∙ laid_keeps f w u first k (λ i. s.apart k e i);
      right = λ k e d.
          a k (s.right_whole k e) (right_other k e)
          ∙ get_or-set_other third (root_of u) k r Forward d
          ∙ get_or-set_other second.ships (root_of t) k l Forward (not_left k e);
    }

-- ---- placements and legality

pub laid_placed : (f : Facts) (w : ℕ → Way) (t : PlanTree) (p q : PhysicalData) → IsPlan t → length q.ships ≡ node_limit → Agree p (laid f w t q) t → placement f p t ≡ planned f w t
laid_placed f w (leaf n) p q h long a = refl
laid_placed f w (over n t) p q h long a =
    let s = over_agrees f w p q n t h long a in
    let below = laid_placed f w t p q (above_one n t h).input long s.below in
    λ i. placed_over (f n) (s.ship i) (below i)
laid_placed f w (both n t u) p q h long a =
    let s = both_agrees f w p q n t u h long a in
    let left = laid_placed f w t p q (above_two n t u h).left long s.left in
    let right = laid_placed f w u p (laid f w t q) (above_two n t u h).right (laid_long f w t q ∙ long) s.right in
    λ i. placed_both (f n) (s.left_ship i) (s.right_ship i) (left i) (right i)

-- each operator has as many inputs as its kind takes, and a way that it may have
abbrev pub HasShape : Facts → (ℕ → Way) → PlanTree → Type 0
HasShape f w (leaf n) = Unit {0}
HasShape f w (over n t) = IsSingle (f n).kind × HasShape f w t
HasShape f w (both n t u) = Suits (f n).kind (w n) × HasShape f w t × HasShape f w u

pub laid_legal : (f : Facts) (w : ℕ → Way) (t : PlanTree) (p q : PhysicalData) → IsPlan t → length q.ships ≡ node_limit → Agree p (laid f w t q) t → HasShape f w t → IsLegal f p t
laid_legal f w (leaf n) p q h long a k = tt
laid_legal f w (over n t) p q h long a k =
    let s = over_agrees f w p q n t h long a in
    let below = laid_placed f w t p q (above_one n t h).input long s.below in (
      subst (λ (x : Ship × Placement). AllowsOver (f n) x.0 x.1) (λ i. (sym s.ship i, sym below i)) (over_allowed (f n) (planned f w t) k.0),
      laid_legal f w t p q (above_one n t h).input long s.below k.1,
    )
laid_legal f w (both n t u) p q h long a k =
    let s = both_agrees f w p q n t u h long a in
    let left = laid_placed f w t p q (above_two n t u h).left long s.left in
    let more : length (laid f w t q).ships ≡ node_limit = laid_long f w t q ∙ long in
    let right = laid_placed f w u p (laid f w t q) (above_two n t u h).right more s.right in (
      subst (λ (x : Ship × Ship × Placement × Placement). AllowsBoth (f n) x.0 x.1 x.2 x.3) (λ i. (sym s.left_ship i, sym s.right_ship i, sym left i, sym right i))
          (both_allowed (f n) (w n) (planned f w t) (planned f w u) k.0),
      laid_legal f w t p q (above_two n t u h).left long s.left k.1,
      laid_legal f w u p (laid f w t q) (above_two n t u h).right more s.right k.2,
    )

pub laid_itself : (f : Facts) (w : ℕ → Way) (t : PlanTree) (q : PhysicalData) → IsPlan t → length q.ships ≡ node_limit → HasShape f w t → IsLegal f (laid f w t q) t
laid_itself f w t q h long k = laid_legal f w t (laid f w t q) q h long (agree_self (laid f w t q) t) k
