-- What adding ships preserves of a physical plan, and how the layout of a tree is made from those of its inputs.
use Rattle.std.proofs.Common.{◌≡◌, ℕ, refl, ap, sym, ◌∙◌}
use Rattle.plan_trees.specs.declared.physicals.Ship.{Ship}
use Rattle.plan_trees.specs.Physicals.{PhysicalData, with_ship}
use Rattle.plan_trees.specs.Plans.{PlanTree, leaf, over, both, root_of}
use Rattle.ship_strategy.specs.declared.ways.Way.{Way}
use Rattle.ship_strategy.specs.Facts.{NodeFacts, Facts}
use Rattle.ship_strategy.specs.Ships.{Placement}
use Rattle.ship_strategy.specs.Layouts.{planned, laid, left_ship, right_ship}

pub laid_tree : (f : Facts) (w : ℕ → Way) (t : PlanTree) (p : PhysicalData) → (laid f w t p).tree ≡ p.tree
laid_tree f w (leaf n) p = refl
laid_tree f w (over n t) p = laid_tree f w t p
laid_tree f w (both n t u) p = laid_tree f w u (laid f w t p) ∙ laid_tree f w t p

pub laid_workers : (f : Facts) (w : ℕ → Way) (t : PlanTree) (p : PhysicalData) → (laid f w t p).workers ≡ p.workers
laid_workers f w (leaf n) p = refl
laid_workers f w (over n t) p = laid_workers f w t p
laid_workers f w (both n t u) p = laid_workers f w u (laid f w t p) ∙ laid_workers f w t p

pub after : (f : Facts) (w : ℕ → Way) (t : PlanTree) (p q : PhysicalData) → p ≡ laid f w t q → p.tree ≡ q.tree
after f w t p q e = ap (λ (d : PhysicalData). d.tree) e ∙ laid_tree f w t q

pub both_laid : (f : Facts) (w : ℕ → Way) (s t u : PlanTree) (n : ℕ) (x : NodeFacts) (way : Way) (left right : Placement) (l r : Ship) (q first second third fourth : PhysicalData)
    → s ≡ both n t u → x ≡ f n → way ≡ w n → left ≡ planned f w t → right ≡ planned f w u → l ≡ left_ship way x.left_keys left → r ≡ right_ship way x.right_keys right
    → first ≡ laid f w t q → second ≡ laid f w u first → third ≡ with_ship second (root_of t) l → fourth ≡ with_ship third (root_of u) r → fourth ≡ laid f w s q
both_laid f w s t u n x way left right l r q first second third fourth is facts ways lp rp le re e1 e2 e3 e4 =
    let two : second ≡ laid f w u (laid f w t q) = e2 ∙ ap (laid f w u) e1 in
    let on_left : l ≡ left_ship (w n) (f n).left_keys (planned f w t) = le ∙ (λ k. left_ship (ways k) (facts k).left_keys (lp k)) in
    let on_right : r ≡ right_ship (w n) (f n).right_keys (planned f w u) = re ∙ (λ k. right_ship (ways k) (facts k).right_keys (rp k)) in
    let three = e3 ∙ (λ k. with_ship (two k) (root_of t) (on_left k)) in
    e4 ∙ (λ k. with_ship (three k) (root_of u) (on_right k)) ∙ ap (λ (z : PlanTree). laid f w z q) (sym is)
