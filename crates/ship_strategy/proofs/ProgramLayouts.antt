-- A layout of a program's plan is a legal physical plan of it, with the ships that its placements call for.
use Rattle.std.proofs.Common.{◌≡◌, ◌≤◌, ◌<◌, inl, inr, ℕ, true, List, length, refl, ap, sym, subst, ◌∙◌, arith}
use Rattle.std.proofs.lemmas.Bool.{cases_lt}
use Rattle.plan_trees.specs.Physicals.{PhysicalData, forwarded}
use Rattle.plan_trees.specs.Plans.{PlanTree, IsPlan, has, node_limit}
use Rattle.plan_trees.proofs.Ships.{below_limit}
use Rattle.pact_operators.specs.declared.operators.Op.{Op}
use Rattle.pact_operators.specs.Programs.{ProgramData, IsPlanOf}
use Rattle.ship_strategy.specs.Layouts.{IsLaidOut, layout_of, ways_of, laid}
use Rattle.ship_strategy.specs.PlanFacts.{facts_of}
use Rattle.ship_strategy.specs.Ships.{LegalShip, IsLegal}
use Rattle.ship_strategy.proofs.ChosenWays.{shape}
use Rattle.ship_strategy.proofs.FilledTables.{fact_kinds}
use Rattle.ship_strategy.proofs.LaidPlacements.{laid_itself}
use Rattle.ship_strategy.proofs.LaidShips.{layout_out}
use Rattle.ship_strategy.proofs.LaidSteps.{laid_tree}

-- if a plan has all sources and operators, there are at most `node_limit` of them
pub few_ops : (t : PlanTree) (ops : List Op) → IsPlan t → ((n : ℕ) → n < length ops → has n t ≡ true) → length ops ≤ node_limit
few_ops t ops h all = elim (cases_lt node_limit (length ops)) as (λ _. length ops ≤ node_limit) [
  | inl more ↦ absurd (let bad = below_limit node_limit t h (all node_limit more) in omega (arith, bad))
  | inr few ↦ few
]

pub layout_tree : (p : ProgramData) (t : PlanTree) (number workers : ℕ) (q : PhysicalData) → q ≡ layout_of (facts_of p t) p.ops t number workers → q.tree ≡ t
layout_tree p t number workers q e = ap (λ (d : PhysicalData). d.tree) e ∙ laid_tree (facts_of p t) (ways_of p.ops number) t (forwarded t workers)

layout_itself : (p : ProgramData) (t : PlanTree) (number workers : ℕ) → IsPlan t → IsPlanOf p.functions p.ops t → LegalShip (facts_of p t) (layout_of (facts_of p t) p.ops t number workers)
layout_itself p t number workers h k =
    let w = ways_of p.ops number in
    let q = laid (facts_of p t) w t (forwarded t workers) in
    subst (IsLegal (facts_of p t) q) (sym (laid_tree (facts_of p t) w t (forwarded t workers)))
    (laid_itself (facts_of p t) w t (forwarded t workers) h refl (shape (facts_of p t) p.ops number t (λ n e. fact_kinds p t n e) k.arity))

pub layout_legal : (p : ProgramData) (t : PlanTree) (number workers : ℕ) (q : PhysicalData) → IsPlan t → IsPlanOf p.functions p.ops t → q ≡ layout_of (facts_of p t) p.ops t number workers
    → LegalShip (facts_of p q.tree) q
layout_legal p t number workers q h k e =
    subst (λ (x : PlanTree). LegalShip (facts_of p x) q) (sym (layout_tree p t number workers q e))
    (subst (LegalShip (facts_of p t)) (sym e) (layout_itself p t number workers h k))

pub layout_ships : (p : ProgramData) (t : PlanTree) (number workers : ℕ) (q : PhysicalData) → IsPlan t → q ≡ layout_of (facts_of p t) p.ops t number workers
    → IsLaidOut (facts_of p t) (ways_of p.ops number) q t
layout_ships p t number workers q h e =
    subst (λ (d : PhysicalData). IsLaidOut (facts_of p t) (ways_of p.ops number) d t) (sym e) (layout_out (facts_of p t) (ways_of p.ops number) t (forwarded t workers) h refl)
