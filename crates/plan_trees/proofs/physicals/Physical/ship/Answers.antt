use Rattle.std.proofs.Common.{◌≡◌, ◌≢◌, ℕ, true, ap, ◌∙◌, subst, arith}
use Rattle.plan_trees.specs.Plans.{root_of, has}
use Rattle.plan_trees.specs.Physicals.{PhysicalData, ship_at}
use Rattle.plan_trees.proofs.Ships.{below_limit, ship_on_edge}
use Rattle.plan_trees.proofs.physicals.Physical.ship.Goals as goal

pub listed : goal.listed
listed c =
    let p = c.self.inside in
    let there : has c.args.at p.plan ≡ true = ap (λ (d : PhysicalData). has c.args.at d.tree) c.self.view_is ∙ c.requires in
    let below = below_limit c.args.at p.plan c.self.invariant.plan there in
    omega (arith, c.self.invariant.long)

pub bounds-self-inside-at : goal.bounds-self-inside-at
bounds-self-inside-at c =
    let p = c.self.inside in
    below_limit c.args.at p.plan c.self.invariant.plan (ap (λ (d : PhysicalData). has c.args.at d.tree) c.self.view_is ∙ c.requires)

pub returns-clause-ship : goal.returns-clause-ship
returns-clause-ship c =
    let p = c.self.inside in
    let there : has c.args.at p.plan ≡ true = ap (λ (d : PhysicalData). has c.args.at d.tree) c.self.view_is ∙ c.requires in
    let edge : c.args.at ≢ root_of p.plan = subst (λ (n : ℕ). c.args.at ≢ n) c.root.ensures.root c.if-at-root.false in
    ship_on_edge (record { tree = p.plan; workers = p.workers; ships = p.ships }) c.args.at c.index-self-at.result c.self.invariant there edge
    ∙ ap (λ (d : PhysicalData). ship_at d c.args.at) c.self.view_is
