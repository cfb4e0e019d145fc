use Rattle.std.proofs.Common.{◌≡◌, ◌≢◌, true, ap, sym, ◌∙◌, subst, arith}
use Rattle.plan_trees.specs.Plans.{root_of, has}
use Rattle.plan_trees.specs.Physicals.{PhysicalData}
use Rattle.plan_trees.proofs.Ships.{below_limit, ship_set}
use Rattle.plan_trees.proofs.physicals.Physical.set_ship.Goals as goal

pub listed : goal.listed
listed c =
    let p = c.self.inside in
    let there : has c.args.at p.plan ≡ true = ap (λ (d : PhysicalData). has c.args.at d.tree) c.self.view_is ∙ c.requires.has in
    let below = below_limit c.args.at p.plan c.self.invariant.plan there in
    omega (arith, c.self.invariant.long)

pub bounds-self-inside-at : goal.bounds-self-inside-at
bounds-self-inside-at c =
    let p = c.self.inside in
    below_limit c.args.at p.plan c.self.invariant.plan (ap (λ (d : PhysicalData). has c.args.at d.tree) c.self.view_is ∙ c.requires.has)

pub returns-clause-edge : goal.returns-clause-edge
returns-clause-edge c =
    let p = c.self.inside in
    let there : has c.args.at p.plan ≡ true = ap (λ (d : PhysicalData). has c.args.at d.tree) c.self.view_is ∙ c.requires.has in
    let edge : c.args.at ≢ root_of p.plan = subst (λ (d : PhysicalData). c.args.at ≢ root_of d.tree) (sym c.self.view_is) c.requires.edge in
    ship_set (record { tree = p.plan; workers = p.workers; ships = p.ships }) c.args.at c.args.ship c.self.invariant there edge
