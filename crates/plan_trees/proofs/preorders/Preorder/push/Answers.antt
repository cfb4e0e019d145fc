use Rattle.std.proofs.Common.{◌<◌, ap, arith, length}
use Rattle.std.proofs.lemmas.List.{length-take-le}
use Rattle.plan_trees.specs.Plans.{node_limit}
use Rattle.plan_trees.proofs.NodeRows.{holds_more}
use Rattle.plan_trees.proofs.preorders.Preorder.push.Goals as goal

pub invariant_of-self : goal.invariant_of-self
invariant_of-self c =
    let p = c.self.inside in
    let h = c.self.invariant in
    let room : p.count < node_limit =
    omega (arith, length-take-le p.count p.held (omega (arith, h.few, h.long)), ap length c.self.view_is, c.requires) in
    holds_more p.held p.count c.args.node h room
