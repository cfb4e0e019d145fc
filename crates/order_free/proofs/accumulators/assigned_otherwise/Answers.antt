use Rattle.order_free.proofs.FreeLoops.{assigned_otherwise-is}
use Rattle.order_free.proofs.accumulators.assigned_otherwise.Goals as goal

pub returns : goal.returns
returns c r =
    let assigned = c.assigned_in.ensures r in
    let sum = c.occur_otherwise_in.ensures r in
    let least = c.occur_otherwise_in-2.ensures r in
    let greatest = c.occur_otherwise_in-3.ensures r in
    cc (assigned_otherwise-is c.args.body.now r, assigned, sum, least, greatest, c.meet.ensures r, c.meet-2.ensures r, c.meet-3.ensures r)
