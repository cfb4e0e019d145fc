use Rattle.std.proofs.Common.{[], ◌∷◌, ◌∙◌, subst, sym}
use Rattle.plan_trees.specs.Physicals.{PhysicalData}
use Rattle.flow_core.specs.Left.{AreFilled}
use Rattle.flow_core.proofs.LeftWorlds.{filled_more}
use Rattle.flow_core.proofs.resuming.refill_all.Goals as goal

pub loop-left-preserved : goal.loop-left-preserved
loop-left-preserved g c =
    let i = c.loop-left.invariant in
    let old = c.args.world.now.queued_instances in
    let mid = c.loop-left.world in
    let new = c.refill.new.world in
    let e = c.in_ok-refill.ensures in (
      filled_more mid.physical new.physical old mid.queued_instances new.queued_instances c.loop-left.yielded c.in-Some.left i.0 (subst (λ (q : PhysicalData). AreFilled q mid.queued_instances (c.in-Some.left ∷ []) new.queued_instances) (sym e.physical) e.filled),
      e.physical ∙ i.1,
      e.depth ∙ i.2,
    )
