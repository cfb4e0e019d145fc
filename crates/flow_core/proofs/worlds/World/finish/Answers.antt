use Rattle.std.proofs.Common.{◌≡◌, ap, arith, length, map, subst, sym, ◌∙◌, List}
use Rattle.pact_bag.specs.Rows.{HaveOneWidth}
use Rattle.plan_trees.specs.Plans.{root_of}
use Rattle.plan_trees.specs.Sending.{all_of}
use Rattle.flow_core.specs.QueuedInstances.{placed_by, total_given}
use Rattle.flow_core.specs.Worlds.{QueuedInstanceData, WorldData}
use Rattle.flow_core.proofs.FinishedWorlds.{leaves, one_width, root_below, taken_row}
use Rattle.flow_core.proofs.worlds.World.finish.Goals as goal

pub swap_remove-requires : goal.swap_remove-requires
swap_remove-requires g c =
    let w = c.args.self in
    let root : c.root-root.result ≡ root_of w.physical.tree = c.root-root.ensures ∙ ap (λ (x : WorldData). root_of x.physical.tree) c.self.view_is in
    let items : c.self.inside.queued_instances.items ≡ w.queued_instances = ap (λ (x : WorldData). x.queued_instances) c.self.view_is in
    let below = root_below w c.requires in
    omega (arith, root, below, ap length items, c.self.inside.queued_instances.ok.0)

pub into_placed-requires-after_bounds : goal.into_placed-requires-after_bounds
into_placed-requires-after_bounds g c κs within =
    let w = c.args.self in
    let row_is = taken_row w _ c.root-root.result c.swap_remove.result c.self.view_is c.root-root.ensures c.swap_remove.ensures.value c.requires in
    subst (λ (r : List QueuedInstanceData). HaveOneWidth (all_of (length r) (placed_by r))) (sym row_is) (one_width w c.requires)

pub returns : goal.returns
returns g c =
    let w = c.args.self in
    let items = ap (λ (x : WorldData). x.queued_instances) c.self.view_is in
    let row_is = taken_row w _ c.root-root.result c.swap_remove.result c.self.view_is c.root-root.ensures c.swap_remove.ensures.value c.requires in
    let rows_are = c.in_ok-rows.ensures ∙ ap (λ (r : List QueuedInstanceData). all_of (length r) (placed_by r)) row_is in
    let counts_are = c.in_ok-counts.ensures ∙ ap (map total_given) (c.deref.ensures.value ∙ items) in
    leaves w c.in_ok-rows.rows c.in_ok-counts.counts c.requires rows_are counts_are
