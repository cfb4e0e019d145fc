use Rattle.std.proofs.Common.{[], ap, arith, get_or, ◌∙◌, List}
use Rattle.flow_core.specs.Worlds.{QueuedInstanceData, WorldData, no_queued_instance}
use Rattle.flow_core.proofs.QueuedInstancesAtPlaces.{found_none, found_some, no_row}
use Rattle.flow_core.proofs.worlds.World.queued_instance.Goals as goal

pub returns-in_err-own-clause-none : goal.returns-in_err-own-clause-none
returns-in_err-own-clause-none g c =
    let items = c.deref.ensures.value ∙ ap (λ (w : WorldData). w.queued_instances) c.self.view_is in
    rw c.from_residual.ensures (no_row c.deref.result.now c.args.self.now.queued_instances c.args.at c.args.worker items c.in_err-own.ensures.lookup.3)

pub returns-clause-some : goal.returns-clause-some
returns-clause-some g c =
    let at = c.args.at in
    let worker = c.args.worker in
    let items = c.deref.ensures.value ∙ ap (λ (w : WorldData). w.queued_instances) c.self.view_is in
    let row = c.deref-2.ensures.value ∙ c.own.view_is ∙ c.in_ok-own.ensures.lookup.4 (omega arith) [] ∙ ap (λ (l : List (List QueuedInstanceData)). get_or l at []) items in
    found_some _ c.get-2.result _ (c.get-2.ensures.lookup.4 (omega arith) no_queued_instance ∙ ap (λ (r : List QueuedInstanceData). get_or r worker no_queued_instance) row)

pub returns-clause-none : goal.returns-clause-none
returns-clause-none g c =
    let at = c.args.at in
    let worker = c.args.worker in
    let items = c.deref.ensures.value ∙ ap (λ (w : WorldData). w.queued_instances) c.self.view_is in
    let row = c.deref-2.ensures.value ∙ c.own.view_is ∙ c.in_ok-own.ensures.lookup.4 (omega arith) [] ∙ ap (λ (l : List (List QueuedInstanceData)). get_or l at []) items in
    found_none _ c.get-2.result _ (c.get-2.ensures.lookup.4 (omega arith) no_queued_instance ∙ ap (λ (r : List QueuedInstanceData). get_or r worker no_queued_instance) row)
