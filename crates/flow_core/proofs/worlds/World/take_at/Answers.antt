use Rattle.std.proofs.Common.{ap, sym, ◌∙◌}
use Rattle.flow_instance.specs.declared.notes.Event.TheVariants as events
use Rattle.flow_instance.specs.Worlds.{enabled}
use Rattle.flow_core.specs.PlanTables.{input_in}
use Rattle.flow_core.specs.Worlds.{WorldData, seen}
use Rattle.flow_core.proofs.EventsOfWants.{idle_beside, idle_starved, idle_unread, input_reads, none_if}
use Rattle.flow_core.proofs.worlds.World.take_at.Goals as goal

pub returns-in_err-edge-clause-none : goal.returns-in_err-edge-clause-none
returns-in_err-edge-clause-none g c =
    let w = c.args.self.now in
    let is = ap (λ (x : WorldData). input_in x.physical.tree c.args.at c.args.port) (sym c.self.view_is) ∙ sym c.input.ensures in
    rw c.from_residual.ensures (idle_unread w.physical w.depth (seen w) c.requires.physical c.args.at c.args.worker c.args.port c.requires.wanted (is ∙ c.in_err-edge.was))

pub returns-in_err-from-clause-none : goal.returns-in_err-from-clause-none
returns-in_err-from-clause-none g c =
    let w = c.args.self.now in
    let is = ap (λ (x : WorldData). input_in x.physical.tree c.args.at c.args.port) (sym c.self.view_is) ∙ sym c.input.ensures in
    rw c.from_residual-in_err-from.ensures (idle_starved w.physical w.depth (seen w) c.requires.physical c.args.at c.args.worker c.args.port c.in_ok-edge.edge c.requires.wanted (is ∙ c.in_ok-edge.was) c.in_err-from.ensures.none)

pub returns-clause-none : goal.returns-clause-none
returns-clause-none g c =
    let w = c.args.self.now in
    let is = ap (λ (x : WorldData). input_in x.physical.tree c.args.at c.args.port) (sym c.self.view_is) ∙ sym c.input.ensures in
    let edge = c.in_ok-edge.edge in
    let from = c.in_ok-from.from in
    let reads = input_reads w.physical c.args.at c.args.port edge c.requires.physical (is ∙ c.in_ok-edge.was) in
    none_if (enabled w.physical w.depth (seen w) (events.Take (record { edge = edge; from = from; to = c.args.worker }))) _ c.if_enabled.result c.if_enabled.ensures (λ off.
    idle_beside w.physical w.depth (seen w) c.args.at c.args.worker c.args.port edge from c.requires.wanted reads c.in_ok-from.ensures.below c.in_ok-from.ensures.some off)
