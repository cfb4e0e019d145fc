use Rattle.std.proofs.Common.{sym, ◌∙◌}
use Rattle.flow_instance.specs.declared.notes.Event.TheVariants as events
use Rattle.flow_instance.specs.Worlds.{enabled}
use Rattle.flow_core.specs.Worlds.{seen}
use Rattle.flow_core.proofs.EventsOfWants.{idle_done, idle_end, idle_put, none_if, some_if}
use Rattle.flow_core.proofs.worlds.World.event_of.Goals as goal

pub returns-in-Put-clause-some : goal.returns-in-Put-clause-some
returns-in-Put-clause-some g c =
    let w = c.args.self.now in
    some_if (enabled w.physical w.depth (seen w)) (events.Put (record { edge = c.args.at; from = c.args.worker; to = c.in-Put.to })) c.if_enabled.result c.if_enabled.ensures

pub returns-in-Put-clause-none : goal.returns-in-Put-clause-none
returns-in-Put-clause-none g c =
    let w = c.args.self.now in
    let event = events.Put (record { edge = c.args.at; from = c.args.worker; to = c.in-Put.to }) in
    none_if (enabled w.physical w.depth (seen w) event) event c.if_enabled.result c.if_enabled.ensures (λ off. idle_put w.physical w.depth (seen w) c.args.at c.args.worker c.in-Put.to (sym c.want.ensures ∙ c.in-Put.is) off)

pub take_at-requires-clause-wanted : goal.take_at-requires-clause-wanted
take_at-requires-clause-wanted g c κs within = sym c.want.ensures ∙ c.in-Take.is

pub returns-in-Take-clause-some : goal.returns-in-Take-clause-some
returns-in-Take-clause-some g c = c.take_at.ensures.some

pub returns-in-Take-clause-none : goal.returns-in-Take-clause-none
returns-in-Take-clause-none g c = c.take_at.ensures.none

pub returns-in-End-clause-some : goal.returns-in-End-clause-some
returns-in-End-clause-some g c =
    let w = c.args.self.now in
    some_if (enabled w.physical w.depth (seen w)) (events.End c.args.at c.args.worker) c.if_enabled-in-End.result c.if_enabled-in-End.ensures

pub returns-in-End-clause-none : goal.returns-in-End-clause-none
returns-in-End-clause-none g c =
    let w = c.args.self.now in
    let event = events.End c.args.at c.args.worker in
    none_if (enabled w.physical w.depth (seen w) event) event c.if_enabled-in-End.result c.if_enabled-in-End.ensures (λ off. idle_end w.physical w.depth (seen w) c.args.at c.args.worker (sym c.want.ensures ∙ c.in-End.is) off)

pub returns-in-Done-clause-none : goal.returns-in-Done-clause-none
returns-in-Done-clause-none g c =
    let w = c.args.self.now in
    idle_done w.physical w.depth (seen w) c.args.at c.args.worker (sym c.want.ensures ∙ c.in-Done.is)
