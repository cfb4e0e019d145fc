use Rattle.std.proofs.Common.{◌≡◌, List, subst, sym, take, ◌∙◌}
use Rattle.std.proofs.lemmas.List.{take_all}
use Rattle.flow_instance.specs.declared.notes.Event.{Event}
use Rattle.flow_core.specs.Replays.{IsReplayed}
use Rattle.flow_core.proofs.ReplayedEvents.{replayed-next, replayed_short, stopped_at}
use Rattle.flow_core.proofs.WorldLaws.{laws_hold}
use Rattle.flow_core.proofs.replays.replay.Goals as goal

pub bounds-events-index : goal.bounds-events-index
bounds-events-index g c = c.loop-index-test.true

pub step-requires-clause-can : goal.step-requires-clause-can
step-requires-clause-can g c κs within = sym c.enabled.ensures ∙ c.if-not-enabled.false

pub loop-index-preserved : goal.loop-index-preserved
loop-index-preserved g c =
    let step = c.step.ensures in
    replayed-next c.args.world c.loop-index.world c.step.new.self c.args.events.now c.loop-index.index _ c.step.result c.loop-index-test.true c.loop-index.invariant (sym c.if-is_err.ensures.value)
    (sym c.enabled.ensures ∙ c.if-not-enabled.false) step.stepped step.standing step.physical step.depth step.stands

pub returns-clause-done : goal.returns-clause-done
returns-clause-done g c =
    let events = c.args.events.now in
    let whole : take c.loop-index.index events ≡ events = take_all c.loop-index.index events c.loop-index-test.false in
    subst (λ (es : List Event). IsReplayed c.args.world es c.loop-index.world) whole c.loop-index.invariant

pub returns-clause-short : goal.returns-clause-short
returns-clause-short g c = replayed_short c.args.world c.loop-index.world c.args.events.now c.requires (returns-clause-done g c)

pub returns-clause-laws : goal.returns-clause-laws
returns-clause-laws g c = laws_hold c.loop-index.world c.loop-index.invariant.stands

pub returns-then-not-enabled-clause-stopped : goal.returns-then-not-enabled-clause-stopped
returns-then-not-enabled-clause-stopped g c =
    stopped_at c.args.world c.loop-index.world c.args.events.now c.loop-index.index _ c.loop-index-test.true c.loop-index.invariant (sym c.enabled.ensures ∙ c.if-not-enabled.true)

pub returns-then-not-enabled-clause-laws_stopped : goal.returns-then-not-enabled-clause-laws_stopped
returns-then-not-enabled-clause-laws_stopped g c = laws_hold c.loop-index.world c.loop-index.invariant.stands
