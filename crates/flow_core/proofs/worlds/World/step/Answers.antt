use Rattle.std.proofs.lemmas.Result.{on_ok_weaker}
use Rattle.flow_instance.proofs.Events.{step_depth}
use Rattle.flow_instance.specs.Spots.{setting}
use Rattle.flow_core.specs.Worlds.{seen}
use Rattle.flow_instance.proofs.OnOkTogether.{on_ok_two}
use Rattle.flow_core.proofs.WorldLaws.{laws_hold}
use Rattle.flow_core.proofs.WorldsAfterEvents.{parts_kept, some_after, standing_after}
use Rattle.flow_core.proofs.worlds.World.step.Goals as goal

pub returns-clause-standing : goal.returns-clause-standing
returns-clause-standing g c =
    on_ok_two c.change.result (λ steps whole s h st.
    standing_after s c.args.self.now c.change.new.self h c.args.event c.requires.stands.is_physical c.requires.can st (steps s h st) c.change.ensures.physical whole)
    c.change.ensures.stepped c.change.ensures.whole

pub returns-clause-room : goal.returns-clause-room
returns-clause-room g c =
    let w = c.args.self.now in
    let s = c.requires.stands in
    on_ok_weaker c.change.result (λ steps.
    step_depth (setting s.program s.inputs w.physical) w.depth (seen w) (seen c.change.new.self) c.args.event c.requires.can (steps (setting s.program s.inputs w.physical) s.history s.standing))
    c.change.ensures.stepped

pub returns-clause-stands : goal.returns-clause-stands
returns-clause-stands g c =
    on_ok_two c.change.result (λ steps whole.
    some_after c.args.self.now c.change.new.self c.args.event c.requires.can c.requires.stands steps c.change.ensures.physical c.change.ensures.depth whole)
    c.change.ensures.stepped c.change.ensures.whole

pub returns-clause-laws : goal.returns-clause-laws
returns-clause-laws g c =
    on_ok_two c.change.result (λ steps whole.
    laws_hold c.change.new.self (some_after c.args.self.now c.change.new.self c.args.event c.requires.can c.requires.stands steps c.change.ensures.physical c.change.ensures.depth whole))
    c.change.ensures.stepped c.change.ensures.whole

pub returns-clause-parts : goal.returns-clause-parts
returns-clause-parts g c =
    let w = c.args.self.now in
    let s = c.requires.stands in
    let set = setting s.program s.inputs w.physical in
    on_ok_weaker c.change.result (λ steps. parts_kept set (seen w) (seen c.change.new.self) c.args.event (steps set s.history s.standing)) c.change.ensures.stepped
