use Rattle.std.proofs.Common.{refl, subst, sym, ◌∙◌, ◌≡◌, true, IfNone, IfSome, Option}
use Rattle.flow_instance.specs.declared.notes.Event.{Event}
use Rattle.flow_instance.specs.Worlds.{IsStuck, enabled}
use Rattle.flow_core.specs.Worlds.{seen}
use Rattle.flow_core.proofs.RunAlone.{reached-next, reached_none}
use Rattle.flow_core.proofs.picks.go_by_pick.Goals as goal

pub returns-in_default : goal.returns-in_default
returns-in_default g c =
    let w = c.args.world.now in
    (refl, subst (λ (o : Option Event). IfNone o (IsStuck w.physical w.depth (seen w))) c.in_default.is c.in_ok-event.ensures.none)

pub returns : goal.returns
returns g c =
    let w = c.args.world.now in
    let step = c.in_ok-step.ensures in
    let on : enabled w.physical w.depth (seen w) c.in-Some.event ≡ true =
    subst (λ (o : Option Event). IfSome o (λ e. enabled w.physical w.depth (seen w) e ≡ true)) c.in-Some.is c.in_ok-event.ensures.some in
    record {
      event = c.in-Some.event;
      picked = sym (sym c.in-Some.is ∙ c.in_ok-event.ensures.picked);
      happened = λ g h s. (step.stepped g h s, step.standing g h s);
      reached = reached-next w w c.step.new.self 0 c.in-Some.event (reached_none w c.requires) on step.stepped step.standing step.physical step.stands;
    }
