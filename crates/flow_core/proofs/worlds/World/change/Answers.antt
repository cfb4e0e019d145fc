use Rattle.std.proofs.Common.{◌≡◌, subst, sym, true}
use Rattle.std.proofs.lemmas.Result.{on_ok_weaker}
use Rattle.flow_instance.specs.declared.notes.Event.{Event}
use Rattle.flow_instance.specs.Events.{Steps}
use Rattle.flow_instance.specs.Worlds.{enabled}
use Rattle.flow_core.specs.Worlds.{seen}
use Rattle.flow_core.proofs.EventsOfWants.{place_end, place_put, told_end, told_put}
use Rattle.flow_core.proofs.worlds.World.change.Goals as goal

pub put-requires-clause-wanted : goal.put-requires-clause-wanted
put-requires-clause-wanted g c κs inside =
    let w = c.args.self.now in
    let on = subst (λ (e : Event). enabled w.physical w.depth (seen w) e ≡ true) c.in-Put.is c.requires.can in
    told_put w.physical w.depth (seen w) c.in-Put.pipe on

pub put-requires-clause-whole : goal.put-requires-clause-whole
put-requires-clause-whole g c κs inside = c.requires.stands.standing.whole

pub put-requires-clause-has : goal.put-requires-clause-has
put-requires-clause-has g c κs inside =
    let w = c.args.self.now in
    let on = subst (λ (e : Event). enabled w.physical w.depth (seen w) e ≡ true) c.in-Put.is c.requires.can in
    (place_put w.physical w.depth (seen w) c.in-Put.pipe on).0

pub put-requires-clause-from : goal.put-requires-clause-from
put-requires-clause-from g c κs inside =
    let w = c.args.self.now in
    let on = subst (λ (e : Event). enabled w.physical w.depth (seen w) e ≡ true) c.in-Put.is c.requires.can in
    (place_put w.physical w.depth (seen w) c.in-Put.pipe on).1

pub take-requires-clause-can : goal.take-requires-clause-can
take-requires-clause-can g c κs inside =
    let w = c.args.self.now in
    subst (λ (e : Event). enabled w.physical w.depth (seen w) e ≡ true) c.in-Take.is c.requires.can

pub take-requires-clause-stands : goal.take-requires-clause-stands
take-requires-clause-stands g c κs inside = c.requires.stands

pub end-requires-clause-wanted : goal.end-requires-clause-wanted
end-requires-clause-wanted g c κs inside =
    let w = c.args.self.now in
    let on = subst (λ (e : Event). enabled w.physical w.depth (seen w) e ≡ true) c.in-End.is c.requires.can in
    told_end w.physical w.depth (seen w) c.in-End.at c.in-End.worker on

pub end-requires-clause-whole : goal.end-requires-clause-whole
end-requires-clause-whole g c κs inside = c.requires.stands.standing.whole

pub end-requires-clause-has : goal.end-requires-clause-has
end-requires-clause-has g c κs inside =
    let w = c.args.self.now in
    let on = subst (λ (e : Event). enabled w.physical w.depth (seen w) e ≡ true) c.in-End.is c.requires.can in
    (place_end w.physical w.depth (seen w) c.in-End.at c.in-End.worker on).0

pub end-requires-clause-worker : goal.end-requires-clause-worker
end-requires-clause-worker g c κs inside =
    let w = c.args.self.now in
    let on = subst (λ (e : Event). enabled w.physical w.depth (seen w) e ≡ true) c.in-End.is c.requires.can in
    (place_end w.physical w.depth (seen w) c.in-End.at c.in-End.worker on).1

pub returns-in-Put-clause-stepped : goal.returns-in-Put-clause-stepped
returns-in-Put-clause-stepped g c =
    let w = c.args.self.now in
    on_ok_weaker c.put.result (λ puts s h st. subst (λ (e : Event). Steps s (seen w) e (seen c.put.new.self)) (sym c.in-Put.is) puts) c.put.ensures.put

pub returns-in-Put-clause-whole : goal.returns-in-Put-clause-whole
returns-in-Put-clause-whole g c = c.put.ensures.whole

pub returns-in-Take-clause-stepped : goal.returns-in-Take-clause-stepped
returns-in-Take-clause-stepped g c =
    let w = c.args.self.now in
    on_ok_weaker c.take.result (λ steps s h st. subst (λ (e : Event). Steps s (seen w) e (seen c.take.new.self)) (sym c.in-Take.is) (steps s h st)) c.take.ensures.stepped

pub returns-in-Take-clause-whole : goal.returns-in-Take-clause-whole
returns-in-Take-clause-whole g c = c.take.ensures.whole

pub returns-in-End-clause-stepped : goal.returns-in-End-clause-stepped
returns-in-End-clause-stepped g c =
    let w = c.args.self.now in
    λ s h st. subst (λ (e : Event). Steps s (seen w) e (seen c.end.new.self)) (sym c.in-End.is) c.end.ensures.ends

pub returns-in-End-clause-whole : goal.returns-in-End-clause-whole
returns-in-End-clause-whole g c = c.end.ensures.whole
