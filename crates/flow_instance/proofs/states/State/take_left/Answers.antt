use Rattle.std.proofs.Common.{Bool, ap, sym, subst, ◌∙◌}
use Rattle.std.specs.Prelude.{filter}
use Rattle.std.proofs.lemmas.Result.{on_ok_weaker}
use Rattle.flow_instance.specs.declared.notes.Note.TheVariants.{Batch}
use Rattle.flow_instance.proofs.CallsOfOperators.{has_function}
use Rattle.pact_operators.specs.Allowed.{Bag}
use Rattle.flow_instance.specs.Keeping.{IsKept, may_match}
use Rattle.flow_instance.proofs.TakenNotes.{needed_is, takes_given, takes_left, took_map}
use Rattle.flow_instance.proofs.states.State.take_left.Goals as goal

pub returns : goal.returns
returns g c =
    let p = c.args.self.now.part in
    on_ok_weaker c.keep.result
    (λ k. takes_left g.L.Local.rows g.L.Local.key_fields g.L.Local.is_sealed c.args.self.now c.args.rows c.keep.new.kept c.requires.ready (sym c.maps.ensures ∙ c.if-maps.false)
    (subst (λ (more : Bag). IsKept g.L.Local.rows g.L.Local.key_fields g.L.Local.is_sealed p.fields more c.args.self.now.left c.keep.new.kept)
    (ap (λ (nulls : Bool). filter (may_match nulls p.left_keys) c.args.rows) c.keeps_nulls-nulls.ensures ∙ needed_is p p.kind c.args.rows) k))
    c.keep.ensures

pub returns-then-maps : goal.returns-then-maps
returns-then-maps g c = on_ok_weaker c.give.result (λ h from.
    let s = c.args.self.now in
    takes_given g.L.Local.rows g.L.Local.key_fields g.L.Local.is_sealed s c.args.rows c.give.new.self 0 from (Batch c.args.rows) c.in_ok-out.out c.requires.ready.sound h
    (took_map g.L.Local.rows g.L.Local.key_fields g.L.Local.is_sealed s c.give.new.self c.function.result.now c.args.rows c.in_ok-out.out c.requires.ready (sym c.maps.ensures ∙ c.if-maps.true) c.function.ensures c.in_ok-out.ensures.given h.same h.counted h.sent from))
    c.give.ensures

pub function-requires : goal.function-requires
function-requires g c = has_function c.args.self.now.part c.requires.ready.sound.operator
