use Rattle.std.proofs.Common.{subst, sym, ◌∙◌}
use Rattle.std.proofs.lemmas.Result.{on_ok_weaker}
use Rattle.flow_instance.specs.declared.notes.Note.TheVariants.{Batch}
use Rattle.pact_operators.specs.Allowed.{Bag}
use Rattle.flow_instance.specs.Keeping.{IsKept}
use Rattle.flow_instance.proofs.KeptRecords.{all_chosen}
use Rattle.flow_instance.proofs.TakenNotes.{takes_given, takes_right, took_pair}
use Rattle.flow_instance.proofs.states.State.take_right.Goals as goal

pub returns : goal.returns
returns g c =
    let p = c.args.self.now.part in
    on_ok_weaker c.keep.result
    (λ k. takes_right g.L.Local.rows g.L.Local.key_fields g.L.Local.is_sealed c.args.self.now c.args.rows c.keep.new.kept c.requires.ready (sym c.pairs.ensures ∙ c.if-pairs.false)
    (subst (λ (more : Bag). IsKept g.L.Local.rows g.L.Local.key_fields g.L.Local.is_sealed p.fields more c.args.self.now.right c.keep.new.kept) (all_chosen p.right_keys c.args.rows) k))
    c.keep.ensures

pub returns-then-pairs : goal.returns-then-pairs
returns-then-pairs g c = on_ok_weaker c.give.result (λ h from.
    let s = c.args.self.now in
    takes_given g.L.Local.rows g.L.Local.key_fields g.L.Local.is_sealed s c.args.rows c.give.new.self 1 from (Batch c.args.rows) c.in_ok-out.out c.requires.ready.sound h
    (took_pair g.L.Local.rows g.L.Local.key_fields g.L.Local.is_sealed s c.give.new.self c.args.rows c.in_ok-out.out c.requires.ready (sym c.pairs.ensures ∙ c.if-pairs.true) c.in_ok-out.ensures.given h.same h.counted h.sent from))
    c.give.ensures
