use Rattle.std.proofs.Common.{sym, ◌∙◌}
use Rattle.flow_instance.proofs.EndMarks.{flags_last, not_taking, orderly_last, takes_more, took_last}
use Rattle.flow_instance.proofs.OnOkTogether.{on_ok_two}
use Rattle.flow_instance.proofs.SmallBatches.{few_last, few_more}
use Rattle.flow_instance.proofs.states.State.take_end.Goals as goal

pub returns-then-not-all_ended : goal.returns-then-not-all_ended
returns-then-not-all_ended g c =
    takes_more g.L.Local.rows g.L.Local.key_fields g.L.Local.is_sealed c.args.self.now c.end_sender.new.self c.args.port c.args.from c.requires.ready c.in_ok-end_sender.ensures.ended c.in_ok-end_sender.ensures.sound (sym c.all_ended.ensures ∙ c.if-not-all_ended.true)
    (few_more g.L.Local.rows c.args.self.now c.end_sender.new.self c.args.port c.args.from c.requires.ready.none c.in_ok-end_sender.ensures.ended)

pub returns : goal.returns
returns g c = on_ok_two c.mark.result (λ frame marked. record {
  took = took_last g.L.Local.rows g.L.Local.key_fields g.L.Local.is_sealed c.args.self.now c.end_sender.new.self c.last_groups.new.self c.give.new.self c.mark.new.self c.args.port c.args.from c.in_ok-out.out c.requires.ready
      c.in_ok-end_sender.ensures.ended (sym c.all_ended.ensures ∙ c.if-not-all_ended.false) c.in_ok-out.ensures.same c.in_ok-give.ensures.same frame c.in_ok-give.ensures.sent marked
      c.in_ok-out.ensures.given c.in_ok-give.ensures.counted c.in_ok-out.ensures.left_wide c.in_ok-out.ensures.right_wide;
  sound = not_taking g.L.Local.rows g.L.Local.key_fields g.L.Local.is_sealed c.args.self.now c.end_sender.new.self c.last_groups.new.self c.give.new.self c.mark.new.self c.args.port c.args.from c.in_ok-out.out c.requires.ready
      c.in_ok-end_sender.ensures.ended (sym c.all_ended.ensures ∙ c.if-not-all_ended.false) c.in_ok-out.ensures.same c.in_ok-give.ensures.same frame;
  orderly = orderly_last g.L.Local.rows g.L.Local.key_fields g.L.Local.is_sealed c.args.self.now c.end_sender.new.self c.last_groups.new.self c.give.new.self c.mark.new.self c.args.port c.args.from c.in_ok-out.out c.requires.ready
      c.in_ok-end_sender.ensures.ended (sym c.all_ended.ensures ∙ c.if-not-all_ended.false) c.in_ok-out.ensures.same c.in_ok-give.ensures.same frame c.in_ok-give.ensures.sent marked;
  flags = flags_last g.L.Local.rows g.L.Local.key_fields g.L.Local.is_sealed c.args.self.now c.end_sender.new.self c.last_groups.new.self c.give.new.self c.mark.new.self c.args.port c.args.from c.in_ok-out.out c.requires.ready
      c.in_ok-end_sender.ensures.ended (sym c.all_ended.ensures ∙ c.if-not-all_ended.false) c.in_ok-out.ensures.same c.in_ok-give.ensures.same frame c.in_ok-end_sender.ensures.sound;
  batches = few_last g.L.Local.rows c.last_groups.new.self c.give.new.self c.mark.new.self c.in_ok-give.ensures.same frame c.in_ok-give.ensures.batches marked;
})
    c.mark.ensures.same c.mark.ensures.marked
