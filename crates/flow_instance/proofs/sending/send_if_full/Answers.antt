use Rattle.std.proofs.Common.{◌<◌, length, ◌∙◌, arith}
use Rattle.std.proofs.lemmas.Result.{on_ok_weaker}
use Rattle.flow_instance.proofs.SplitRows.{divided_full, held_is}
use Rattle.flow_instance.proofs.sending.send_if_full.Goals as goal

pub returns-clause-divided : goal.returns-clause-divided
returns-clause-divided c =
    let held = c.args.held.now.items in
    let to = c.args.to in
    let less : to < length held = omega (arith, c.requires.below, c.requires.long) in
    let part_is = c.replace-full.ensures.value ∙ held_is held to c.index_mut.result.now less c.index_mut.ensures.value in
    on_ok_weaker c.send_to.result (λ carried fields from keys rows h.
    divided_full fields c.args.workers from to keys rows c.replace-full.result c.replace-full.new.dest c.args.queue.now.items c.send_to.new.queue.items held c.requires.below part_is (c.replace-full.ensures.after ∙ c.in_ok-next.ensures) (carried fields) h) c.send_to.ensures.carried
