use Rattle.std.proofs.Common.{◌<◌, length, subst, sym, ◌∙◌, arith}
use Rattle.std.proofs.lemmas.List.{length-set}
use Rattle.pact_record.specs.Widths.{AreWide}
use Rattle.flow_instance.proofs.SplitRows.{divided_one, held_is}
use Rattle.flow_instance.proofs.sending.hold_row.Goals as goal

pub push-requires : goal.push-requires
push-requires c =
    let held = c.args.held.now.items in
    let to = c.in_ok-to.to in
    let less : to < length held = omega (arith, c.in_ok-to.ensures.below, c.requires.long) in
    subst (AreWide (length c.args.row)) (sym (held_is held to c.index_mut.result.now less c.index_mut.ensures.value)) (c.requires.wide to)

pub returns-clause-long : goal.returns-clause-long
returns-clause-long c = length-set c.args.held.now.items c.in_ok-to.to c.push.new.self ∙ c.requires.long

pub returns-clause-divided : goal.returns-clause-divided
returns-clause-divided c = λ fields from done queue width h.
    let held = c.args.held.now.items in
    let to = c.in_ok-to.to in
    let part = c.index_mut.result.now in
    let less : to < length held = omega (arith, c.in_ok-to.ensures.below, c.requires.long) in
    divided_one fields c.args.workers from to c.args.keys.now done part c.push.new.self c.args.row queue held c.in_ok-to.ensures.below c.in_ok-to.ensures.value (held_is held to part less c.index_mut.ensures.value) c.in_ok-push.ensures.ok width h
