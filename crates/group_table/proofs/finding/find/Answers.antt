use Rattle.std.proofs.Common.{[], get_or, sym, ◌∙◌, subst}
use Rattle.pact_bag.proofs.KeyGroups.{same_keys}
use Rattle.pact_record.specs.Record.{key_of}
use Rattle.local_strategy.specs.Grouped.{order_of}
use Rattle.group_table.proofs.FoundByCode.{IsLeft, left_all, left_next, left_none}
use Rattle.group_table.proofs.finding.find.Goals as goal

pub loop-at-init : goal.loop-at-init
loop-at-init c =
    left_all c.args.buckets.now (order_of c.args.groups.now.keys c.args.groups.now.groups) (key_of c.args.keys.now c.args.row.now) c.args.hash c.head-at.result c.requires.index c.requires.hash c.head-at.ensures

pub returns-then-has_key : goal.returns-then-has_key
returns-then-has_key c =
    let order = order_of c.args.groups.now.keys c.args.groups.now.groups in
    let key = key_of c.args.keys.now c.args.row.now in (
      (subst (IsLeft order key) c.in-Some.is c.loop-at.invariant).0,
      same_keys (get_or order c.in-Some.n []) key (sym c.has_key.ensures ∙ c.if-has_key.true),
    )

pub loop-at-preserved : goal.loop-at-preserved
loop-at-preserved c =
    let order = order_of c.args.groups.now.keys c.args.groups.now.groups in
    let key = key_of c.args.keys.now c.args.row.now in
    left_next c.args.buckets.now order key c.in-Some.n c.next-at.result c.requires.index (subst (IsLeft order key) c.in-Some.is c.loop-at.invariant)
    (sym c.has_key.ensures ∙ c.if-has_key.false) c.next-at.ensures

pub returns : goal.returns
returns c =
    let order = order_of c.args.groups.now.keys c.args.groups.now.groups in
    let key = key_of c.args.keys.now c.args.row.now in
    left_none order key (subst (IsLeft order key) c.in_default.is c.loop-at.invariant)
