use Rattle.std.proofs.Common.{arith, ◌<◌, get_or, length, subst, sym, ap, ◌∙◌, []}
use Rattle.pact_record.specs.Record.{key_of, record_cmp}
use Rattle.local_strategy.specs.Grouped.{GroupsData, order_of}
use Rattle.local_strategy.proofs.GroupLaws.{length-order}
use Rattle.local_strategy.proofs.PutRows.{compared_first, first_below, some_first}
use Rattle.local_strategy.proofs.groups.Groups.key_compare.Goals as goal

pub index-requires : goal.index-requires
index-requires c =
    let lt = subst (λ l. c.args.n < l) (length-order c.self.inside.keys c.self.inside.held.items) (subst (λ (v : GroupsData). c.args.n < length (order_of v.keys v.groups)) (sym c.self.view_is) c.requires.number) in
    let e = c.self.inside.held.ok.0 in omega (arith, e, lt)

pub at-requires : goal.at-requires
at-requires c =
    some_first c.self.inside.keys c.self.inside.held.items c.args.n c.index.result.now
    (subst (λ l. c.args.n < l) (length-order c.self.inside.keys c.self.inside.held.items) (subst (λ (v : GroupsData). c.args.n < length (order_of v.keys v.groups)) (sym c.self.view_is) c.requires.number)) c.self.invariant.grouped.each c.index.ensures

pub key_compare-requires-clause-below : goal.key_compare-requires-clause-below
key_compare-requires-clause-below c =
    first_below c.self.inside.keys c.self.inside.held.items c.args.n c.index.result.now c.at.result.now
    (subst (λ l. c.args.n < l) (length-order c.self.inside.keys c.self.inside.held.items) (subst (λ (v : GroupsData). c.args.n < length (order_of v.keys v.groups)) (sym c.self.view_is) c.requires.number)) c.self.invariant.grouped.each
    c.self.invariant.below c.index.ensures c.at.ensures

pub returns : goal.returns
returns c =
    c.key_compare.ensures
    ∙ ap (λ key. record_cmp key (key_of c.args.keys.now c.args.row.now))
    (compared_first c.self.inside.keys c.self.inside.held.items c.args.n c.index.result.now c.at.result.now
    (subst (λ l. c.args.n < l) (length-order c.self.inside.keys c.self.inside.held.items) (subst (λ (v : GroupsData). c.args.n < length (order_of v.keys v.groups)) (sym c.self.view_is) c.requires.number)) c.index.ensures c.at.ensures
    ∙ ap (λ (v : GroupsData). get_or (order_of v.keys v.groups) c.args.n []) c.self.view_is)
