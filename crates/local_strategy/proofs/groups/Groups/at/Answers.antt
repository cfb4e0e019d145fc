use Rattle.std.proofs.Common.{arith, ◌≡◌, ◌<◌, length, subst, sym}
use Rattle.std.specs.Prelude.{slice_get, IfSome}
use Rattle.pact_bag.specs.Groups.{group_of_key}
use Rattle.local_strategy.specs.Grouped.{GroupsData, order_of, rows_of}
use Rattle.local_strategy.proofs.GroupLaws.{length-order}
use Rattle.local_strategy.proofs.LentGroups.{lent_at_law}
use Rattle.local_strategy.proofs.groups.Groups.at.Goals as goal

pub index-requires : goal.index-requires
index-requires c =
    let lt = subst (λ l. c.args.n < l) (length-order c.self.inside.keys c.self.inside.held.items) (subst (λ (v : GroupsData). c.args.n < length (order_of v.keys v.groups)) (sym c.self.view_is) c.requires) in
    let e = c.self.inside.held.ok.0 in omega (arith, e, lt)

pub returns : goal.returns
returns c =
    subst (λ (v : GroupsData). IfSome (slice_get (order_of v.keys v.groups) c.args.n) (λ key. group_of_key v.keys (rows_of v.groups) key ≡ c.index.result.now)) c.self.view_is
    (lent_at_law c.self.inside.keys c.self.inside.held.items c.args.n c.index.result.now c.self.invariant.grouped
    (subst (λ l. c.args.n < l) (length-order c.self.inside.keys c.self.inside.held.items) (subst (λ (v : GroupsData). c.args.n < length (order_of v.keys v.groups)) (sym c.self.view_is) c.requires)) c.index.ensures)
