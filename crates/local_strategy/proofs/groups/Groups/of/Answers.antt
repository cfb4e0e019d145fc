use Rattle.std.proofs.Common.{arith, ◌≡◌, List, subst, sym}
use Rattle.pact_bag.specs.Groups.{group_of_key}
use Rattle.pact_record.specs.declared.values.Value.{Value}
use Rattle.local_strategy.specs.Grouped.{GroupsData, IsFound, order_of, rows_of}
use Rattle.local_strategy.proofs.LentGroups.{found_below, lent_found, lent_none}
use Rattle.local_strategy.proofs.groups.Groups.of.Goals as goal

pub index-requires : goal.index-requires
index-requires c =
    let lt = found_below c.self.inside.keys c.self.inside.held.items c.requires.0 c.in-Some.n
    (subst (λ found. IsFound (order_of c.self.inside.keys c.self.inside.held.items) c.requires.0 found) c.in-Some.is
    (subst (λ (v : GroupsData). IsFound (order_of v.keys v.groups) c.requires.0 c.args.found) (sym c.self.view_is) c.requires.1)) in
    let e = c.self.inside.held.ok.0 in omega (arith, e, lt)

pub returns-in-Some : goal.returns-in-Some
returns-in-Some c =
    subst (λ (v : GroupsData). (key : List Value) → IsFound (order_of v.keys v.groups) key c.args.found → group_of_key v.keys (rows_of v.groups) key ≡ c.index.result.now) c.self.view_is
    (λ key f. lent_found c.self.inside.keys c.self.inside.held.items c.self.inside.none c.index.result.now key c.in-Some.n c.self.invariant
    (subst (λ found. IsFound (order_of c.self.inside.keys c.self.inside.held.items) key found) c.in-Some.is f) c.index.ensures)

pub returns-in-None : goal.returns-in-None
returns-in-None c =
    subst (λ (v : GroupsData). (key : List Value) → IsFound (order_of v.keys v.groups) key c.args.found → group_of_key v.keys (rows_of v.groups) key ≡ c.self.inside.none) c.self.view_is
    (λ key f. lent_none c.self.inside.keys c.self.inside.held.items c.self.inside.none key c.self.invariant
    (subst (λ found. IsFound (order_of c.self.inside.keys c.self.inside.held.items) key found) c.in-None.is f))
