use Rattle.std.proofs.Common.{ap, arith}
use Rattle.chain_arena.proofs.Listed.{first_within}
use Rattle.chain_arena.proofs.LinkFacts.{count_in, in_chains, last_in, some_free, takes}
use Rattle.chain_arena.proofs.links.Links.take_free.Goals as goal

pub without_first-self-inside-requires-clause-first : goal.without_first-self-inside-requires-clause-first
without_first-self-inside-requires-clause-first c =
    first_within c.self.invariant.placed 1 (some_free c.self.inside.next.items c.self.inside.free c.self.inside.chains.items c.args.self.now c.self.view_is c.requires.some)

pub without_first-self-inside-requires-clause-some : goal.without_first-self-inside-requires-clause-some
without_first-self-inside-requires-clause-some c = some_free c.self.inside.next.items c.self.inside.free c.self.inside.chains.items c.args.self.now c.self.view_is c.requires.some

pub join-requires-clause-last : goal.join-requires-clause-last
join-requires-clause-last c =
    let lt = in_chains c.self.inside.next.items c.self.inside.free c.self.inside.chains.items c.args.self.now c.args.list c.self.view_is c.requires.list in
    last_in c.self.inside.next.items c.self.inside.free c.self.inside.chains.items c.args.list c.index.result.now c.self.invariant lt c.index.ensures

pub join-requires-clause-fits : goal.join-requires-clause-fits
join-requires-clause-fits c =
    let lt = in_chains c.self.inside.next.items c.self.inside.free c.self.inside.chains.items c.args.self.now c.args.list c.self.view_is c.requires.list in
    let n = count_in c.self.inside.next.items c.self.inside.free c.self.inside.chains.items c.args.list c.index.result.now c.self.invariant lt c.index.ensures in
    let some = some_free c.self.inside.next.items c.self.inside.free c.self.inside.chains.items c.args.self.now c.self.view_is c.requires.some in
    let one = ap (λ x. x.count) c.single.ensures in
    omega (arith, n, some, one, c.self.inside.next.ok, c.self.inside.next.small)

pub invariant_of-self : goal.invariant_of-self
invariant_of-self c =
    (takes c.args.self.now c.self.inside.next.items c.self.inside.free c.self.inside.chains.items c.args.list c.index.result.now c.without_first-self-inside.result c.single.result c.join.result c.join.new.next.items c.self.view_is c.self.invariant
    c.requires.list c.requires.some c.index.ensures c.without_first-self-inside.ensures c.single.ensures c.join.ensures.chain c.join.ensures.next).linked

pub returns : goal.returns
returns c =
    (takes c.args.self.now c.self.inside.next.items c.self.inside.free c.self.inside.chains.items c.args.list c.index.result.now c.without_first-self-inside.result c.single.result c.join.result c.join.new.next.items c.self.view_is c.self.invariant
    c.requires.list c.requires.some c.index.ensures c.without_first-self-inside.ensures c.single.ensures c.join.ensures.chain c.join.ensures.next).taken
