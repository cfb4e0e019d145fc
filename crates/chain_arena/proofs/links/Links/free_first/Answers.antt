use Rattle.std.proofs.Common.{ap, arith}
use Rattle.chain_arena.proofs.Listed.{last_within}
use Rattle.chain_arena.proofs.LinkFacts.{count_in, first_in, frees, in_chains, some_at}
use Rattle.chain_arena.proofs.links.Links.free_first.Goals as goal

pub without_first-requires-clause-first : goal.without_first-requires-clause-first
without_first-requires-clause-first c =
    let lt = in_chains c.self.inside.next.items c.self.inside.free c.self.inside.chains.items c.args.self.now c.args.list c.self.view_is c.requires.list in
    first_in c.self.inside.next.items c.self.inside.free c.self.inside.chains.items c.args.list c.index-chain.result.now c.self.invariant lt c.index-chain.ensures
    (some_at c.self.inside.next.items c.self.inside.free c.self.inside.chains.items c.args.self.now c.args.list c.index-chain.result.now c.self.view_is lt c.requires.some c.index-chain.ensures)

pub without_first-requires-clause-some : goal.without_first-requires-clause-some
without_first-requires-clause-some c =
    let lt = in_chains c.self.inside.next.items c.self.inside.free c.self.inside.chains.items c.args.self.now c.args.list c.self.view_is c.requires.list in
    some_at c.self.inside.next.items c.self.inside.free c.self.inside.chains.items c.args.self.now c.args.list c.index-chain.result.now c.self.view_is lt c.requires.some c.index-chain.ensures

pub join-self-inside-requires-clause-last : goal.join-self-inside-requires-clause-last
join-self-inside-requires-clause-last c = last_within c.self.invariant.placed 1

pub join-self-inside-requires-clause-fits : goal.join-self-inside-requires-clause-fits
join-self-inside-requires-clause-fits c =
    let lt = in_chains c.self.inside.next.items c.self.inside.free c.self.inside.chains.items c.args.self.now c.args.list c.self.view_is c.requires.list in
    let n = count_in c.self.inside.next.items c.self.inside.free c.self.inside.chains.items c.args.list c.index-chain.result.now c.self.invariant lt c.index-chain.ensures in
    let one = ap (λ x. x.count) c.single.ensures in
    omega (arith, n, one, c.self.inside.next.ok, c.self.inside.next.small)

pub invariant_of-self : goal.invariant_of-self
invariant_of-self c =
    (frees c.args.self.now c.self.inside.next.items c.self.inside.free c.self.inside.chains.items c.args.list c.index-chain.result.now c.without_first.result c.single.result c.join-self-inside.result c.join-self-inside.new.next.items c.self.view_is c.self.invariant
    c.requires.list c.requires.some c.index-chain.ensures c.without_first.ensures c.single.ensures c.join-self-inside.ensures.chain c.join-self-inside.ensures.next).linked

pub returns : goal.returns
returns c =
    (frees c.args.self.now c.self.inside.next.items c.self.inside.free c.self.inside.chains.items c.args.list c.index-chain.result.now c.without_first.result c.single.result c.join-self-inside.result c.join-self-inside.new.next.items c.self.view_is c.self.invariant
    c.requires.list c.requires.some c.index-chain.ensures c.without_first.ensures c.single.ensures c.join-self-inside.ensures.chain c.join-self-inside.ensures.next).freed
