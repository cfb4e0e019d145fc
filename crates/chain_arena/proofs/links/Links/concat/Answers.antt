use Rattle.std.proofs.Common.{arith}
use Rattle.chain_arena.proofs.LinkFacts.{concats, counts_in, in_chains, last_in}
use Rattle.chain_arena.proofs.links.Links.concat.Goals as goal

pub join-requires-clause-last : goal.join-requires-clause-last
join-requires-clause-last c =
    let lt = in_chains c.self.inside.next.items c.self.inside.free c.self.inside.chains.items c.args.self.now c.args.a c.self.view_is c.requires.a in
    last_in c.self.inside.next.items c.self.inside.free c.self.inside.chains.items c.args.a c.index.result.now c.self.invariant lt c.index.ensures

pub join-requires-clause-fits : goal.join-requires-clause-fits
join-requires-clause-fits c =
    let a = in_chains c.self.inside.next.items c.self.inside.free c.self.inside.chains.items c.args.self.now c.args.a c.self.view_is c.requires.a in
    let b = in_chains c.self.inside.next.items c.self.inside.free c.self.inside.chains.items c.args.self.now c.args.b c.self.view_is c.requires.b in
    let n = counts_in c.self.inside.next.items c.self.inside.free c.self.inside.chains.items c.args.a c.args.b c.index.result.now c.index-behind.result.now c.self.invariant a b c.requires.differ c.index.ensures c.index-behind.ensures in
    omega (arith, n, c.self.inside.next.ok, c.self.inside.next.small)

pub invariant_of-self : goal.invariant_of-self
invariant_of-self c =
    (concats c.args.self.now c.self.inside.next.items c.self.inside.free c.self.inside.chains.items c.args.a c.args.b c.index.result.now c.index-behind.result.now c.join.result c.join.new.next.items c.self.view_is c.self.invariant
    c.requires.a c.requires.b c.requires.differ c.index.ensures c.index-behind.ensures c.join.ensures.chain c.join.ensures.next).linked

pub returns : goal.returns
returns c =
    (concats c.args.self.now c.self.inside.next.items c.self.inside.free c.self.inside.chains.items c.args.a c.args.b c.index.result.now c.index-behind.result.now c.join.result c.join.new.next.items c.self.view_is c.self.invariant
    c.requires.a c.requires.b c.requires.differ c.index.ensures c.index-behind.ensures c.join.ensures.chain c.join.ensures.next).view
