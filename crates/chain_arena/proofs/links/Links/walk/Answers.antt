use Rattle.std.proofs.Common.{length, sym, ◌∙◌, ap, subst, arith}
use Rattle.chain_arena.specs.Linked.{AreWithin, next_of, nodes_of}
use Rattle.chain_arena.proofs.Listed.{length-nodes_from}
use Rattle.chain_arena.proofs.LinkFacts.{count_in, in_chains, nodes_in, within_in}
use Rattle.chain_arena.proofs.links.Links.walk.Goals as goal

pub invariant_of-result : goal.invariant_of-result
invariant_of-result c =
    subst (λ next. AreWithin (length next) (nodes_of next c.index-chain.result.now)) (sym c.as_slice.ensures.value)
    (within_in c.self.inside.next.items c.self.inside.free c.self.inside.chains.items c.args.self.now c.args.list c.index-chain.result.now c.self.view_is c.self.invariant c.requires c.index-chain.ensures)

pub returns-clause-rest : goal.returns-clause-rest
returns-clause-rest c =
    ap (λ next. nodes_of next c.index-chain.result.now) c.as_slice.ensures.value
    ∙ nodes_in c.self.inside.next.items c.self.inside.free c.self.inside.chains.items c.args.self.now c.args.list c.index-chain.result.now c.self.view_is c.requires c.index-chain.ensures

pub returns-clause-fits : goal.returns-clause-fits
returns-clause-fits c =
    let chain = c.index-chain.result.now in
    let long = length-nodes_from (next_of c.as_slice.result.now) chain.first chain.count in
    let lt = in_chains c.self.inside.next.items c.self.inside.free c.self.inside.chains.items c.args.self.now c.args.list c.self.view_is c.requires in
    let n = count_in c.self.inside.next.items c.self.inside.free c.self.inside.chains.items c.args.list chain c.self.invariant lt c.index-chain.ensures in
    omega (arith, long, n, c.self.inside.next.ok, c.self.inside.next.small)
