use Rattle.std.proofs.Common.{rules}
use Rattle.chain_arena.proofs.LinkFacts.{grows, longer_last}
use Rattle.chain_arena.proofs.links.Links.grow.Goals as goal

pub join-self-inside-requires-clause-last : goal.join-self-inside-requires-clause-last
join-self-inside-requires-clause-last c =
    let i = c.in_ok-push.ensures.items in
    longer_last c.self.inside.next.items c.push.new.self.items c.self.inside.free c.self.inside.chains.items c.self.invariant (search (rules, i))

pub invariant_of-self-2 : goal.invariant_of-self-2
invariant_of-self-2 c =
    let i = c.in_ok-push.ensures.items in
    (grows c.args.self.now c.self.inside.next.items c.self.inside.free c.self.inside.chains.items c.push.new.self.items c.join-self-inside.new.next.items c.len-node.result c.single.result c.join-self-inside.result c.self.view_is c.self.invariant
    (search (rules, i)) (search rules) c.single.ensures c.join-self-inside.ensures.chain c.join-self-inside.ensures.next).linked

pub returns-clause-ok : goal.returns-clause-ok
returns-clause-ok c =
    let i = c.in_ok-push.ensures.items in
    (grows c.args.self.now c.self.inside.next.items c.self.inside.free c.self.inside.chains.items c.push.new.self.items c.join-self-inside.new.next.items c.len-node.result c.single.result c.join-self-inside.result c.self.view_is c.self.invariant
    (search (rules, i)) (search rules) c.single.ensures c.join-self-inside.ensures.chain c.join-self-inside.ensures.next).view
