use Rattle.std.proofs.Common.{rules}
use Rattle.chain_arena.proofs.LinkFacts.{added_linked}
use Rattle.chain_arena.proofs.links.Links.add_list.Goals as goal

pub invariant_of-self-2 : goal.invariant_of-self-2
invariant_of-self-2 c = added_linked c.self.inside.next.items c.self.inside.free c.self.inside.chains.items c.push.new.self.items c.self.invariant (search (rules, c.in_ok-push.ensures.items))
