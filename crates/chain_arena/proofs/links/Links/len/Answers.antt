use Rattle.chain_arena.proofs.LinkFacts.{len_in}
use Rattle.chain_arena.proofs.links.Links.len.Goals as goal

pub returns : goal.returns
returns c = len_in c.self.inside.next.items c.self.inside.free c.self.inside.chains.items c.args.self.now c.args.list c.index.result.now c.self.view_is c.requires c.index.ensures
