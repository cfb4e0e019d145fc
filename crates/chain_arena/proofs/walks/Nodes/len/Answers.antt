use Rattle.std.proofs.Common.{length, sym, ◌∙◌, ap}
use Rattle.chain_arena.specs.Linked.{next_of}
use Rattle.chain_arena.proofs.Listed.{length-nodes_from}
use Rattle.chain_arena.proofs.walks.Nodes.len.Goals as goal

pub returns : goal.returns
returns c = sym (length-nodes_from (next_of c.self.inside.next.now) c.self.inside.node c.self.inside.left) ∙ ap length c.self.view_is
