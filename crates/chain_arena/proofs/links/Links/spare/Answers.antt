use Rattle.std.proofs.Common.{length, ap, sym, ◌∙◌}
use Rattle.chain_arena.specs.Linked.{next_of}
use Rattle.chain_arena.proofs.Listed.{length-nodes_from}
use Rattle.chain_arena.proofs.links.Links.spare.Goals as goal

pub returns : goal.returns
returns c = sym (length-nodes_from (next_of c.self.inside.next.items) c.self.inside.free.first c.self.inside.free.count) ∙ ap (λ v. length v.free) c.self.view_is
