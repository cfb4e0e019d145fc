use Rattle.std.proofs.Common.{rules}
use Rattle.chain_arena.proofs.LinkFacts.{none_linked_of}
use Rattle.chain_arena.proofs.links.Links.new.Goals as goal

pub invariant_of-result : goal.invariant_of-result
invariant_of-result c = none_linked_of c.new.result.items c.new-2.result.items (search rules) (search rules)
