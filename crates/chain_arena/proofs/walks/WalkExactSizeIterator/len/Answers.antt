use Rattle.std.proofs.Common.{length, sym, ◌∙◌, ap}
use Rattle.chain_arena.proofs.ArenaFacts.{length-items}
use Rattle.chain_arena.proofs.walks.WalkExactSizeIterator.len.Goals as goal

pub returns-clause-value : goal.returns-clause-value
returns-clause-value g c = c.len.ensures ∙ sym (length-items c.self.inside.items.now c.self.inside.nodes c.self.invariant) ∙ ap length c.self.view_is
