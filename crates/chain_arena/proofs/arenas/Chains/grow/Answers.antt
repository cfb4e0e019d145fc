use Rattle.std.proofs.Common.{ap, ◌∙◌, ◌++◌, ◌∷◌, [], None}
use Rattle.chain_arena.proofs.ArenaFacts.{has_room}
use Rattle.chain_arena.proofs.arenas.Chains.grow.Goals as goal

pub invariant_of-self-2 : goal.invariant_of-self-2
invariant_of-self-2 g c =
    let t = has_room c.args.self.now c.self.inside.items.items c.push_reserved.new.self.items c.self.inside.links c.grow.new.self c.self.view_is c.self.invariant.0 c.self.invariant.1
    (c.push_reserved.ensures.items ∙ ap (λ l. l ++ None ∷ []) c.reserve.ensures.items) c.in_ok-grow.ensures.ok in
    (t.long, t.occupied)
