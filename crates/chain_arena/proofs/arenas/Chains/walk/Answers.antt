use Rattle.std.proofs.Common.{sym, ◌∙◌, subst, arith}
use Rattle.chain_arena.specs.Arenas.{HaveItems, items_of}
use Rattle.chain_arena.proofs.ArenaFacts.{have_items, length-items, list_in}
use Rattle.chain_arena.proofs.arenas.Chains.walk.Goals as goal

pub invariant_of-result : goal.invariant_of-result
invariant_of-result g c =
    subst (λ items. HaveItems items c.walk.result) (sym c.as_slice.ensures.value)
    (subst (HaveItems c.self.inside.items.items) (sym c.walk.ensures.rest) (have_items c.self.inside.items.items c.self.inside.links.lists c.args.chain c.self.invariant.1))

pub returns-clause-rest : goal.returns-clause-rest
returns-clause-rest g c =
    (λ i. items_of (c.as_slice.ensures.value i) (c.walk.ensures.rest i)) ∙ list_in c.self.inside.items.items c.self.inside.links c.args.self.now c.args.chain c.self.view_is

pub returns-clause-fits : goal.returns-clause-fits
returns-clause-fits g c = let long = length-items c.as_slice.result.now c.walk.result (invariant_of-result g c) in omega (arith, long, c.walk.ensures.fits)
