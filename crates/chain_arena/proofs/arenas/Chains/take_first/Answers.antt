use Rattle.std.proofs.Common.{◌<◌, ap, arith, length, sym, ◌∙◌}
use Rattle.std.specs.Prelude.{slice_set}
use Rattle.chain_arena.proofs.ArenaFacts.{item_at, takes_out}
use Rattle.chain_arena.proofs.arenas.Chains.take_first.Goals as goal

pub invariant_of-self : goal.invariant_of-self
invariant_of-self g c =
    let t = takes_out c.args.self.now c.self.inside.items.items c.self.inside.links c.free_first-node.new.self c.args.chain c.free_first-node.result (slice_set c.self.inside.items.items c.free_first-node.result c.take.new.self) c.self.view_is
    c.self.invariant.0 c.self.invariant.1 c.free_first-node.ensures (ap (slice_set c.self.inside.items.items c.free_first-node.result) c.take.ensures.after) in
    (t.long, t.occupied)

pub returns : goal.returns
returns g c =
    let t = takes_out c.args.self.now c.self.inside.items.items c.self.inside.links c.free_first-node.new.self c.args.chain c.free_first-node.result (slice_set c.self.inside.items.items c.free_first-node.result c.take.new.self) c.self.view_is
    c.self.invariant.0 c.self.invariant.1 c.free_first-node.ensures (ap (slice_set c.self.inside.items.items c.free_first-node.result) c.take.ensures.after) in
    let within : c.free_first-node.result < length c.self.inside.items.items = let w = c.free_first-node.ensures.within in let l = c.self.invariant.0 in omega (arith, w, l) in
    t.taken c.unwrap.result (item_at c.self.inside.items.items c.free_first-node.result c.index_mut.result.now c.unwrap.result within c.index_mut.ensures.value (sym c.take.ensures.value ∙ c.unwrap.ensures))
