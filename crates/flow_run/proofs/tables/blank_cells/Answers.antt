use Rattle.std.proofs.Common.{◌++◌, ◌∷◌, [], None, ◌∙◌, arith}
use Rattle.std.proofs.lemmas.List.{replicate-append-replicate}
use Rattle.flow_run.proofs.BlankTables.{blank_cells}
use Rattle.flow_run.proofs.tables.blank_cells.Goals as goal

pub loop-preserved : goal.loop-preserved
loop-preserved g c = (
  c.push_reserved.ensures.items ∙ (λ i. c.loop.invariant.0 i ++ None ∷ []) ∙ replicate-append-replicate c.loop.counter 1 None,
  omega (arith, c.push_reserved.ensures.len, c.loop.invariant.1),
  omega (arith, c.push_reserved.ensures.capacity, c.loop.invariant.2),
)

pub returns : goal.returns
returns g c = blank_cells c.args.columns c.loop.counter c.loop.held.items c.loop.invariant.0 (omega (arith, c.loop-test.false, c.loop.auto.counter-end))
