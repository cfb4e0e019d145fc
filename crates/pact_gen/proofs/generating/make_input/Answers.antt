use Rattle.pact_gen.proofs.RowsSoFar.{as_wide, behind-next, made-next}
use Rattle.pact_gen.proofs.generating.make_input.Goals as goal

pub push-requires : goal.push-requires
push-requires c = as_wide c.args.seed c.loop.counter c.loop.x c.loop.made c.in_ok-next_row.field-0 c.loop.invariant.0 c.in_ok-next_row.ensures.row

pub loop-preserved : goal.loop-preserved
loop-preserved c = (
  made-next c.args.seed c.loop.counter c.loop.x c.loop.made _ _ c.loop.invariant.0 c.loop.invariant.1 c.in_ok-next_row.ensures.row c.in_ok-push.ensures.ok,
  behind-next c.args.seed c.loop.counter c.loop.x _ c.loop.invariant.1 c.next_row.ensures.behind,
)
