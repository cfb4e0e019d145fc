use Rattle.std.proofs.Common.{◌++◌, ◌∷◌, [], ◌∙◌, arith}
use Rattle.std.proofs.lemmas.List.{replicate-append-replicate}
use Rattle.pact_operators.specs.Allowed.{Bag}
use Rattle.flow_core.proofs.SharesOfRows.{none_dealt}
use Rattle.flow_core.proofs.starting.no_shares.Goals as goal

pub loop-preserved : goal.loop-preserved
loop-preserved c =
    let last : Bag = [] in (
      c.push_reserved.ensures.items ∙ (λ i. c.loop.invariant.0 i ++ c.in_ok-with_capacity.ensures i ∷ []) ∙ replicate-append-replicate c.loop.counter 1 last,
      omega (arith, c.push_reserved.ensures.len, c.loop.invariant.1),
      omega (arith, c.push_reserved.ensures.capacity, c.loop.invariant.2),
    )

pub returns : goal.returns
returns c = none_dealt c.loop.counter c.args.workers c.loop.shares.items c.loop.invariant.0 (omega (arith, c.loop-test.false, c.loop.auto.counter-end))
