use Rattle.flow_run.proofs.TakenFrom.{taken_at}
use Rattle.flow_run.proofs.tries.try_take.Goals as goal

pub returns-in-Some-clause-attempt : goal.returns-in-Some-clause-attempt
returns-in-Some-clause-attempt g c =
    taken_at g.W.Width.fields c.args.context.now.number c.args.pipes.now c.args.i.now c.loop-from.i c.took.new.self c.args.port c.edge-edge.result c.loop-from.from c.in-Some.note _ _ _ c.requires.may c.loop-from.invariant.0
    c.edge-edge.ensures c.in-Some.ensures.below c.in-Some.ensures.sends c.in-Some.ensures.note c.loop-from.invariant.2 c.in-Some.ensures.added c.in_ok-took.ensures.took
