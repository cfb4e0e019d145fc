use Rattle.std.proofs.Common.{arith, refl}
use Rattle.flow_run.proofs.WorkerLists.{blank_all, blank_more, blank_none}
use Rattle.flow_run.proofs.wires.blank_workers.Goals as goal

pub loop-number-init : goal.loop-number-init
loop-number-init g c = blank_none c.args.ops c.args.count c.new-workers.result.items c.new-workers.ensures.items

pub loop-number-preserved : goal.loop-number-preserved
loop-number-preserved g c =
    blank_more c.args.ops c.args.count c.loop-number.number c.loop-number.workers.items c.push.new.self.items _ c.in_ok-push.ensures.items refl c.in_ok-with_capacity.ensures.items c.in_ok-puts.ensures c.in_ok-takes.ensures c.loop-number.invariant

pub returns-clause-none : goal.returns-clause-none
returns-clause-none g c = (blank_all c.args.ops c.args.count c.loop-number.number c.loop-number.workers.items (omega (arith, c.loop-number-test.false, c.loop-number.auto.number-end)) c.loop-number.invariant).0

pub returns-clause-puts : goal.returns-clause-puts
returns-clause-puts g c = (blank_all c.args.ops c.args.count c.loop-number.number c.loop-number.workers.items (omega (arith, c.loop-number-test.false, c.loop-number.auto.number-end)) c.loop-number.invariant).1.0

pub returns-clause-put_places : goal.returns-clause-put_places
returns-clause-put_places g c = (blank_all c.args.ops c.args.count c.loop-number.number c.loop-number.workers.items (omega (arith, c.loop-number-test.false, c.loop-number.auto.number-end)) c.loop-number.invariant).1.1

pub returns-clause-takes : goal.returns-clause-takes
returns-clause-takes g c = (blank_all c.args.ops c.args.count c.loop-number.number c.loop-number.workers.items (omega (arith, c.loop-number-test.false, c.loop-number.auto.number-end)) c.loop-number.invariant).2.0

pub returns-clause-take_places : goal.returns-clause-take_places
returns-clause-take_places g c = (blank_all c.args.ops c.args.count c.loop-number.number c.loop-number.workers.items (omega (arith, c.loop-number-test.false, c.loop-number.auto.number-end)) c.loop-number.invariant).2.1
