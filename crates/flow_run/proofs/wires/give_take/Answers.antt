use Rattle.std.proofs.Common.{Some}
use Rattle.flow_run.proofs.WorkerLists.{take_changed, take_keeps, take_shaped, take_puts}
use Rattle.flow_run.proofs.wires.give_take.Goals as goal

pub returns-clause-changed : goal.returns-clause-changed
returns-clause-changed g c = take_changed c.args.workers.now c.args.id.to c.index-workers-id.result c.args.id.edge c.args.id.from c.set.new.self (Some c.args.take) c.requires c.set.ensures.changed

pub returns-clause-places : goal.returns-clause-places
returns-clause-places g c = take_shaped c.args.workers.now c.args.id.to c.index-workers-id.result c.args.id.edge c.args.id.from c.set.new.self c.requires c.set.ensures.places

pub returns-clause-puts : goal.returns-clause-puts
returns-clause-puts g c = take_puts c.args.workers.now c.args.id.to c.index-workers-id.result c.args.id.edge c.args.id.from c.set.new.self c.requires

pub returns-clause-kept : goal.returns-clause-kept
returns-clause-kept g c = take_keeps c.args.workers.now c.args.id.to c.index-workers-id.result c.args.id.edge c.args.id.from c.set.new.self c.requires
