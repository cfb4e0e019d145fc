use Rattle.std.proofs.Common.{Some}
use Rattle.flow_run.proofs.WorkerLists.{put_changed, put_keeps, put_shaped, put_takes}
use Rattle.flow_run.proofs.wires.give_put.Goals as goal

pub returns-clause-changed : goal.returns-clause-changed
returns-clause-changed g c = put_changed c.args.workers.now c.args.id.from c.index-workers-id.result c.args.id.edge c.args.id.to c.set.new.self (Some c.args.put) c.requires c.set.ensures.changed

pub returns-clause-places : goal.returns-clause-places
returns-clause-places g c = put_shaped c.args.workers.now c.args.id.from c.index-workers-id.result c.args.id.edge c.args.id.to c.set.new.self c.requires c.set.ensures.places

pub returns-clause-takes : goal.returns-clause-takes
returns-clause-takes g c = put_takes c.args.workers.now c.args.id.from c.index-workers-id.result c.args.id.edge c.args.id.to c.set.new.self c.requires

pub returns-clause-kept : goal.returns-clause-kept
returns-clause-kept g c = put_keeps c.args.workers.now c.args.id.from c.index-workers-id.result c.args.id.edge c.args.id.to c.set.new.self c.requires
