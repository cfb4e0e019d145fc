use Rattle.ship_strategy.proofs.DividedRuns.{divided_counted, divided_meets}
use Rattle.ship_strategy.proofs.DividedRunsExist.{divided_exists}
use Rattle.ship_strategy.proofs.legality.legal_ship.Goals as goal

pub returns-clause-meets : goal.returns-clause-meets
returns-clause-meets c said plan inputs of_inputs gave shares =
    divided_meets c.args.program.now c.fields-fields.ensures.keeps inputs of_inputs c.args.physical.now c.workers-workers.ensures.physical plan (c.has_legal_edges.ensures.0 said) gave shares

pub returns-clause-counted : goal.returns-clause-counted
returns-clause-counted c said plan inputs of_inputs rows counts run =
    divided_counted c.args.program.now c.fields-fields.ensures.keeps inputs of_inputs c.args.physical.now c.workers-workers.ensures.physical plan (c.has_legal_edges.ensures.0 said) rows counts run

pub returns-clause-runs : goal.returns-clause-runs
returns-clause-runs c plan inputs = divided_exists c.args.program.now inputs c.args.physical.now c.workers-workers.ensures.physical.plan plan
