use Rattle.std.proofs.lemmas.Result.{IfOk-weaker}
use Rattle.flow_instance.proofs.instances.Instance.start.Goals as goal

pub start_from-requires-clause-may : goal.start_from-requires-clause-may
start_from-requires-clause-may g c = λ _ _. record {
  program = c.args.program.now;
  physical = c.args.physical.now;
  number = c.args.at;
  worker = c.args.worker;
  size = c.args.batch;
  share = c.args.rows;
  is = c.in_ok-unstarted.ensures;
}

pub returns-clause-number : goal.returns-clause-number
returns-clause-number g c = IfOk-weaker c.start_from.result _ _ (λ i h. (h c.args.program.now c.args.physical.now c.args.at c.args.worker c.args.batch c.args.rows c.in_ok-unstarted.ensures).at) c.start_from.ensures.started

pub returns-clause-worker : goal.returns-clause-worker
returns-clause-worker g c = IfOk-weaker c.start_from.result _ _ (λ i h. (h c.args.program.now c.args.physical.now c.args.at c.args.worker c.args.batch c.args.rows c.in_ok-unstarted.ensures).worker) c.start_from.ensures.started

pub returns-clause-batch : goal.returns-clause-batch
returns-clause-batch g c = IfOk-weaker c.start_from.result _ _ (λ i h. (h c.args.program.now c.args.physical.now c.args.at c.args.worker c.args.batch c.args.rows c.in_ok-unstarted.ensures).batch) c.start_from.ensures.started

pub returns-clause-started : goal.returns-clause-started
returns-clause-started g c = IfOk-weaker c.start_from.result _ _ (λ i h. (h c.args.program.now c.args.physical.now c.args.at c.args.worker c.args.batch c.args.rows c.in_ok-unstarted.ensures).started) c.start_from.ensures.started

pub returns-clause-local : goal.returns-clause-local
returns-clause-local g c = IfOk-weaker c.start_from.result _ _ (λ i h. (h c.args.program.now c.args.physical.now c.args.at c.args.worker c.args.batch c.args.rows c.in_ok-unstarted.ensures).local) c.start_from.ensures.started
