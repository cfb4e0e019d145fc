use Rattle.flow_instance.specs.Events.{no_history}
use Rattle.flow_run.proofs.Finished.{plan_outcome}
use Rattle.flow_run.proofs.runs.run_on_one.Goals as goal

pub returns : goal.returns
returns g c =
    plan_outcome c.args.program.now c.args.inputs c.args.physical.now c.in_ok-world.world no_history c.run_alone.result c.in_ok-world.ensures.physical c.fields-fields.ensures.keeps c.requires.inputs c.requires.plan
    c.in_ok-world.ensures.standing c.run_alone.ensures
