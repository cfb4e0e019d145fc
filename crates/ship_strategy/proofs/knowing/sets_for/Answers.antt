use Rattle.tac_flow.specs.Views.{found_of}
use Rattle.ship_strategy.proofs.PlanSets.{sets_are}
use Rattle.ship_strategy.proofs.knowing.sets_for.Goals as goal

pub returns : goal.returns
returns c =
    sets_are c.args.program.now c.fields-fields.ensures.keeps c.args.at c.function_at.result.now c.requires.operator c.args.context.now (found_of c.sets.result)
    c.function_at.ensures.function c.requires.left_keys c.requires.right_keys c.sets.ensures.sets
