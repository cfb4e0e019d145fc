use Rattle.ship_strategy.proofs.FewLayouts.{few_by}
use Rattle.ship_strategy.proofs.numbering.+count.Goals as goal

pub returns-in-Some-clause-few : goal.returns-in-Some-clause-few
returns-in-Some-clause-few t c =
    few_by c.args.ops.now c.in-Some.op.now c.in-Some.rest.now c.choices_of.result c.count.result c.in-Some.ensures.cases.0 c.choices_of.ensures.value c.count.ensures.value c.requires
