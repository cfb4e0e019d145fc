use Rattle.reorder_pair.proofs.ComposedFindings.{corner-operator}
use Rattle.reorder_pair.proofs.findings.corner_of.Goals as goal

pub returns-clause-operator : goal.returns-clause-operator
returns-clause-operator c =
    corner-operator c.args.program.now c.args.at c.fields.result c.args.left c.args.right c.args.context.now c.corner.result c.fields.ensures.fields c.corner.ensures (record { operator = c.requires.operator; fields = c.requires.fields })
