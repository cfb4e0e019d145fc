use Rattle.reorder_pair.proofs.ComposedFindings.{whole-all, whole-none}
use Rattle.reorder_pair.proofs.corners.whole.Goals as goal

pub returns-then-all : goal.returns-then-all
returns-then-all c = whole-all c.args.fields c.all.result c.args.all c.if-all.true c.all.ensures

pub returns-else-all : goal.returns-else-all
returns-else-all c = whole-none c.args.fields c.empty.result c.args.all c.if-all.false c.empty.ensures
