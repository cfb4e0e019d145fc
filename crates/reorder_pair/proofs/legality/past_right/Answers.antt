use Rattle.std.proofs.Common.{refl}
use Rattle.pact_record.specs.FieldSets.{has_field}
use Rattle.pact_operators.specs.Programs.{HasRightAttribute}
use Rattle.reorder_pair.proofs.ConditionLines.{IsLeastCommon-of, at_root}
use Rattle.reorder_pair.proofs.legality.past_right.Goals as goal

pub returns-in-Some-clause-fails : goal.returns-in-Some-clause-fails
returns-in-Some-clause-fails c =
    let attributes = HasRightAttribute c.args.program.now.functions c.args.program.now.ops in
    let same = at_root c.context-attributes.result.right attributes c.root.result c.args.tree.now c.root.ensures.root c.context-attributes.ensures.right in
    (c.in-Some.field, IsLeastCommon-of (has_field c.args.mover.now.sets.touched) c.context-attributes.result.right (attributes c.args.tree.now) c.in-Some.field same c.in-Some.ensures.some, refl)

pub returns-in-None-clause-passes : goal.returns-in-None-clause-passes
returns-in-None-clause-passes c =
    let attributes = HasRightAttribute c.args.program.now.functions c.args.program.now.ops in
    let same = at_root c.context-attributes.result.right attributes c.root.result c.args.tree.now c.root.ensures.root c.context-attributes.ensures.right in
    λ k ours theirs. c.in-None.ensures.none k ours ((same k).1 theirs)
