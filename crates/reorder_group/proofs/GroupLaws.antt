-- Permitted exchanges past groups keep what plans allow, in both directions: a Map past a Reduce, and past either side of a CoGroup.
use Rattle.std.proofs.Common.{ℕ, List}
use Rattle.tac_syntax.specs.Valid.{WithFields}
use Rattle.plan_trees.specs.Plans.{PlanTree, over, both}
use Rattle.pact_operators.specs.declared.operators.Op.{Op}
use Rattle.pact_operators.specs.Allowed.{AllowSame}
use Rattle.pact_operators.specs.PlanOps.{PlanOps}
use Rattle.pact_operators.specs.SoundOps.{AreOpsOf}
use Rattle.reorder_pair.proofs.PairLaws.{ShareNone}
use Rattle.reorder_group.proofs.MapsPastCoGroups.{map_cogroup_left, map_cogroup_left_up, map_cogroup_right, map_cogroup_right_up}
use Rattle.reorder_group.proofs.MapsPastReduces.{map_reduce, map_reduce_up}
use Rattle.reorder_group.proofs.PermittedGroups.{PermitsCoGroupLeft, PermitsCoGroupRight, PermitsReduce}

module _ (fields : ℕ) (v : List WithFields) (ops : List Op) (o : PlanOps) (good : AreOpsOf fields v ops o) (f g : ℕ) where
  pub reduce_same : (t : PlanTree) → PermitsReduce fields v ops o f g t → AllowSame o (over f (over g t)) (over g (over f t))
  reduce_same t x bag = (map_reduce fields v ops o good f g t x bag, map_reduce_up fields v ops o good f g t x bag)

  pub cogroup_left_same : (t u : PlanTree) → PermitsCoGroupLeft fields v ops o f g t u → ShareNone fields v ops o good t u → AllowSame o (over f (both g t u)) (both g (over f t) u)
  cogroup_left_same t u x apart bag = (map_cogroup_left fields v ops o good f g t u x apart bag, map_cogroup_left_up fields v ops o good f g t u x apart bag)

  pub cogroup_right_same : (t u : PlanTree) → PermitsCoGroupRight fields v ops o f g t u → ShareNone fields v ops o good t u → AllowSame o (over f (both g t u)) (both g t (over f u))
  cogroup_right_same t u x apart bag = (map_cogroup_right fields v ops o good f g t u x apart bag, map_cogroup_right_up fields v ops o good f g t u x apart bag)
