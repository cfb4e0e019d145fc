-- What permits an exchange of a Map and an operator that groups: the findings about the two, and that the Map keeps the
-- groups.
use Rattle.std.proofs.Common.{◌≡◌, ℕ, List}
use Rattle.pact_record.specs.Keys.{is_listed}
use Rattle.tac_syntax.specs.declared.contexts.Side.TheVariants.{Left as on_left, Right as on_right}
use Rattle.tac_syntax.specs.Forms.{KeepsGroups}
use Rattle.tac_syntax.specs.Valid.{WithFields}
use Rattle.tac_syntax.specs.declared.declarations.OpKind.TheVariants.{Map, Reduce, CoGroup}
use Rattle.plan_trees.specs.Plans.{PlanTree, over, both}
use Rattle.pact_operators.specs.declared.operators.Op.{Op}
use Rattle.pact_operators.specs.PlanOps.{PlanOps}
use Rattle.pact_operators.specs.SoundOps.{called}
use Rattle.reorder_pair.proofs.PermittedExchanges.{AreFound, AvoidsTree, UsedFields, joint}

-- Map f over Reduce g, and g over f
pub record PermitsReduce (fields : ℕ) (v : List WithFields) (ops : List Op) (o : PlanOps) (f g : ℕ) (t : PlanTree) : Type 0 where
  pub upper_kind : o.kind f ≡ Map
  pub lower_kind : o.kind g ≡ Reduce
  pub upper : UsedFields
  pub lower : UsedFields
  pub found : AreFound fields v ops o f (over f (over g t)) (over f t) g (over g t) (over g (over f t)) on_left upper lower
  pub keeps : KeepsGroups fields (joint v ops o f (over f (over g t)) (over f t)) (is_listed (o.left_keys g)) (called o f)

-- Map f over CoGroup g(t, u), which is anchored on the left, and g(f(t), u)
pub record PermitsCoGroupLeft (fields : ℕ) (v : List WithFields) (ops : List Op) (o : PlanOps) (f g : ℕ) (t u : PlanTree) : Type 0 where
  pub upper_kind : o.kind f ≡ Map
  pub lower_kind : o.kind g ≡ CoGroup
  pub upper : UsedFields
  pub lower : UsedFields
  pub found : AreFound fields v ops o f (over f (both g t u)) (over f t) g (both g t u) (both g (over f t) u) on_left upper lower
  pub side : AvoidsTree v ops upper.touched u
  pub keeps : KeepsGroups fields (joint v ops o f (over f (both g t u)) (over f t)) (is_listed (o.left_keys g)) (called o f)

-- Map f over CoGroup g(t, u), which is anchored on the right, and g(t, f(u))
pub record PermitsCoGroupRight (fields : ℕ) (v : List WithFields) (ops : List Op) (o : PlanOps) (f g : ℕ) (t u : PlanTree) : Type 0 where
  pub upper_kind : o.kind f ≡ Map
  pub lower_kind : o.kind g ≡ CoGroup
  pub upper : UsedFields
  pub lower : UsedFields
  pub found : AreFound fields v ops o f (over f (both g t u)) (over f u) g (both g t u) (both g t (over f u)) on_right upper lower
  pub side : AvoidsTree v ops upper.touched t
  pub keeps : KeepsGroups fields (joint v ops o f (over f (both g t u)) (over f u)) (is_listed (o.right_keys g)) (called o f)
