-- Permitted exchanges without groups keep what plans allow, in both directions: Maps, a Map past a side of a pair operator, and pair operators.
use Rattle.std.proofs.Common.{ℕ, List}
use Rattle.tac_syntax.specs.Forms.{AreApart}
use Rattle.tac_syntax.specs.Valid.{WithFields}
use Rattle.plan_trees.specs.Plans.{PlanTree, over, both}
use Rattle.pact_operators.specs.declared.operators.Op.{Op}
use Rattle.pact_operators.specs.Allowed.{AllowSame}
use Rattle.pact_operators.specs.PlanOps.{PlanOps}
use Rattle.pact_operators.specs.Programs.{HasAttribute}
use Rattle.pact_operators.specs.SoundOps.{AreOpsOf}
use Rattle.reorder_pair.proofs.MapsPastMaps.{map_map, map_map_back}
use Rattle.reorder_pair.proofs.MapsPastSides.{map_left, map_left_up, map_right, map_right_up}
use Rattle.reorder_pair.proofs.PermittedExchanges.{PermitsLeft, PermitsMaps, PermitsRight, PermitsRotate}
use Rattle.reorder_pair.proofs.Rotations.{rotate, rotate_up}

module _ (fields : ℕ) (v : List WithFields) (ops : List Op) (o : PlanOps) (good : AreOpsOf fields v ops o) where
  -- the two trees have no common attribute
  abbrev pub ShareNone : PlanTree → PlanTree → Type 0
  ShareNone t u = AreApart (HasAttribute v ops t) (HasAttribute v ops u)

  pub maps_same : (f g : ℕ) (t : PlanTree) → PermitsMaps fields v ops o f g t → AllowSame o (over f (over g t)) (over g (over f t))
  maps_same f g t x bag = (map_map fields v ops o good f g t x bag, map_map_back fields v ops o good f g t x bag)

  pub left_same : (f g : ℕ) (t u : PlanTree) → PermitsLeft fields v ops o f g t u → ShareNone t u → AllowSame o (over f (both g t u)) (both g (over f t) u)
  left_same f g t u x apart bag = (map_left fields v ops o good f g t u x apart bag, map_left_up fields v ops o good f g t u x apart bag)

  pub right_same : (f g : ℕ) (t u : PlanTree) → PermitsRight fields v ops o f g t u → ShareNone t u → AllowSame o (over f (both g t u)) (both g t (over f u))
  right_same f g t u x apart bag = (map_right fields v ops o good f g t u x apart bag, map_right_up fields v ops o good f g t u x apart bag)

  pub rotate_same : (h g : ℕ) (t u w : PlanTree) → PermitsRotate fields v ops o h g t u w → ShareNone t u → ShareNone t w → ShareNone u w → AllowSame o (both h (both g t u) w) (both g t (both h u w))
  rotate_same h g t u w x first outer inner bag = (rotate fields v ops o good h g t u w x first outer inner bag, rotate_up fields v ops o good h g t u w x first outer inner bag)
