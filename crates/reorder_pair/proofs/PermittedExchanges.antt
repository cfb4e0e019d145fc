-- What permits an exchange: the sets found for the two operators have no conflict, and an operator that moves past a
-- side touches none of its fields.
use Rattle.std.proofs.Common.{◌≡◌, ◌⊎◌, inl, inr, ℕ, false, List}
use Rattle.std.specs.List.{AllByRecursion}
use Rattle.tac_syntax.specs.declared.contexts.Side.{Side}
use Rattle.tac_syntax.specs.declared.contexts.Side.TheVariants.{Left as on_left}
use Rattle.tac_syntax.specs.Contexts.{FieldSet, Has, Ports}
use Rattle.tac_syntax.specs.Forms.{HasForm}
use Rattle.tac_syntax.specs.Valid.{WithFields}
use Rattle.tac_syntax.specs.declared.declarations.OpKind.{OpKind}
use Rattle.tac_syntax.specs.declared.declarations.OpKind.TheVariants.{Map, Match, Cross}
use Rattle.plan_trees.specs.Plans.{PlanTree, over, both}
use Rattle.pact_operators.specs.declared.operators.Op.{Op}
use Rattle.pact_operators.specs.PlanOps.{PlanOps}
use Rattle.pact_operators.specs.Programs.{HasAttribute, HasLeftAttribute, HasRightAttribute, Owns}
use Rattle.pact_operators.specs.SoundOps.{called, function_kind}

-- the union of the contexts of one operator at the roots of two trees
abbrev pub joint : List WithFields → List Op → PlanOps → ℕ → PlanTree → PlanTree → Ports
joint v ops o n before now = record {
  left = λ k. HasLeftAttribute v ops before k ⊎ HasLeftAttribute v ops now k;
  right = λ k. HasRightAttribute v ops before k ⊎ HasRightAttribute v ops now k;
  left_keys = o.left_keys n;
  right_keys = o.right_keys n;
}

-- ---- findings

-- the fields that an operator reads, writes and touches
pub record UsedFields : Type 0 where
  pub reads : FieldSet
  pub writes : FieldSet
  pub touched : FieldSet

abbrev pub IsUsed : UsedFields → ℕ → Type 0
IsUsed s k = Has s.reads k ⊎ Has s.writes k

abbrev pub Inside : FieldSet → FieldSet → Type 0
Inside s t = (k : ℕ) → Has s k → Has t k

-- the sets of an operator in a context, anchored on a side
pub record AreSetsOf (fields : ℕ) (valids : List WithFields) (ops : List Op) (o : PlanOps) (n : ℕ) (c : Ports) (side : Side) (s : UsedFields) : Type 0 where
  pub form : HasForm (function_kind (o.kind n)) fields c s.reads s.writes side (called o n)
  pub left_keys : AllByRecursion (Has s.reads) (o.left_keys n)
  pub right_keys : AllByRecursion (Has s.reads) (o.right_keys n)
  pub reads : Inside s.reads s.touched
  pub writes : Inside s.writes s.touched
  pub owned : (k : ℕ) → Owns valids ops n k → Has s.touched k

pub used_touched : {fields : ℕ} {valids : List WithFields} {ops : List Op} {o : PlanOps} {n : ℕ} {c : Ports} {side : Side} {s : UsedFields} → AreSetsOf fields valids ops o n c side s → (k : ℕ) → IsUsed s k → Has s.touched k
used_touched h k (inl read) = h.reads k read
used_touched h k (inr written) = h.writes k written

-- ---- conditions

abbrev pub DontMeet : FieldSet → FieldSet → Type 0
DontMeet s t = (k : ℕ) → Has s k → t k ≡ false

pub record NoConflict (upper lower : UsedFields) : Type 0 where
  pub read_write : DontMeet upper.reads lower.writes
  pub write_read : DontMeet upper.writes lower.reads
  pub write_write : DontMeet upper.writes lower.writes

-- no field of the set is an attribute of the tree
abbrev pub AvoidsTree : List WithFields → List Op → FieldSet → PlanTree → Type 0
AvoidsTree v ops touched t = (k : ℕ) → Has touched k → HasAttribute v ops t k → ⊥

-- the sets of both operators, each in the union of its contexts before and after; they don't conflict
pub record AreFound (fields : ℕ) (v : List WithFields) (ops : List Op) (o : PlanOps) (f : ℕ) (f_before f_now : PlanTree) (g : ℕ) (g_before g_now : PlanTree) (side : Side) (upper lower : UsedFields) : Type 0 where
  pub upper_sets : AreSetsOf fields v ops o f (joint v ops o f f_before f_now) side upper
  pub lower_sets : AreSetsOf fields v ops o g (joint v ops o g g_before g_now) side lower
  pub no_conflict : NoConflict upper lower

-- ---- the four shapes without groups

abbrev pub IsPair : OpKind → Type 0
IsPair kind = (kind ≡ Match) ⊎ (kind ≡ Cross)

-- Map f over Map g, and g over f
pub record PermitsMaps (fields : ℕ) (v : List WithFields) (ops : List Op) (o : PlanOps) (f g : ℕ) (t : PlanTree) : Type 0 where
  pub upper_kind : o.kind f ≡ Map
  pub lower_kind : o.kind g ≡ Map
  pub upper : UsedFields
  pub lower : UsedFields
  pub found : AreFound fields v ops o f (over f (over g t)) (over f t) g (over g t) (over g (over f t)) on_left upper lower

-- Map f over pair g(t, u), and g(f(t), u)
pub record PermitsLeft (fields : ℕ) (v : List WithFields) (ops : List Op) (o : PlanOps) (f g : ℕ) (t u : PlanTree) : Type 0 where
  pub upper_kind : o.kind f ≡ Map
  pub lower_kind : IsPair (o.kind g)
  pub upper : UsedFields
  pub lower : UsedFields
  pub found : AreFound fields v ops o f (over f (both g t u)) (over f t) g (both g t u) (both g (over f t) u) on_left upper lower
  pub side : AvoidsTree v ops upper.touched u

-- Map f over pair g(t, u), and g(t, f(u))
pub record PermitsRight (fields : ℕ) (v : List WithFields) (ops : List Op) (o : PlanOps) (f g : ℕ) (t u : PlanTree) : Type 0 where
  pub upper_kind : o.kind f ≡ Map
  pub lower_kind : IsPair (o.kind g)
  pub upper : UsedFields
  pub lower : UsedFields
  pub found : AreFound fields v ops o f (over f (both g t u)) (over f u) g (both g t u) (both g t (over f u)) on_left upper lower
  pub side : AvoidsTree v ops upper.touched t

-- pair h(g(t, u), w), and g(t, h(u, w))
pub record PermitsRotate (fields : ℕ) (v : List WithFields) (ops : List Op) (o : PlanOps) (h g : ℕ) (t u w : PlanTree) : Type 0 where
  pub upper_kind : IsPair (o.kind h)
  pub lower_kind : IsPair (o.kind g)
  pub upper : UsedFields
  pub lower : UsedFields
  pub found : AreFound fields v ops o h (both h (both g t u) w) (both h u w) g (both g t u) (both g t (both h u w)) on_left upper lower
  pub side : AvoidsTree v ops upper.touched t
  pub other_side : AvoidsTree v ops lower.touched w
