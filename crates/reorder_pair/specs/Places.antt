-- Where a rule has a place, and the findings about the two operators there.
use Rattle.std.specs.Prelude.{◌≡◌, ◌↔◌, ◌⊎◌, ℕ, true, Some, slice_get}
use Rattle.pact_record.specs.FieldSets.{has_field}
use Rattle.tac_syntax.specs.declared.contexts.Context.{Context}
use Rattle.tac_syntax.specs.declared.declarations.OpKind.TheVariants.{Source}
use Rattle.tac_syntax.specs.Contexts.{Has, IsContextOf}
use Rattle.tac_syntax.specs.EmitBounds.{least_emits, most_emits}
use Rattle.tac_syntax.specs.Valid.{WithFields}
use Rattle.tac_flow.specs.Results.{IsTouched}
use Rattle.tac_flow.specs.Views.{found_of, sets_in}
use Rattle.plan_trees.specs.Plans.{PlanTree, has, root_of, subtree_of}
use Rattle.plan_trees.specs.Shapes.{HasShape}
use Rattle.pact_operators.specs.PlanOps.{function_in, kind_at, left_keys_in, right_keys_in}
use Rattle.pact_operators.specs.Programs.{HasLeftAttribute, HasRightAttribute, ProgramData}
use Rattle.reorder_pair.specs.declared.finding.Found.{Found}
use Rattle.reorder_pair.specs.declared.finding.Neighbours.{Neighbours}
use Rattle.reorder_pair.specs.declared.rules.Rule.{Rule}
use Rattle.reorder_pair.specs.Rules.{Plays, exchange_of, exchanged_by}

-- The operator's tree has the rule's shape, and the operator and the one below it have the rule's kinds.
pub record IsPlace (p : ProgramData) (plan : PlanTree) (at : ℕ) (rule : Rule) : Type 0 where
  pub node : has at plan ≡ true
  pub shape : HasShape (exchange_of rule).shape (subtree_of at plan)
  pub upper : Plays (exchange_of rule).upper (kind_at p.ops at)
  pub lower : Plays (exchange_of rule).lower (kind_at p.ops (root_of (exchanged_by rule (subtree_of at plan))))

-- ---- findings

-- the context of an operator: what its inputs may hold in one tree or the other, and its keys
pub record IsUnionOf (p : ProgramData) (n : ℕ) (before after : PlanTree) (c : Context) : Type 0 where
  pub left : (k : ℕ) → Has (has_field c.left) k ↔ (HasLeftAttribute p.functions p.ops (subtree_of n before) k ⊎ HasLeftAttribute p.functions p.ops (subtree_of n after) k)
  pub right : (k : ℕ) → Has (has_field c.right) k ↔ (HasRightAttribute p.functions p.ops (subtree_of n before) k ⊎ HasRightAttribute p.functions p.ops (subtree_of n after) k)
  pub left_keys : c.left_keys ≡ left_keys_in (slice_get p.ops n)
  pub right_keys : c.right_keys ≡ right_keys_in (slice_get p.ops n)

-- the sets of an operator's function in a context, and its bounds
pub record IsFoundFor (p : ProgramData) (n : ℕ) (context : Context) (s : Found) : Type 0 where
  pub called : WithFields
  pub function : slice_get p.functions (function_in (slice_get p.ops n)) ≡ Some called
  pub sets : found_of s.sets ≡ sets_in called context
  pub touched : (k : ℕ) → Has (has_field s.sets.touched) k ↔ IsTouched (found_of s.sets) called.fields called.function.body k
  pub least : s.lo ≡ least_emits called.function.body
  pub most : s.hi ≡ most_emits called.function.body

-- the findings in the context of what its inputs may hold in one tree or the other
pub record IsFound (p : ProgramData) (n : ℕ) (before after : PlanTree) (s : Found) : Type 0 where
  pub context : Context
  pub union : IsUnionOf p n before after context
  pub found : IsFoundFor p n context s

-- The findings about the two operators of an exchange at the root: the upper one is the root before it, the lower one
-- the root after it.
pub record AreFound (p : ProgramData) (before after : PlanTree) (upper lower : Found) : Type 0 where
  pub of_upper : IsFound p (root_of before) before after upper
  pub of_lower : IsFound p (root_of after) before after lower

-- ---- the two operators there

-- the operator calls a function, and the context has only fields of the program
pub record IsOperatorIn (p : ProgramData) (n : ℕ) (c : Context) : Type 0 where
  pub operator : kind_at p.ops n ≡ Source → ⊥
  pub fields : IsContextOf p.fields c

-- The rule has a place there. These are the numbers of the upper and the lower operator, and what the inputs of each
-- may hold before the exchange or after it.
pub record AreNeighbours (p : ProgramData) (plan : PlanTree) (at : ℕ) (rule : Rule) (n : Neighbours) : Type 0 where
  pub place : IsPlace p plan at rule
  pub upper : n.upper ≡ root_of (subtree_of at plan)
  pub lower : n.lower ≡ root_of (exchanged_by rule (subtree_of at plan))
  pub upper_context : IsUnionOf p n.upper (subtree_of at plan) (exchanged_by rule (subtree_of at plan)) n.upper_context
  pub lower_context : IsUnionOf p n.lower (subtree_of at plan) (exchanged_by rule (subtree_of at plan)) n.lower_context
  pub upper_operator : IsOperatorIn p n.upper n.upper_context
  pub lower_operator : IsOperatorIn p n.lower n.lower_context
