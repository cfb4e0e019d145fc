-- The other side of the Match, past which a rule's Reduce moves.
use Rattle.std.specs.Prelude.{ℕ, List, [], slice_get}
use Rattle.plan_trees.specs.Plans.{PlanTree, root_of, subtree_of}
use Rattle.pact_operators.specs.PlanOps.{left_keys_in, right_keys_in}
use Rattle.pact_operators.specs.Programs.{ProgramData}
use Rattle.reorder_pair.specs.declared.rules.Rule.{Rule}
use Rattle.reorder_pair.specs.declared.rules.Rule.TheVariants.{ReduceMatchLeft, ReduceMatchLeftUp, ReduceMatchRight, ReduceMatchRightUp}
use Rattle.reorder_pair.specs.Conditions.{left_input, right_input}
use Rattle.reorder_pair.specs.Rules.{exchanged_by}
use Rattle.reorder_pair.specs.Unique.{IsUniqueTree}

-- the input there, of the trees before and after
abbrev pub other_input : Rule → PlanTree → PlanTree → PlanTree
other_input ReduceMatchLeft before after = right_input after
other_input ReduceMatchLeftUp before after = right_input before
other_input ReduceMatchRight before after = left_input after
other_input ReduceMatchRightUp before after = left_input before
other_input rule before after = before

-- the Match's keys there
abbrev pub other_keys : ProgramData → Rule → PlanTree → PlanTree → List ℕ
other_keys p ReduceMatchLeft before after = right_keys_in (slice_get p.ops (root_of after))
other_keys p ReduceMatchLeftUp before after = right_keys_in (slice_get p.ops (root_of before))
other_keys p ReduceMatchRight before after = left_keys_in (slice_get p.ops (root_of after))
other_keys p ReduceMatchRightUp before after = left_keys_in (slice_get p.ops (root_of before))
other_keys p rule before after = []

-- The other side is unique for these keys. This has a meaning only for the last four rules, and only if the rule has
-- its place there. For the other rules the input and the keys are fillers.
abbrev pub IsOtherUnique : ProgramData → PlanTree → ℕ → Rule → Type 0
IsOtherUnique p plan at rule =
    IsUniqueTree p (other_keys p rule (subtree_of at plan) (exchanged_by rule (subtree_of at plan))) (other_input rule (subtree_of at plan) (exchanged_by rule (subtree_of at plan)))
