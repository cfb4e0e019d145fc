-- The fields that are needed of the records of each source and operator of a plan. Of the root's records the sink's
-- fields are needed. Of all others those fields are needed that the consumer reads, or copies because they are needed
-- above it. Only attributes of the input count.
use Rattle.std.specs.Prelude.{◌≡◌, ◌==◌, ◌&&◌, ◌||◌, not, true, ℕ, if◌then◌else◌}
use Rattle.pact_record.specs.Keys.{is_listed}
use Rattle.tac_syntax.specs.Contexts.{FieldSet}
use Rattle.tac_flow.specs.Results.{FoundSets}
use Rattle.plan_trees.specs.Plans.{PlanTree, leaf, over, both, has, root_of}
use Rattle.pact_operators.specs.Programs.{ProgramData}
use Rattle.ship_strategy.specs.PlanFacts.{attribute, left_attribute, right_attribute, sets_at}

-- the fields that an operator wants of its inputs if `above` is needed of its own records: those that it reads, and
-- those that it copies
abbrev pub wanted : (reads writes above : FieldSet) → FieldSet
wanted reads writes above k = reads k || (above k && not (writes k))

-- the fields of a set that are attributes of one input
abbrev pub within : FieldSet → FieldSet → FieldSet
within set attributes k = set k && attributes k

-- the sets found for a tree's root
abbrev pub root_sets : ProgramData → PlanTree → FoundSets
root_sets p t = sets_at p (root_of t) (left_attribute p t) (right_attribute p t)

-- the fields that a tree's root wants of its inputs
abbrev pub wants_of : ProgramData → PlanTree → FieldSet → FieldSet
wants_of p t above = wanted (root_sets p t).reads (root_sets p t).writes above

-- the needed fields by number, if `above` is needed of the root's records
abbrev pub needs_from : ProgramData → FieldSet → PlanTree → ℕ → FieldSet
needs_from p above (leaf n) at = above
needs_from p above (over n t) at = if at == n then above else needs_from p (within (wants_of p (over n t) above) (attribute p t)) t at
needs_from p above (both n t u) at =
    if at == n then above
    else (if has at t then needs_from p (within (wants_of p (both n t u) above) (attribute p t)) t at
    else needs_from p (within (wants_of p (both n t u) above) (attribute p u)) u at)

abbrev pub need : ProgramData → PlanTree → ℕ → FieldSet
need p tree at = needs_from p (is_listed p.sink) tree at

-- ---- all numbers, in one walk

-- the table with the needed fields of one more number
abbrev pub put : ℕ → FieldSet → (ℕ → FieldSet) → ℕ → FieldSet
put at set old k = if k == at then set else old k

-- the table after a walk over a tree, if `above` is needed of its root
abbrev pub entered : ProgramData → FieldSet → PlanTree → (ℕ → FieldSet) → ℕ → FieldSet
entered p above (leaf n) old = put n above old
entered p above (over n t) old = put n above (entered p (within (wants_of p (over n t) above) (attribute p t)) t old)
entered p above (both n t u) old =
    put n above
    (entered p (within (wants_of p (both n t u) above) (attribute p t)) t
    (entered p (within (wants_of p (both n t u) above) (attribute p u)) u old))

-- The table has the needed fields of each number of the plan.
abbrev pub AreNeedsOf : ProgramData → PlanTree → (ℕ → FieldSet) → Type 0
AreNeedsOf p tree needs = (n : ℕ) → has n tree ≡ true → needs n ≡ need p tree n
