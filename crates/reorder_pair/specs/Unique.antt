-- Trees in which no two records have the same key values, as far as the sets and bounds of their operators show.
use Rattle.std.specs.Prelude.{◌≤◌, ℕ, List, slice_get}
use Rattle.pact_record.specs.FieldSets.{has_field}
use Rattle.pact_record.specs.Keys.{is_listed}
use Rattle.tac_syntax.specs.declared.declarations.OpKind.{OpKind}
use Rattle.tac_syntax.specs.declared.declarations.OpKind.TheVariants.{Map, Reduce}
use Rattle.tac_syntax.specs.Contexts.{FieldSet, Has}
use Rattle.plan_trees.specs.Plans.{PlanTree, over, subtree_of}
use Rattle.pact_operators.specs.PlanOps.{kind_at, left_keys_in}
use Rattle.pact_operators.specs.Programs.{ProgramData}
use Rattle.reorder_pair.specs.declared.finding.Found.{Found}
use Rattle.reorder_pair.specs.Places.{IsFound}

-- all of these fields are among the others
abbrev pub AreAmong : List ℕ → List ℕ → Type 0
AreAmong fields others = (k : ℕ) → Has (is_listed fields) k → Has (is_listed others) k

-- none of these fields is in the set
abbrev pub AreNoneOf : List ℕ → FieldSet → Type 0
AreNoneOf fields set = (k : ℕ) → Has (is_listed fields) k → Has set k → ⊥

-- The output of an operator of the kind has each value of the key fields at most once. This holds for a Reduce that
-- emits at most one record for each group, with the group's own key. It also holds for a Map that emits at most one
-- record for each and writes no key field, over an input that has each value at most once. `own` are the Reduce's keys.
abbrev pub GivesEachOnce : OpKind → (own keys : List ℕ) → Found → (below : Type 0) → Type 0
GivesEachOnce Reduce own keys s below = (s.hi ≤ 1) × AreAmong own keys × AreNoneOf own (has_field s.sets.writes)
GivesEachOnce Map own keys s below = (s.hi ≤ 1) × AreNoneOf keys (has_field s.sets.writes) × below
GivesEachOnce kind own keys s below = ⊥

-- by the findings about each operator in the context that it has in the tree
abbrev pub IsUniqueTree : ProgramData → List ℕ → PlanTree → Type 0
IsUniqueTree p keys (over n t) =
    (s : Found) × IsFound p n (over n t) (over n t) s × GivesEachOnce (kind_at p.ops n) (left_keys_in (slice_get p.ops n)) keys s (IsUniqueTree p keys t)
IsUniqueTree p keys tree = ⊥

-- for the tree at an operator of a plan
abbrev pub IsUnique : ProgramData → PlanTree → ℕ → List ℕ → Type 0
IsUnique p plan at keys = IsUniqueTree p keys (subtree_of at plan)
