-- What is known of the operators of a program in a plan.
use Rattle.std.specs.Prelude.{◌==◌, ◌||◌, ℕ, zero, suc, false, if◌then◌else◌, List, [], ◌∷◌, nat_lt, slice_get}
use Rattle.std.specs.List.{list_any}
use Rattle.pact_record.specs.declared.columns.Column.{Column}
use Rattle.tac_syntax.specs.Code.{Simple, set_field, set_at, Code, stop, plain, branch, again, each}
use Rattle.tac_syntax.specs.Contexts.{FieldSet}
use Rattle.tac_syntax.specs.declared.declarations.OpKind.{OpKind}
use Rattle.tac_syntax.specs.declared.declarations.OpKind.TheVariants.{Source}
use Rattle.tac_syntax.specs.Valid.{WithFields}
use Rattle.tac_flow.specs.Known.{no_fields}
use Rattle.tac_flow.specs.Results.{FoundSets, sets_of}
use Rattle.tac_flow.specs.Steps.{Scope}
use Rattle.plan_trees.specs.Plans.{PlanTree, leaf, over, both, root_of, has, subtree_of}
use Rattle.pact_operators.specs.declared.operators.Op.{Op}
use Rattle.pact_operators.specs.PlanOps.{body_at, kind_at, left_keys_in, right_keys_in}
use Rattle.pact_operators.specs.Programs.{ProgramData}
use Rattle.pact_operators.specs.SoundOps.{function_kind}
use Rattle.ship_strategy.specs.Facts.{NodeFacts, Facts}
use Rattle.ship_strategy.specs.Views.{unknown, put}

-- ---- attributes, as sets

-- the fields that a body sets; a statement that takes one from a register sets each below the number of fields
abbrev pub field_named : ℕ → Simple → FieldSet
field_named fields (set_field to field value) k = k == field
field_named fields (set_at to at value) k = nat_lt k fields
field_named fields statement k = false

abbrev pub named : ℕ → Code → FieldSet
named fields stop k = false
named fields (plain s next) k = field_named fields s k || named fields next k
named fields (branch on body other next) k = named fields body k || (named fields other k || named fields next k)
named fields (again count body next) k = named fields body k || named fields next k
named fields (each name list body next) k = named fields body k || named fields next k

-- the fields that a function sets, by its number
abbrev pub function_named : List WithFields → ℕ → FieldSet
function_named [] n k = false
function_named (v ∷ valids) zero k = named v.fields v.function.body k
function_named (v ∷ valids) (suc n) k = function_named valids n k

abbrev pub is_column : List Column → FieldSet
is_column columns k = list_any (λ c. k == c.field) columns

abbrev pub owned_by : OpKind → List WithFields → Op → FieldSet
owned_by Source valids op k = is_column op.columns k
owned_by kind valids op k = function_named valids op.function k

abbrev pub owned : List WithFields → List Op → ℕ → FieldSet
owned valids [] n k = false
owned valids (op ∷ ops) zero k = owned_by op.kind valids op k
owned valids (op ∷ ops) (suc n) k = owned valids ops n k

abbrev pub attribute : ProgramData → PlanTree → FieldSet
attribute p (leaf n) k = owned p.functions p.ops n k
attribute p (over n t) k = owned p.functions p.ops n k || attribute p t k
attribute p (both n t u) k = owned p.functions p.ops n k || (attribute p t k || attribute p u k)

-- the attributes of the inputs of a tree's root: its left or only one, and its right one
abbrev pub left_attribute : ProgramData → PlanTree → FieldSet
left_attribute p (leaf n) = no_fields
left_attribute p (over n t) = attribute p t
left_attribute p (both n t u) = attribute p t

abbrev pub right_attribute : ProgramData → PlanTree → FieldSet
right_attribute p (both n t u) = attribute p u
right_attribute p tree = no_fields

-- ---- facts

-- the scope of an operator's function whose inputs have values only in these fields
abbrev pub scope_at : ProgramData → ℕ → (left right : FieldSet) → Scope
scope_at p n left right = record {
  kind = function_kind (kind_at p.ops n);
  fields = p.fields;
  left = left;
  right = right;
  left_keys = left_keys_in (slice_get p.ops n);
  right_keys = right_keys_in (slice_get p.ops n);
}

abbrev pub no_sets : FoundSets
no_sets = record { reads = no_fields; writes = no_fields; control = no_fields; anchor_left = false; anchor_right = false }

-- a source has no function
abbrev pub unless_source : OpKind → FoundSets → FoundSets
unless_source Source s = no_sets
unless_source kind s = s

abbrev pub sets_at : ProgramData → ℕ → (left right : FieldSet) → FoundSets
sets_at p n left right = unless_source (kind_at p.ops n) (sets_of (scope_at p n left right) (body_at p n))

abbrev pub facts_for : ProgramData → ℕ → (left right : FieldSet) → NodeFacts
facts_for p n left right = record {
  kind = kind_at p.ops n;
  left_keys = left_keys_in (slice_get p.ops n);
  right_keys = right_keys_in (slice_get p.ops n);
  left = left;
  right = right;
  writes = (sets_at p n left right).writes;
  anchor_left = (sets_at p n left right).anchor_left;
  anchor_right = (sets_at p n left right).anchor_right;
}

-- the facts of a tree's root, with the attributes of its inputs
abbrev pub facts_at : ProgramData → PlanTree → NodeFacts
facts_at p t = facts_for p (root_of t) (left_attribute p t) (right_attribute p t)

-- the facts of each source and operator of a plan, by its number
abbrev pub facts_of : ProgramData → PlanTree → Facts
facts_of p t n = if has n t then facts_at p (subtree_of n t) else unknown

-- a table after a walk over the plan
abbrev pub filled : ProgramData → PlanTree → Facts → Facts
filled p (leaf n) old = put n (facts_at p (leaf n)) old
filled p (over n t) old = put n (facts_at p (over n t)) (filled p t old)
filled p (both n t u) old = put n (facts_at p (both n t u)) (filled p t (filled p u old))
