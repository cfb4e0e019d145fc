-- What the sources and operators of a plan do, by their numbers.
use Rattle.std.specs.Prelude.{ℕ, Bool, true, false, List, [], Option, Some, None, filter, get_or, length, slice_get, take}
use Rattle.pact_record.specs.declared.values.Value.{Value}
use Rattle.tac_syntax.specs.declared.declarations.OpKind.{OpKind}
use Rattle.tac_syntax.specs.declared.declarations.OpKind.TheVariants.{Source}
use Rattle.pact_operators.specs.declared.operators.Op.{Op}
use Rattle.pact_operators.specs.Programs.{ProgramData, body_of, nulls_match}
use Rattle.tac_syntax.specs.Code.{Code}
use Rattle.tac_syntax.specs.Call.{of_record, of_pair, of_group, of_groups, Out}

-- Whether Nulls match in the keys of a Match. The rest is by number: the kind; a source's rows; what one call emits for
-- a record, for a pair, for the key values and the records of a group, and for the key values and the groups of both
-- sides; and the key fields of both sides.
pub record PlanOps : Type 0 where
  pub nulls : Bool
  pub kind : ℕ → OpKind
  pub rows : ℕ → List (List Value)
  pub of_record : ℕ → List Value → List (List Value)
  pub of_pair : ℕ → List Value → List Value → List (List Value)
  pub of_group : ℕ → List Value → List (List Value) → List (List Value)
  pub of_groups : ℕ → List Value → List (List Value) → List (List Value) → List (List Value)
  pub left_keys : ℕ → List ℕ
  pub right_keys : ℕ → List ℕ

-- ---- of a program

abbrev pub kind_in : Option Op → OpKind
kind_in None = Source
kind_in (Some op) = op.kind

abbrev pub function_in : Option Op → ℕ
function_in None = 0
function_in (Some op) = op.function

abbrev pub left_keys_in : Option Op → List ℕ
left_keys_in None = []
left_keys_in (Some op) = op.left_keys

abbrev pub right_keys_in : Option Op → List ℕ
right_keys_in None = []
right_keys_in (Some op) = op.right_keys

abbrev pub kind_at : List Op → ℕ → OpKind
kind_at ops n = kind_in (slice_get ops n)

-- the body that the operator of this number calls
abbrev pub body_at : ProgramData → ℕ → Code
body_at p n = body_of p.functions (function_in (slice_get p.ops n))

abbrev pub is_source_kind : OpKind → Bool
is_source_kind Source = true
is_source_kind kind = false

-- the sources, in the order of their numbers
abbrev pub sources_of : List Op → List Op
sources_of ops = filter (λ op. is_source_kind op.kind) ops

-- the place of a source among the sources, by its number
abbrev pub source_place : List Op → ℕ → ℕ
source_place ops n = length (sources_of (take n ops))

-- over the rows of each source, in the order of the sources' numbers
abbrev pub plan_ops : ProgramData → List (List (List Value)) → PlanOps
plan_ops p inputs = record {
  nulls = nulls_match p;
  kind = λ n. kind_at p.ops n;
  rows = λ n. get_or inputs (source_place p.ops n) [];
  of_record = λ n row. Out p.fields (body_at p n) (of_record row);
  of_pair = λ n left right. Out p.fields (body_at p n) (of_pair left right);
  of_group = λ n key group. Out p.fields (body_at p n) (of_group key group);
  of_groups = λ n key left right. Out p.fields (body_at p n) (of_groups key left right);
  left_keys = λ n. left_keys_in (slice_get p.ops n);
  right_keys = λ n. right_keys_in (slice_get p.ops n);
}
