-- The inputs that operators are called for, and the fields in which their outputs may have values.
use Rattle.std.specs.Prelude.{◌≡◌, ◌⊎◌, ℕ, List}
use Rattle.std.specs.List.{AllByRecursion}
use Rattle.pact_record.specs.Widths.{AreWide}
use Rattle.tac_syntax.specs.declared.functions.Kind.{Kind}
use Rattle.tac_syntax.specs.declared.functions.Kind.TheVariants as kinds
use Rattle.tac_syntax.specs.Bounded.{InputHasValue}
use Rattle.tac_syntax.specs.Call.{CallInput, of_record, of_pair, of_group, of_groups}
use Rattle.tac_syntax.specs.CallInputs.{HasSome, IsInputOf}
use Rattle.tac_syntax.specs.Contexts.{Ports}
use Rattle.tac_syntax.specs.Forms.{AreKeyed, IsWithin, left_records, right_records}
use Rattle.tac_syntax.specs.Valid.{WithFields}
use Rattle.tac_syntax.specs.declared.declarations.OpKind.{OpKind}
use Rattle.tac_syntax.specs.declared.declarations.OpKind.TheVariants.{Source, Reduce, Match, Cross, CoGroup}
use Rattle.pact_operators.specs.declared.operators.Op.{Op}
use Rattle.pact_operators.specs.Allowed.{Bag}
use Rattle.pact_operators.specs.PlanOps.{PlanOps}
use Rattle.pact_operators.specs.Programs.{Owns}

-- what the operator of a number emits for an input
abbrev pub called : PlanOps → ℕ → CallInput → Bag
called o n (of_record row) = o.of_record n row
called o n (of_pair left right) = o.of_pair n left right
called o n (of_group key group) = o.of_group n key group
called o n (of_groups key left right) = o.of_groups n key left right

-- the kind of function that an operator calls; a source calls none
abbrev pub function_kind : OpKind → Kind
function_kind Reduce = kinds.Reduce
function_kind Match = kinds.Match
function_kind Cross = kinds.Cross
function_kind CoGroup = kinds.CoGroup
function_kind kind = kinds.Map

-- a context without fields, only with these keys
abbrev pub keyed_by : List ℕ → List ℕ → Ports
keyed_by left_keys right_keys = record { left = λ k. ⊥; right = λ k. ⊥; left_keys = left_keys; right_keys = right_keys }

-- an input that an operator of these keys is called for
pub record IsCallOf (kind : OpKind) (left_keys right_keys : List ℕ) (x : CallInput) : Type 0 where
  pub operator : kind ≡ Source → ⊥
  pub called : IsInputOf (function_kind kind) x
  pub some : HasSome x
  pub keyed : AreKeyed (keyed_by left_keys right_keys) x

-- A source's rows are Null outside its own fields. What a call emits is Null outside the operator's own fields and
-- those in which its input has a value.
pub record AreOpsOf (fields : ℕ) (valids : List WithFields) (ops : List Op) (o : PlanOps) : Type 0 where
  pub rows : (n : ℕ) → o.kind n ≡ Source → AllByRecursion (IsWithin fields (Owns valids ops n)) (o.rows n)
  pub calls : (n : ℕ) (x : CallInput) → IsCallOf (o.kind n) (o.left_keys n) (o.right_keys n) x → AreWide fields (left_records x) → AreWide fields (right_records x)
      → AllByRecursion (IsWithin fields (λ k. InputHasValue k x ⊎ Owns valids ops n k)) (called o n x)
