-- A program with an operator inserted on an edge of a plan, and one in which an operator calls another function.
use Rattle.std.specs.List.{AllByRecursion}
use Rattle.std.specs.Prelude.{◌≡◌, ◌≢◌, ◌<◌, ◌≤◌, ◌+◌, ◌⊎◌, ℕ, zero, suc, List, [], ◌∷◌, ◌++◌, Some, decimal, length, slice_get, true}
use Rattle.plan_trees.specs.Plans.{PlanTree, root_of, subtree_of, has}
use Rattle.tac_syntax.specs.Bounded.{Names}
use Rattle.tac_syntax.specs.Valid.{WithFields}
use Rattle.tac_syntax.specs.declared.declarations.OpKind.{OpKind}
use Rattle.tac_syntax.specs.declared.declarations.OpKind.TheVariants.{Source, Map, Reduce}
use Rattle.pact_operators.specs.declared.operators.Op.{Op}
use Rattle.pact_operators.specs.Programs.{ProgramData, HasAttribute, HasKeyLists, IsKindFor, IsPlanOf, function_limit, is_operator_kind, operator_limit, times_of_kind}

-- A Map or a Reduce to insert: its name is its number, which no program text can declare, and parts that its kind
-- doesn't have are empty.
abbrev pub inserted_op : (number function : ℕ) → OpKind → (keys : List ℕ) → Op
inserted_op number function kind keys = record { name = decimal number; kind = kind; function = function; left_keys = keys; right_keys = []; file = []; columns = [] }

-- the operator of a number calls that function
abbrev pub calling : (at function : ℕ) → List Op → List Op
calling at function [] = []
calling zero function (op ∷ ops) = record op { function = function } ∷ ops
calling (suc n) function (op ∷ ops) = op ∷ calling n function ops

-- The function and the operator come last, and the operator calls the function.
abbrev pub inserted_into : ProgramData → Op → WithFields → PlanTree → ProgramData
inserted_into p op f plan = record {
  version = p.version;
  fields = p.fields;
  functions = p.functions ++ f ∷ [];
  ops = p.ops ++ record op { function = length p.functions } ∷ [];
  plan = plan;
  sink = p.sink;
}

-- The function comes last, and the operator of the number calls it.
abbrev pub replaced_in : ProgramData → ℕ → WithFields → ProgramData
replaced_in p at f = record {
  version = p.version;
  fields = p.fields;
  functions = p.functions ++ f ∷ [];
  ops = calling at (length p.functions) p.ops;
  plan = p.plan;
  sink = p.sink;
}

-- There is room for one more operator and this many more functions.
abbrev pub HasRoomFor : ProgramData → ℕ → Type 0
HasRoomFor p functions = (times_of_kind is_operator_kind p.ops < operator_limit) × (length p.functions + functions ≤ function_limit)

-- The operator may be inserted on the edge from a number of a plan of the program, and may call the function.
pub record CanInsert (p : ProgramData) (tree : PlanTree) (below : ℕ) (op : Op) (f : WithFields) : Type 0 where
  pub plan : IsPlanOf p.functions p.ops tree
  pub there : has below tree ≡ true
  pub not_root : root_of tree ≢ below
  pub kind : (op.kind ≡ Map) ⊎ (op.kind ≡ Reduce)
  pub called : IsKindFor op.kind f.function.kind
  pub keys : HasKeyLists op.kind f.function.keys op.left_keys op.right_keys
  pub no_columns : op.columns ≡ []
  pub fields : f.fields ≡ p.fields
  pub keys_inside : AllByRecursion (HasAttribute p.functions p.ops (subtree_of below tree)) op.left_keys
  pub named_inside : (k : ℕ) → Names p.fields k f.function.body → HasAttribute p.functions p.ops (subtree_of below tree) k
  pub room : times_of_kind is_operator_kind p.ops < operator_limit
  pub function_room : length p.functions < function_limit

-- The operator of the number may call this function instead of its own.
pub record CanReplace (p : ProgramData) (at : ℕ) (f : WithFields) : Type 0 where
  pub op : Op
  pub found : slice_get p.ops at ≡ Some op
  pub operator : op.kind ≡ Source → ⊥
  pub old : WithFields
  pub function : slice_get p.functions op.function ≡ Some old
  pub kind : f.function.kind ≡ old.function.kind
  pub keys : f.function.keys ≡ old.function.keys
  pub fields : f.fields ≡ p.fields
  pub named : (k : ℕ) → Names p.fields k f.function.body → Names p.fields k old.function.body
  pub function_room : length p.functions < function_limit
