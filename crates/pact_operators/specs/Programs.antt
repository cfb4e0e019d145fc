-- Programs: what a text declares, with each name resolved to a number.
use Rattle.std.specs.Prelude.{◌≡◌, ◌==◌, ◌<◌, ◌≤◌, ◌⊎◌, ℕ, zero, suc, Bool, true, false, List, [], ◌∷◌, length, map, filter, flat_map, slice_get, Some, IsTrue}
use Rattle.std.specs.List.{AllByRecursion}
use Rattle.tac_syntax.specs.declared.functions.Kind.{Kind}
use Rattle.tac_syntax.specs.declared.functions.Kind.TheVariants as kinds
use Rattle.tac_syntax.specs.Bounded.{Names}
use Rattle.tac_syntax.specs.Code.{Code, stop}
use Rattle.tac_syntax.specs.Forms.{AreApart}
use Rattle.tac_syntax.specs.Names.{is_name}
use Rattle.tac_syntax.specs.Valid.{WithFields, IsValid}
use Rattle.pact_record.specs.declared.columns.Column.{Column}
use Rattle.pact_bag.specs.SourceRows.{IsColumnField}
use Rattle.tac_syntax.specs.declared.declarations.OpKind.{OpKind}
use Rattle.tac_syntax.specs.declared.declarations.OpKind.TheVariants.{Source, Map, Reduce, Match, Cross, CoGroup}
use Rattle.pact_operators.specs.declared.operators.Op.{Op}
use Rattle.plan_trees.specs.Distinct.{AreDifferent}
use Rattle.tac_syntax.specs.Drafts.{DraftData}
use Rattle.tac_syntax.specs.Versions.{IsVersion, field_limit}
use Rattle.plan_trees.specs.Plans.{PlanTree, leaf, over, both, root_of, nodes, has}
use Rattle.pact_operators.specs.Resolved.{Inputs, no_input, one_input, two_inputs, function_names, inputs_of, node_names, ops_of, place_among, sink_fields, sink_inputs}

-- The version of the language, the number of fields, the functions and the sources and operators in text order, the
-- plan as written, and the fields of the sink. If an operator was inserted, it and its function come last, and the plan
-- is the one that has it.
pub record ProgramData : Type 0 where
  pub version : ℕ
  pub fields : ℕ
  pub functions : List WithFields
  pub ops : List Op
  pub plan : PlanTree
  pub sink : List ℕ

-- no two sources or operators have the same name
abbrev pub NamesDiffer : List Op → Type 0
NamesDiffer ops = (m n : ℕ) (a b : Op) → slice_get ops m ≡ Some a → slice_get ops n ≡ Some b → a.name ≡ b.name → m ≡ n

-- each is named as a text names it
abbrev pub AreNames : List Op → Type 0
AreNames ops = (n : ℕ) (op : Op) → slice_get ops n ≡ Some op → IsTrue (is_name op.name)

-- ---- the plan as written

-- each node reads the inputs that it is declared with
abbrev pub Follows : List Inputs → PlanTree → Type 0
Follows inputs (leaf n) = slice_get inputs n ≡ Some no_input
Follows inputs (over n t) = (slice_get inputs n ≡ Some (one_input (root_of t))) × Follows inputs t
Follows inputs (both n t u) = (slice_get inputs n ≡ Some (two_inputs (root_of t) (root_of u))) × Follows inputs t × Follows inputs u

-- the tree of all sources and operators below the one that the sink names
pub record IsWrittenPlan (d : DraftData) (tree : PlanTree) : Type 0 where
  pub root : map (λ input. place_among input (node_names d.decls)) (sink_inputs d.decls) ≡ root_of tree ∷ []
  pub follows : Follows (inputs_of (node_names d.decls) d.decls) tree
  pub different : AreDifferent (nodes tree)
  pub all : (n : ℕ) → n < length (node_names d.decls) → has n tree ≡ true

-- The functions are those of the draft, each with the draft's number of fields and no rule broken.
pub record AreValidated (d : DraftData) (valids : List WithFields) : Type 0 where
  pub functions : map (λ v. v.function) valids ≡ d.functions
  pub fields : AllByRecursion (λ v. v.fields ≡ d.fields) valids
  pub valid : AllByRecursion (λ v. IsValid v.function v.fields) valids

-- In version 1 a Null in a key of a Match equals another one; from version 2 on it matches nothing.
abbrev pub nulls_match : ProgramData → Bool
nulls_match p = p.version == 1

-- the program that a draft declares
pub record IsProgramOf (d : DraftData) (valids : List WithFields) (p : ProgramData) : Type 0 where
  pub version : p.version ≡ d.version
  pub fields : p.fields ≡ d.fields
  pub functions : p.functions ≡ valids
  pub ops : p.ops ≡ ops_of (function_names d.functions) d.decls
  pub plan : IsWrittenPlan d p.plan
  pub sink : p.sink ≡ sink_fields d.decls

-- ---- attributes

-- the body of a function by its number
abbrev pub body_of : List WithFields → ℕ → Code
body_of [] n = stop
body_of (v ∷ valids) zero = v.function.body
body_of (v ∷ valids) (suc n) = body_of valids n

-- the function of a number sets the field
abbrev pub FunctionNames : List WithFields → ℕ → ℕ → Type 0
FunctionNames [] n k = ⊥
FunctionNames (v ∷ valids) zero k = Names v.fields k v.function.body
FunctionNames (v ∷ valids) (suc n) k = FunctionNames valids n k

-- a source owns its columns, an operator the fields that its function names in a `set`
abbrev pub OwnsBy : OpKind → List WithFields → Op → ℕ → Type 0
OwnsBy Source valids op k = IsColumnField k op.columns
OwnsBy kind valids op k = FunctionNames valids op.function k

abbrev pub Owns : List WithFields → List Op → ℕ → ℕ → Type 0
Owns valids [] n k = ⊥
Owns valids (op ∷ ops) zero k = OwnsBy op.kind valids op k
Owns valids (op ∷ ops) (suc n) k = Owns valids ops n k

-- the columns of all sources and the named fields of all functions in the tree
abbrev pub HasAttribute : List WithFields → List Op → PlanTree → ℕ → Type 0
HasAttribute valids ops (leaf n) k = Owns valids ops n k
HasAttribute valids ops (over n t) k = Owns valids ops n k ⊎ HasAttribute valids ops t k
HasAttribute valids ops (both n t u) k = Owns valids ops n k ⊎ HasAttribute valids ops t k ⊎ HasAttribute valids ops u k

-- the attributes of the inputs of a tree's root
abbrev pub HasLeftAttribute : List WithFields → List Op → PlanTree → ℕ → Type 0
HasLeftAttribute valids ops (leaf n) k = ⊥
HasLeftAttribute valids ops (over n t) k = HasAttribute valids ops t k
HasLeftAttribute valids ops (both n t u) k = HasAttribute valids ops t k

abbrev pub HasRightAttribute : List WithFields → List Op → PlanTree → ℕ → Type 0
HasRightAttribute valids ops (both n t u) k = HasAttribute valids ops u k
HasRightAttribute valids ops tree k = ⊥

-- ---- what holds for every program

-- a node has as many inputs as its kind takes
abbrev pub takes : OpKind → ℕ
takes Source = 0
takes Map = 1
takes Reduce = 1
takes Match = 2
takes Cross = 2
takes CoGroup = 2

abbrev pub Takes : List Op → ℕ → ℕ → Type 0
Takes ops n count = (op : Op) × (slice_get ops n ≡ Some op) × (takes op.kind ≡ count)

abbrev pub HasArity : List Op → PlanTree → Type 0
HasArity ops (leaf n) = Takes ops n 0
HasArity ops (over n t) = Takes ops n 1 × HasArity ops t
HasArity ops (both n t u) = Takes ops n 2 × HasArity ops t × HasArity ops u

-- the two sides of an operator share no attribute
abbrev pub AreSidesApart : List WithFields → List Op → PlanTree → Type 0
AreSidesApart valids ops (leaf n) = Unit {0}
AreSidesApart valids ops (over n t) = AreSidesApart valids ops t
AreSidesApart valids ops (both n t u) = AreApart (HasAttribute valids ops t) (HasAttribute valids ops u) × AreSidesApart valids ops t × AreSidesApart valids ops u

-- A plan is of a program if its nodes are the program's sources and operators, each once.
pub record IsPlanOf (valids : List WithFields) (ops : List Op) (tree : PlanTree) : Type 0 where
  pub different : AreDifferent (nodes tree)
  pub all : (n : ℕ) → n < length ops → has n tree ≡ true
  pub arity : HasArity ops tree
  pub apart : AreSidesApart valids ops tree

abbrev pub IsKindFor : OpKind → Kind → Type 0
IsKindFor Map kind = kind ≡ kinds.Map
IsKindFor Reduce kind = kind ≡ kinds.Reduce
IsKindFor Match kind = kind ≡ kinds.Match
IsKindFor Cross kind = kind ≡ kinds.Cross
IsKindFor CoGroup kind = kind ≡ kinds.CoGroup
IsKindFor operator kind = ⊥

-- a kind without keys on a side has an empty list there
abbrev pub HasKeyLists : OpKind → ℕ → List ℕ → List ℕ → Type 0
HasKeyLists Reduce keys left right = (length left ≡ keys) × (right ≡ [])
HasKeyLists Match keys left right = (1 ≤ length left) × (length left ≡ length right)
HasKeyLists CoGroup keys left right = (length left ≡ keys) × (length right ≡ keys)
HasKeyLists kind keys left right = (left ≡ []) × (right ≡ [])

-- an operator calls a function of its kind, and its keys are fields of the program
pub record IsOperatorOf (fields : ℕ) (valids : List WithFields) (op : Op) : Type 0 where
  pub called : WithFields
  pub function : slice_get valids op.function ≡ Some called
  pub kind : IsKindFor op.kind called.function.kind
  pub keys : HasKeyLists op.kind called.function.keys op.left_keys op.right_keys
  pub left_below : AllByRecursion (λ k. k < fields) op.left_keys
  pub right_below : AllByRecursion (λ k. k < fields) op.right_keys

abbrev pub IsOpOf : ℕ → List WithFields → Op → Type 0
IsOpOf fields valids op = (op.kind ≡ Source) ⊎ IsOperatorOf fields valids op

abbrev pub fields_of : List Column → List ℕ
fields_of columns = map (λ c. c.field) columns

-- the fields of all sources' columns
abbrev pub source_fields : List Op → List ℕ
source_fields ops = flat_map (λ op. fields_of op.columns) ops

-- at least one field of the program, and at most `most`
pub record IsFieldList (most fields : ℕ) (list : List ℕ) : Type 0 where
  pub some : 1 ≤ length list
  pub few : length list ≤ most
  pub below : AllByRecursion (λ k. k < fields) list

-- the greatest numbers of functions, of operators, and of operators that pair records
abbrev pub function_limit : ℕ
function_limit = 64

abbrev pub operator_limit : ℕ
operator_limit = 16

abbrev pub pair_limit : ℕ
pair_limit = 8

abbrev pub is_operator_kind : OpKind → Bool
is_operator_kind Source = false
is_operator_kind kind = true

abbrev pub is_pair_kind : OpKind → Bool
is_pair_kind Match = true
is_pair_kind Cross = true
is_pair_kind kind = false

abbrev pub times_of_kind : (OpKind → Bool) → List Op → ℕ
times_of_kind test ops = length (filter (λ op. test op.kind) ops)

pub record IsProgram (p : ProgramData) : Type 0 where
  pub few_functions : length p.functions ≤ function_limit
  pub few_operators : times_of_kind is_operator_kind p.ops ≤ operator_limit
  pub few_pairs : times_of_kind is_pair_kind p.ops ≤ pair_limit
  pub version : IsVersion p.version
  pub some_field : 1 ≤ p.fields
  pub few_fields : p.fields ≤ field_limit p.version
  pub functions : AllByRecursion (λ v. v.fields ≡ p.fields) p.functions
  pub valid : AllByRecursion (λ v. IsValid v.function v.fields) p.functions
  pub ops : AllByRecursion (IsOpOf p.fields p.functions) p.ops
  pub plan : IsPlanOf p.functions p.ops p.plan
  pub columns_different : AreDifferent (source_fields p.ops)
  pub columns_below : AllByRecursion (λ k. k < p.fields) (source_fields p.ops)
  pub sink : IsFieldList (field_limit p.version) p.fields p.sink
