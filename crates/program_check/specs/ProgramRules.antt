-- What a program may not declare: the rules P1 to P10, each as what breaks it at a declaration.
use Rattle.std.specs.Prelude.{◌≡◌, ◌<◌, ◌⊎◌, ◌||◌, ◌&&◌, ◌==◌, ◌+◌, not, nat_le, ℕ, zero, suc, Bool, true, false, List, [], ◌∷◌, ◌++◌, length, filter, map, bytes_eq, get_or, if◌then◌else◌, Option, Some, None}
use Rattle.std.specs.List.{list_any}
use Rattle.pact_record.specs.declared.columns.Column.{Column}
use Rattle.tac_syntax.specs.declared.functions.Function.{Function}
use Rattle.tac_syntax.specs.declared.functions.Kind.{Kind}
use Rattle.tac_syntax.specs.declared.functions.Kind.TheVariants as kinds
use Rattle.tac_syntax.specs.Valid.{WithFields}
use Rattle.tac_syntax.specs.declared.declarations.OpKind.{OpKind}
use Rattle.tac_syntax.specs.declared.declarations.OpKind.TheVariants.{Map, Reduce, Match, Cross, CoGroup}
use Rattle.tac_syntax.specs.declared.declarations.Decl.{Decl}
use Rattle.tac_syntax.specs.declared.declarations.Decl.TheVariants.{Source, Function as FunctionDecl, Op as OpDecl, Sink}
use Rattle.program_check.specs.declared.program_rules.ProgramRule.{ProgramRule}
use Rattle.program_check.specs.declared.program_rules.ProgramRule.TheVariants.{Undeclared, DeclaredTwice, NoSingleSink, TooMany, NotATree, OtherKind, OtherKeyCount, WrongField, NoAttribute, SharedAttribute}
use Rattle.pact_operators.specs.declared.operators.Op.{Op}
use Rattle.tac_syntax.specs.Drafts.{DraftData}
use Rattle.plan_trees.specs.Plans.{PlanTree, leaf, over, both, subtree_of}
use Rattle.pact_operators.specs.Programs.{HasAttribute, IsWrittenPlan, function_limit, operator_limit, pair_limit, is_pair_kind}
use Rattle.pact_operators.specs.Resolved.{function_names, inputs_named, is_among, names_read, node_names, ops_of, place_among, sink_inputs, times_among}

-- ---- names

-- what a declaration is called in a refusal; a sink is called by its input
abbrev pub name_at : List Function → Decl → List ℕ
name_at functions (Source name file columns) = name
name_at functions (FunctionDecl number) = get_or (function_names functions) number []
name_at functions (OpDecl name kind function left right left_keys right_keys) = name
name_at functions (Sink input fields) = input

abbrev pub some_missing : List (List ℕ) → List (List ℕ) → Bool
some_missing names declared = list_any (λ name. not (is_among name declared)) names

-- P1: a function or an input that isn't declared
abbrev pub is_undeclared : DraftData → Decl → Bool
is_undeclared d (OpDecl name kind function left right left_keys right_keys) =
    not (is_among function (function_names d.functions)) || some_missing (names_read kind left right) (node_names d.decls)
is_undeclared d (Sink input fields) = not (is_among input (node_names d.decls))
is_undeclared d decl = false

-- P2: a name that two functions have, or two sources and operators
abbrev pub is_declared_twice : DraftData → Decl → Bool
is_declared_twice d (Source name file columns) = nat_le 2 (times_among name (node_names d.decls))
is_declared_twice d (FunctionDecl number) = nat_le 2 (times_among (get_or (function_names d.functions) number []) (function_names d.functions))
is_declared_twice d (OpDecl name kind function left right left_keys right_keys) = nat_le 2 (times_among name (node_names d.decls))
is_declared_twice d decl = false

-- ---- numbers of declarations

abbrev pub is_function : Decl → Bool
is_function (FunctionDecl number) = true
is_function decl = false

abbrev pub is_operator : Decl → Bool
is_operator (OpDecl name kind function left right left_keys right_keys) = true
is_operator decl = false

abbrev pub is_pair : Decl → Bool
is_pair (OpDecl name kind function left right left_keys right_keys) = is_pair_kind kind
is_pair decl = false

abbrev pub times_so : (Decl → Bool) → List Decl → ℕ
times_so test decls = length (filter test decls)

-- P8: as many declarations of its sort come before it as a program may have
abbrev pub is_one_too_many : List Decl → Decl → Bool
is_one_too_many front decl =
    (is_function decl && nat_le function_limit (times_so is_function front))
    || (is_operator decl && nat_le operator_limit (times_so is_operator front))
    || (is_pair decl && nat_le pair_limit (times_so is_pair front))

-- ---- the tree

-- the names of all inputs, of operators and of sinks
abbrev pub all_inputs : List Decl → List (List ℕ)
all_inputs [] = []
all_inputs (decl ∷ decls) = inputs_named decl ++ all_inputs decls

-- The operator reads the source or operator with this name.
abbrev pub is_reader : List ℕ → Decl → Bool
is_reader name (OpDecl own kind function left right left_keys right_keys) = is_among name (names_read kind left right)
is_reader name decl = false

-- A sink names it, or an operator that is itself reached reads it. The path to the sink has at most n operators.
abbrev pub is_reached : ℕ → DraftData → List ℕ → Bool
is_reached zero d name = is_among name (sink_inputs d.decls)
is_reached (suc n) d name = is_among name (sink_inputs d.decls) || list_any (λ decl. is_reader name decl && is_reached n d (name_at d.functions decl)) d.decls

-- P7: not read exactly once, or not reached. A path to the sink has no operator twice, so the number of operators
-- bounds its length.
abbrev pub is_out_of_tree : DraftData → List ℕ → Bool
is_out_of_tree d name = not (times_among name (all_inputs d.decls) == 1) || not (is_reached (times_so is_operator d.decls) d name)

abbrev pub is_not_in_tree : DraftData → Decl → Bool
is_not_in_tree d (Source name file columns) = is_out_of_tree d name
is_not_in_tree d (OpDecl name kind function left right left_keys right_keys) = is_out_of_tree d name
is_not_in_tree d decl = false

-- ---- functions, keys and fields

abbrev pub is_of_kind : OpKind → Kind → Bool
is_of_kind Map kinds.Map = true
is_of_kind Reduce kinds.Reduce = true
is_of_kind Match kinds.Match = true
is_of_kind Cross kinds.Cross = true
is_of_kind CoGroup kinds.CoGroup = true
is_of_kind kind other = false

-- the first function with the name
abbrev pub function_named : List Function → List ℕ → Option Function
function_named [] name = None
function_named (f ∷ functions) name = if bytes_eq name f.name then Some f else function_named functions name

abbrev pub is_function_for : OpKind → Option Function → Bool
is_function_for kind None = false
is_function_for kind (Some f) = is_of_kind kind f.kind

-- P3: the function is of another kind than the operator
abbrev pub has_other_kind : DraftData → Decl → Bool
has_other_kind d (OpDecl name kind function left right left_keys right_keys) = not (is_function_for kind (function_named d.functions function))
has_other_kind d decl = false

abbrev pub is_key_count : Option Function → ℕ → Bool
is_key_count None count = false
is_key_count (Some f) count = f.keys == count

-- The key lists of a Match are equally long. Those of a Reduce and a CoGroup have the function's number of keys.
abbrev pub are_key_counts : OpKind → Option Function → ℕ → ℕ → Bool
are_key_counts Reduce f left right = is_key_count f left
are_key_counts Match f left right = left == right
are_key_counts CoGroup f left right = is_key_count f left && is_key_count f right
are_key_counts kind f left right = true

-- P4: the lengths of the key lists don't fit.
abbrev pub has_other_key_count : DraftData → Decl → Bool
has_other_key_count d (OpDecl name kind function left right left_keys right_keys) =
    not (are_key_counts kind (function_named d.functions function) (length left_keys) (length right_keys))
has_other_key_count d decl = false

-- the fields of all columns of all sources
abbrev pub column_fields : List Column → List ℕ
column_fields columns = map (λ c. c.field) columns

abbrev pub all_columns : List Decl → List ℕ
all_columns [] = []
all_columns (Source name file columns ∷ decls) = column_fields columns ++ all_columns decls
all_columns (FunctionDecl number ∷ decls) = all_columns decls
all_columns (OpDecl name kind function left right left_keys right_keys ∷ decls) = all_columns decls
all_columns (Sink input fields ∷ decls) = all_columns decls

abbrev pub times_in : ℕ → List ℕ → ℕ
times_in k [] = 0
times_in k (j ∷ js) = if k == j then times_in k js + 1 else times_in k js

abbrev pub some_too_large : ℕ → List ℕ → Bool
some_too_large bound fields = list_any (λ k. nat_le bound k) fields

-- P10: a column's field that another column has too, or that isn't a field of the program; a sink's field that isn't
-- one
abbrev pub has_wrong_field : DraftData → Decl → Bool
has_wrong_field d (Source name file columns) = list_any (λ k. nat_le 2 (times_in k (all_columns d.decls))) (column_fields columns) || some_too_large d.fields (column_fields columns)
has_wrong_field d (Sink input fields) = some_too_large d.fields fields
has_wrong_field d decl = false

-- ---- attributes

-- a key of the list isn't among the attributes of the tree
abbrev pub LacksKey : DraftData → List WithFields → PlanTree → List ℕ → Type 0
LacksKey d valids tree [] = ⊥
LacksKey d valids tree (k ∷ keys) = (¬ HasAttribute valids (ops_of (function_names d.functions) d.decls) tree k) ⊎ LacksKey d valids tree keys

abbrev pub SidesLackKey : DraftData → List WithFields → PlanTree → List ℕ → List ℕ → Type 0
SidesLackKey d valids (leaf n) left_keys right_keys = ⊥
SidesLackKey d valids (over n t) left_keys right_keys = LacksKey d valids t left_keys
SidesLackKey d valids (both n t u) left_keys right_keys = LacksKey d valids t left_keys ⊎ LacksKey d valids u right_keys

-- P5: a key that isn't among its side's attributes, in the plan as written
abbrev pub LacksAttribute : DraftData → List WithFields → PlanTree → Decl → Type 0
LacksAttribute d valids tree (OpDecl name kind function left right left_keys right_keys) =
    SidesLackKey d valids (subtree_of (place_among name (node_names d.decls)) tree) left_keys right_keys
LacksAttribute d valids tree decl = ⊥

-- a field is an attribute of both sides of the tree's root
abbrev pub SidesShare : List WithFields → List Op → PlanTree → Type 0
SidesShare valids ops (both n t u) = (k : ℕ) × HasAttribute valids ops t k × HasAttribute valids ops u k
SidesShare valids ops tree = ⊥

-- P6: the two sides share an attribute, in the plan as written
abbrev pub SharesAttribute : DraftData → List WithFields → PlanTree → Decl → Type 0
SharesAttribute d valids tree (OpDecl name kind function left right left_keys right_keys) =
    SidesShare valids (ops_of (function_names d.functions) d.decls) (subtree_of (place_among name (node_names d.decls)) tree)
SharesAttribute d valids tree decl = ⊥

-- ---- the first rule that is broken

-- A declaration breaks a rule, given the declarations before it. P5 and P6 are about the plan as written, which exists
-- if no rule before them is broken.
abbrev pub Breaks : ProgramRule → DraftData → List WithFields → List Decl → Decl → Type 0
Breaks Undeclared d valids front decl = is_undeclared d decl ≡ true
Breaks DeclaredTwice d valids front decl = is_declared_twice d decl ≡ true
Breaks NoSingleSink d valids front decl = ⊥
Breaks TooMany d valids front decl = is_one_too_many front decl ≡ true
Breaks NotATree d valids front decl = is_not_in_tree d decl ≡ true
Breaks OtherKind d valids front decl = has_other_kind d decl ≡ true
Breaks OtherKeyCount d valids front decl = has_other_key_count d decl ≡ true
Breaks WrongField d valids front decl = has_wrong_field d decl ≡ true
Breaks NoAttribute d valids front decl = (tree : PlanTree) × IsWrittenPlan d tree × LacksAttribute d valids tree decl
Breaks SharedAttribute d valids front decl = (tree : PlanTree) × IsWrittenPlan d tree × SharesAttribute d valids tree decl

-- After the declarations of `front`, none of the others breaks the rule.
abbrev pub NoneBreaks : ProgramRule → DraftData → List WithFields → List Decl → List Decl → Type 0
NoneBreaks rule d valids front [] = Unit {0}
NoneBreaks rule d valids front (decl ∷ decls) = (¬ Breaks rule d valids front decl) × NoneBreaks rule d valids (front ++ decl ∷ []) decls

-- P9: none or several sinks
abbrev pub has_no_single_sink : DraftData → Bool
has_no_single_sink d = not (length (sink_inputs d.decls) == 1)

abbrev pub Keeps : ProgramRule → DraftData → List WithFields → Type 0
Keeps rule d valids = NoneBreaks rule d valids [] d.decls × (rule ≡ NoSingleSink → has_no_single_sink d ≡ false)

-- the first declaration in text order that breaks the rule
pub record FirstBreak (rule : ProgramRule) (d : DraftData) (valids : List WithFields) (name : List ℕ) : Type 0 where
  pub front : List Decl
  pub decl : Decl
  pub later : List Decl
  pub decls : d.decls ≡ front ++ decl ∷ later
  pub earlier : NoneBreaks rule d valids [] front
  pub breaks : Breaks rule d valids front decl
  pub named : name ≡ name_at d.functions decl

-- A rule is broken, and the name is that of the first declaration that breaks it. If there isn't exactly one sink, the
-- name is empty.
abbrev pub IsBrokenAt : ProgramRule → DraftData → List WithFields → List ℕ → Type 0
IsBrokenAt rule d valids name = FirstBreak rule d valids name ⊎ ((rule ≡ NoSingleSink) × (has_no_single_sink d ≡ true) × (name ≡ []))

-- the order in which rules are checked, and the number of each
abbrev pub order_of : ProgramRule → ℕ
order_of Undeclared = 0
order_of DeclaredTwice = 1
order_of NoSingleSink = 2
order_of TooMany = 3
order_of NotATree = 4
order_of OtherKind = 5
order_of OtherKeyCount = 6
order_of WrongField = 7
order_of NoAttribute = 8
order_of SharedAttribute = 9

abbrev pub code_of_rule : ProgramRule → ℕ
code_of_rule Undeclared = 1
code_of_rule DeclaredTwice = 2
code_of_rule NoSingleSink = 9
code_of_rule TooMany = 8
code_of_rule NotATree = 7
code_of_rule OtherKind = 3
code_of_rule OtherKeyCount = 4
code_of_rule WrongField = 10
code_of_rule NoAttribute = 5
code_of_rule SharedAttribute = 6

-- the first rule in that order that is broken, and where
pub record IsRefused (d : DraftData) (valids : List WithFields) (code : ℕ) (name : List ℕ) : Type 0 where
  pub rule : ProgramRule
  pub coded : code ≡ code_of_rule rule
  pub earlier : (other : ProgramRule) → order_of other < order_of rule → Keeps other d valids
  pub broken : IsBrokenAt rule d valids name
