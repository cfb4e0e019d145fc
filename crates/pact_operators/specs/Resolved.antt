-- What the names in a program's declarations refer to.
use Rattle.std.specs.Prelude.{◌+◌, ℕ, Bool, if◌then◌else◌, List, [], ◌∷◌, map, bytes_eq}
use Rattle.std.specs.List.{list_any}
use Rattle.tac_syntax.specs.declared.functions.Function.{Function}
use Rattle.tac_syntax.specs.declared.declarations.OpKind.{OpKind}
use Rattle.tac_syntax.specs.declared.declarations.OpKind.TheVariants.{Source as SourceKind, Map, Reduce, Match, Cross, CoGroup}
use Rattle.tac_syntax.specs.declared.declarations.Decl.{Decl}
use Rattle.tac_syntax.specs.declared.declarations.Decl.TheVariants.{Source, Function as FunctionDecl, Op as OpDecl, Sink}
use Rattle.pact_operators.specs.declared.operators.Op.{Op}

-- ---- names

-- the names of the sources and operators, in text order; a source's or operator's number is its place in this list
abbrev pub node_names : List Decl → List (List ℕ)
node_names [] = []
node_names (Source name file columns ∷ decls) = name ∷ node_names decls
node_names (FunctionDecl number ∷ decls) = node_names decls
node_names (OpDecl name kind function left right left_keys right_keys ∷ decls) = name ∷ node_names decls
node_names (Sink input fields ∷ decls) = node_names decls

abbrev pub function_names : List Function → List (List ℕ)
function_names functions = map (λ f. f.name) functions

abbrev pub is_among : List ℕ → List (List ℕ) → Bool
is_among name names = list_any (λ n. bytes_eq name n) names

-- the place of the first item equal to the name, or the length of the list if there is none
abbrev pub place_among : List ℕ → List (List ℕ) → ℕ
place_among name [] = 0
place_among name (n ∷ names) = if bytes_eq name n then 0 else place_among name names + 1

abbrev pub times_among : List ℕ → List (List ℕ) → ℕ
times_among name [] = 0
times_among name (n ∷ names) = if bytes_eq name n then times_among name names + 1 else times_among name names

-- ---- inputs

-- what an operator of a kind reads, by names
abbrev pub names_read : OpKind → List ℕ → List ℕ → List (List ℕ)
names_read SourceKind left right = []
names_read Map left right = left ∷ []
names_read Reduce left right = left ∷ []
names_read Match left right = left ∷ right ∷ []
names_read Cross left right = left ∷ right ∷ []
names_read CoGroup left right = left ∷ right ∷ []

-- what a declaration names as its inputs
abbrev pub inputs_named : Decl → List (List ℕ)
inputs_named (Source name file columns) = []
inputs_named (FunctionDecl number) = []
inputs_named (OpDecl name kind function left right left_keys right_keys) = names_read kind left right
inputs_named (Sink input fields) = input ∷ []

-- what the sinks name
abbrev pub sink_inputs : List Decl → List (List ℕ)
sink_inputs [] = []
sink_inputs (Source name file columns ∷ decls) = sink_inputs decls
sink_inputs (FunctionDecl number ∷ decls) = sink_inputs decls
sink_inputs (OpDecl name kind function left right left_keys right_keys ∷ decls) = sink_inputs decls
sink_inputs (Sink input fields ∷ decls) = input ∷ sink_inputs decls

-- the fields of the first sink
abbrev pub sink_fields : List Decl → List ℕ
sink_fields [] = []
sink_fields (Source name file columns ∷ decls) = sink_fields decls
sink_fields (FunctionDecl number ∷ decls) = sink_fields decls
sink_fields (OpDecl name kind function left right left_keys right_keys ∷ decls) = sink_fields decls
sink_fields (Sink input fields ∷ decls) = fields

-- what a source or an operator reads, by numbers
pub data Inputs : Type 0 where
  no_input : Inputs
  one_input : (at : ℕ) → Inputs
  two_inputs : (left right : ℕ) → Inputs

abbrev pub inputs_read : List (List ℕ) → OpKind → List ℕ → List ℕ → Inputs
inputs_read names SourceKind left right = no_input
inputs_read names Map left right = one_input (place_among left names)
inputs_read names Reduce left right = one_input (place_among left names)
inputs_read names Match left right = two_inputs (place_among left names) (place_among right names)
inputs_read names Cross left right = two_inputs (place_among left names) (place_among right names)
inputs_read names CoGroup left right = two_inputs (place_among left names) (place_among right names)

-- the inputs of each source and operator, in text order
abbrev pub inputs_of : List (List ℕ) → List Decl → List Inputs
inputs_of names [] = []
inputs_of names (Source name file columns ∷ decls) = no_input ∷ inputs_of names decls
inputs_of names (FunctionDecl number ∷ decls) = inputs_of names decls
inputs_of names (OpDecl name kind function left right left_keys right_keys ∷ decls) = inputs_read names kind left right ∷ inputs_of names decls
inputs_of names (Sink input fields ∷ decls) = inputs_of names decls

-- ---- sources and operators

-- In text order. A source's file and columns are empty for an operator; its function is number 0 for a source.
abbrev pub ops_of : List (List ℕ) → List Decl → List Op
ops_of functions [] = []
ops_of functions (Source name file columns ∷ decls) =
    record { name = name; kind = SourceKind; function = 0; left_keys = []; right_keys = []; file = file; columns = columns } ∷ ops_of functions decls
ops_of functions (FunctionDecl number ∷ decls) = ops_of functions decls
ops_of functions (OpDecl name kind function left right left_keys right_keys ∷ decls) =
    record { name = name; kind = kind; function = place_among function functions; left_keys = left_keys; right_keys = right_keys; file = []; columns = [] } ∷ ops_of functions decls
ops_of functions (Sink input fields ∷ decls) = ops_of functions decls
