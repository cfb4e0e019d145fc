-- The program that a drill runs: for each first field below 500, the sum of the second fields.
use Rattle.std.specs.Prelude.{ℕ, pos, true, false, List, [], ◌∷◌, codes}
use Rattle.pact_record.specs.declared.columns.Column.{Column}
use Rattle.pact_record.specs.declared.operations.Op2.TheVariants.{AddW, Lt}
use Rattle.tac_syntax.specs.declared.functions.Function.{Function}
use Rattle.tac_syntax.specs.declared.functions.Kind.TheVariants as kinds
use Rattle.tac_syntax.specs.declared.statements.Rec.TheVariants.{Loop, Input}
use Rattle.tac_syntax.specs.declared.statements.LoopList.TheVariants.{Group}
use Rattle.tac_syntax.specs.declared.declarations.Decl.{Decl}
use Rattle.tac_syntax.specs.declared.declarations.Decl.TheVariants.{Source, Function as FunctionDecl, Op as OpDecl, Sink}
use Rattle.tac_syntax.specs.declared.declarations.OpKind.TheVariants.{Map, Reduce}
use Rattle.tac_syntax.specs.Code.{stop, plain, branch, each, load_int, get_field, get_key, apply_two, new_record, copy_record, set_field, emit_record}
use Rattle.tac_syntax.specs.Drafts.{DraftData}
use Rattle.tac_syntax.specs.Valid.{WithFields}
use Rattle.plan_trees.specs.Plans.{PlanTree, leaf, over}
use Rattle.pact_operators.specs.Programs.{ProgramData}
use Rattle.pact_operators.specs.Resolved.{function_names, ops_of}

-- ---- functions

-- a group's key, and the sum of its second fields
abbrev pub total : Function
total = record {
  name = codes "total";
  kind = kinds.Reduce;
  keys = 1;
  body =
      plain (load_int 0 (pos 0))
      (each 1 Group (plain (get_field 1 (Loop 1) 1) (plain (apply_two 0 AddW 0 1) stop))
      (plain (new_record 0) (plain (get_key 2 0) (plain (set_field 0 0 2) (plain (set_field 0 3 0) (plain (emit_record 0) stop))))));
}

-- a record whose first field is below 500
abbrev pub low : Function
low = record {
  name = codes "low";
  kind = kinds.Map;
  keys = 0;
  body =
      plain (get_field 0 Input 0)
      (plain (load_int 1 (pos 500)) (plain (apply_two 2 Lt 0 1) (branch 2 (plain (copy_record 0 Input) (plain (emit_record 0) stop)) stop stop)));
}

-- ---- declarations

abbrev pub drill_columns : List Column
drill_columns = record { field = 0; text = false } ∷ record { field = 1; text = false } ∷ record { field = 2; text = true } ∷ []

abbrev pub drill_reduce : Decl
drill_reduce = OpDecl (codes "r") Reduce (codes "total") (codes "g") [] (0 ∷ []) []

abbrev pub drill_map : Decl
drill_map = OpDecl (codes "m") Map (codes "low") (codes "r") [] [] []

-- what its text declares
abbrev pub drill_draft : DraftData
drill_draft = record {
  version = 1;
  fields = 4;
  functions = total ∷ low ∷ [];
  decls =
      Source (codes "g") (codes "drill.csv") drill_columns
      ∷ FunctionDecl 0
      ∷ FunctionDecl 1
      ∷ drill_reduce
      ∷ drill_map
      ∷ Sink (codes "m") (0 ∷ 3 ∷ [])
      ∷ [];
}

-- ---- the program

-- a function of a program with this number of fields
abbrev pub with_fields : ℕ → Function → WithFields
with_fields fields f = record { function = f; fields = fields }

abbrev pub drill_functions : List WithFields
drill_functions = with_fields 4 total ∷ with_fields 4 low ∷ []

-- the Map over the Reduce over the source
abbrev pub drill_plan : PlanTree
drill_plan = over 2 (over 1 (leaf 0))

abbrev pub drill_program : ProgramData
drill_program = record {
  version = 1;
  fields = 4;
  functions = drill_functions;
  ops = ops_of (function_names drill_draft.functions) drill_draft.decls;
  plan = drill_plan;
  sink = 0 ∷ 3 ∷ [];
}
