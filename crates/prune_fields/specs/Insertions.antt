-- A program and a physical plan with Maps on some edges, each of which keeps the fields of a set.
use Rattle.std.specs.Prelude.{◌+◌, ◌==◌, ℕ, if◌then◌else◌, Option, Some, None, List, [], ◌∷◌, ◌++◌, get_or, length, set}
use Rattle.tac_syntax.specs.declared.declarations.OpKind.TheVariants.{Map}
use Rattle.tac_syntax.specs.Contexts.{FieldSet}
use Rattle.tac_syntax.specs.Valid.{WithFields}
use Rattle.plan_trees.specs.declared.physicals.Ship.{Ship}
use Rattle.plan_trees.specs.declared.physicals.Ship.TheVariants.{Forward}
use Rattle.plan_trees.specs.Inserted.{inserted}
use Rattle.plan_trees.specs.Physicals.{PhysicalData}
use Rattle.plan_trees.specs.Plans.{PlanTree, leaf, over, both, root_of}
use Rattle.pact_operators.specs.declared.operators.Op.{Op}
use Rattle.pact_operators.specs.Insertions.{CanInsert, inserted_into, inserted_op}
use Rattle.pact_operators.specs.Programs.{ProgramData}
use Rattle.prune_fields.specs.KeepFunctions.{keep_function}

-- ---- trees

-- the new operator on the edge that leaves a number, if there is one
abbrev pub Cuts : Type 0
Cuts = ℕ → Option ℕ

-- the tree, with an operator over it if there is one
abbrev pub capped : Option ℕ → PlanTree → PlanTree
capped None t = t
capped (Some m) t = over m t

-- the plan with all new operators
abbrev pub grown : Cuts → PlanTree → PlanTree
grown cut (leaf n) = leaf n
grown cut (over n t) = over n (capped (cut (root_of t)) (grown cut t))
grown cut (both n t u) = both n (capped (cut (root_of t)) (grown cut t)) (capped (cut (root_of u)) (grown cut u))

-- the edges of these numbers get operators, numbered from `new` on
abbrev pub cuts_from : ℕ → List ℕ → Cuts
cuts_from new [] n = None
cuts_from new (k ∷ ks) n = if n == k then Some new else cuts_from (new + 1) ks n

-- ---- programs

abbrev pub keep_op : (number function : ℕ) → Op
keep_op number function = inserted_op number function Map []

-- one for each of the numbers; they are numbered from `new` on, and their functions from `function` on
abbrev pub keep_ops : (new function : ℕ) → List ℕ → List Op
keep_ops new function [] = []
keep_ops new function (n ∷ ns) = keep_op new function ∷ keep_ops (new + 1) (function + 1) ns

-- their functions
abbrev pub keep_functions : (new fields : ℕ) → (ℕ → FieldSet) → List ℕ → List WithFields
keep_functions new fields needs [] = []
keep_functions new fields needs (n ∷ ns) = keep_function new fields (needs n) ∷ keep_functions (new + 1) fields needs ns

-- the tree with the new operators, and the plan as written if there is none
abbrev pub plan_with : ProgramData → PlanTree → List ℕ → PlanTree
plan_with p tree [] = p.plan
plan_with p tree (n ∷ ns) = grown (cuts_from (length p.ops) (n ∷ ns)) tree

-- the program with a Map on the edge from each of these numbers of one of its plans
abbrev pub with_keeps : ProgramData → PlanTree → (ℕ → FieldSet) → List ℕ → ProgramData
with_keeps p tree needs ns = record {
  version = p.version;
  fields = p.fields;
  functions = p.functions ++ keep_functions (length p.ops) p.fields needs ns;
  ops = p.ops ++ keep_ops (length p.ops) (length p.functions) ns;
  plan = plan_with p tree ns;
  sink = p.sink;
}

-- Whether one more Map, which keeps a set, may be inserted on the edge from a number of a plan; below, the program with
-- it.
abbrev pub CanKeep : ProgramData → PlanTree → ℕ → FieldSet → Type 0
CanKeep p tree at s = CanInsert p tree at (keep_op (length p.ops) 0) (keep_function (length p.ops) p.fields s)

abbrev pub kept_into : ProgramData → PlanTree → ℕ → FieldSet → ProgramData
kept_into p tree at s =
    inserted_into p (keep_op (length p.ops) 0) (keep_function (length p.ops) p.fields s) (inserted at (length p.ops) tree)

-- ---- physical plans

-- The edge to each Map is Forward, and the Map ships as the edge did before.
abbrev pub moved_from : ℕ → List ℕ → List Ship → List Ship
moved_from new [] ships = ships
moved_from new (n ∷ ns) ships = moved_from (new + 1) ns (set (set ships new (get_or ships n Forward)) n Forward)

-- the numbers of the Maps follow those of the program
abbrev pub with_cut_edges : ProgramData → PhysicalData → List ℕ → PhysicalData
with_cut_edges p x ns = record {
  tree = grown (cuts_from (length p.ops) ns) x.tree;
  workers = x.workers;
  ships = moved_from (length p.ops) ns x.ships;
}
