-- Plans on one line, and operators by their names.
use Rattle.std.specs.Prelude.{◌≡◌, ℕ, List, ◌++◌, Some, slice_get, codes}
use Rattle.tac_syntax.specs.declared.declarations.OpKind.TheVariants.{Source}
use Rattle.plan_trees.specs.Plans.{PlanTree, leaf, over, both}
use Rattle.pact_operators.specs.declared.operators.Op.{Op}
use Rattle.plan_printer.specs.PlanText.{operator_name}

-- the name of the source or operator with a number
abbrev pub name_at : List Op → ℕ → List ℕ
name_at ops n = operator_name (slice_get ops n)

-- `NAME`, `NAME(LINE)` or `NAME(LINE,LINE)`, from the root
abbrev pub line_of : List Op → PlanTree → List ℕ
line_of ops (leaf n) = name_at ops n
line_of ops (over n t) = name_at ops n ++ (codes "(" ++ (line_of ops t ++ codes ")"))
line_of ops (both n t u) = name_at ops n ++ (codes "(" ++ (line_of ops t ++ (codes "," ++ (line_of ops u ++ codes ")"))))

-- the number is that of an operator with the name; a source doesn't count
abbrev pub IsNamed : List Op → List ℕ → ℕ → Type 0
IsNamed ops name n = (op : Op) × (slice_get ops n ≡ Some op) × (op.kind ≡ Source → ⊥) × (op.name ≡ name)
