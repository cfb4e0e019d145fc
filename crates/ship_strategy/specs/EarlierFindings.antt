-- Findings about operators in earlier plans.
use Rattle.std.specs.Prelude.{◌≡◌, ◌==◌, ◌&&◌, ℕ, Bool, List, [], ◌∷◌, Option, Some, None, cond, slice_get}
use Rattle.std.specs.List.{AllByRecursion}
use Rattle.pact_record.specs.FieldSets.{has_field}
use Rattle.tac_syntax.specs.declared.declarations.OpKind.TheVariants.{Source}
use Rattle.pact_operators.specs.Programs.{ProgramData, is_operator_kind}
use Rattle.ship_strategy.specs.declared.tables.OpFacts.{OpFacts}
use Rattle.ship_strategy.specs.declared.tables.Table.{Table}
use Rattle.ship_strategy.specs.PlanFacts.{facts_for}
use Rattle.ship_strategy.specs.Views.{known_of}

-- Whether a row is about an operator whose inputs have these attributes. A row without facts has a source's kind.
abbrev pub is_row_with : (left right : ℕ) → OpFacts → Bool
is_row_with left right x = is_operator_kind x.kind && (x.left == left && x.right == right)

-- the row, if it is such a row
abbrev pub row_with : (left right : ℕ) → Option OpFacts → Option OpFacts
row_with left right None = None
row_with left right (Some x) = cond (is_row_with left right x) (Some x) None

abbrev pub or_else : Option OpFacts → Option OpFacts → Option OpFacts
or_else None other = other
or_else (Some x) other = Some x

-- the row for that number in the first table in which it is such a row
abbrev pub first_found : List Table → (at left right : ℕ) → Option OpFacts
first_found [] at left right = None
first_found (t ∷ tables) at left right = or_else (row_with left right (slice_get t.nodes at)) (first_found tables at left right)

-- For each operator, a table has the findings that hold if its inputs have the attributes of its row.
abbrev pub IsTrueFinding : ProgramData → Table → Type 0
IsTrueFinding p t = (n : ℕ) (x : OpFacts) → slice_get t.nodes n ≡ Some x → (x.kind ≡ Source → ⊥) → known_of x ≡ facts_for p n (has_field x.left) (has_field x.right)

abbrev pub AreTrueFindings : ProgramData → List Table → Type 0
AreTrueFindings p tables = AllByRecursion (IsTrueFinding p) tables
