-- Valid functions, and the first statement that breaks a rule.
use Rattle.std.specs.Prelude.{◌≡◌, ◌<◌, ◌≤◌, ◌+◌, ℕ, if◌then◌else◌, Option, Some, None, List, [], ◌∷◌}
use Rattle.pact_record.specs.declared.records.TheConstants.{MAX_FIELDS}
use Rattle.tac_syntax.specs.declared.functions.Function.{Function}
use Rattle.tac_syntax.specs.declared.rules.Rule.{Rule}
use Rattle.tac_syntax.specs.Places.{Placed, placed, top_place}
use Rattle.tac_syntax.specs.Rules.{breaks, code_of_rule}

-- the number of the first statement that breaks the rule, with the statements numbered from n
abbrev pub first_break_from : Rule → ℕ → List Placed → Option ℕ
first_break_from rule n [] = None
first_break_from rule n (p ∷ ps) = if breaks rule n p.place p.line then Some n else first_break_from rule (n + 1) ps

-- numbered in text order, from 0
abbrev pub first_break : Rule → Function → ℕ → Option ℕ
first_break rule f fields = first_break_from rule 0 (placed (top_place f fields) f.body)

abbrev pub Keeps : Rule → Function → ℕ → Type 0
Keeps rule f fields = first_break rule f fields ≡ None

pub record IsValid (f : Function) (fields : ℕ) : Type 0 where
  pub some_field : 1 ≤ fields
  pub few_fields : fields ≤ MAX_FIELDS
  pub keeps : (rule : Rule) → Keeps rule f fields

-- a function with its number of fields
pub record WithFields : Type 0 where
  pub function : Function
  pub fields : ℕ

-- the least code of a rule that is broken, and the first statement that breaks it
pub record IsRefusal (f : Function) (fields code at : ℕ) : Type 0 where
  pub rule : Rule
  pub code_is : code ≡ code_of_rule rule
  pub first : first_break rule f fields ≡ Some at
  pub least : (other : Rule) → code_of_rule other < code → Keeps other f fields
