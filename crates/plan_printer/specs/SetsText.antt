-- The findings of the analysis for a program's operators, one line for each.
use Rattle.std.specs.Prelude.{◌≡◌, ◌++◌, ◌↔◌, ◌+◌, ℕ, Bool, true, false, List, [], ◌∷◌, IsTrue, codes, Some, slice_get}
use Rattle.tac_syntax.specs.declared.declarations.OpKind.{OpKind}
use Rattle.tac_syntax.specs.declared.declarations.OpKind.TheVariants.{Source}
use Rattle.tac_syntax.specs.Declarations.{kind_word}
use Rattle.pact_operators.specs.declared.operators.Op.{Op}
use Rattle.pact_operators.specs.Programs.{ProgramData}
use Rattle.tac_syntax.specs.Valid.{WithFields}
use Rattle.order_free.specs.OrderFree.{IsOrderFree}
use Rattle.reorder_pair.specs.declared.finding.Found.{Found}
use Rattle.reorder_pair.specs.Places.{IsFound}
use Rattle.plan_printer.specs.FoundText.{found_text}

abbrev pub yes_or_no : Bool → List ℕ
yes_or_no true = codes "yes"
yes_or_no false = codes "no"

-- whether the function passes the order test
pub record IsJudged (p : ProgramData) (op : Op) (passes : Bool) : Type 0 where
  pub called : WithFields
  pub function : slice_get p.functions op.function ≡ Some called
  pub test : IsTrue passes ↔ IsOrderFree called.function.kind called.function.body

abbrev pub line_text : List ℕ → OpKind → Found → Bool → List ℕ
line_text name kind found passes = name ++ (codes " " ++ (kind_word kind ++ (codes " " ++ (found_text found ++ (codes " order " ++ (yes_or_no passes ++ codes "\n"))))))

-- An operator's line: its name, its kind, the findings for it in the plan as written, and whether its function passes
-- the order test.
pub record IsOperatorLine (p : ProgramData) (n : ℕ) (op : Op) (line : List ℕ) : Type 0 where
  pub found : Found
  pub is_found : IsFound p n p.plan p.plan found
  pub passes : Bool
  pub judged : IsJudged p op passes
  pub spelled : line ≡ line_text op.name op.kind found passes

-- A source has no line.
abbrev pub IsLineOf : ProgramData → ℕ → OpKind → Op → List ℕ → Type 0
IsLineOf p n Source op line = line ≡ []
IsLineOf p n kind op line = IsOperatorLine p n op line

-- the lines of sources and operators from number `n` on, one after another
abbrev pub AreLinesFrom : ProgramData → ℕ → List Op → List ℕ → Type 0
AreLinesFrom p n [] text = text ≡ []
AreLinesFrom p n (op ∷ ops) text = (line : List ℕ) × (rest : List ℕ) × IsLineOf p n op.kind op line × AreLinesFrom p (n + 1) ops rest × (text ≡ line ++ rest)

-- the lines of all operators, in text order
abbrev pub IsSetsText : ProgramData → List ℕ → Type 0
IsSetsText p text = AreLinesFrom p 0 p.ops text
