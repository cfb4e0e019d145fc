-- The number of records that each source and operator of a plan had in one evaluation, as text.
use Rattle.std.specs.Prelude.{◌++◌, ◌+◌, ℕ, List, [], ◌∷◌, Option, Some, None, codes, decimal, get_or, slice_get}
use Rattle.plan_trees.specs.Plans.{PlanTree, input_of}
use Rattle.pact_operators.specs.declared.operators.Op.{Op}
use Rattle.pact_operators.specs.Programs.{ProgramData}
use Rattle.plan_printer.specs.FoundText.{set_text}

-- the number of records that an input emitted
abbrev pub given_text : List ℕ → Option ℕ → List ℕ
given_text counts None = []
given_text counts (Some input) = codes " " ++ decimal (get_or counts input 0)

-- the numbers of records that an operator's inputs emitted, one after the other; a source has no inputs
abbrev pub taken_text : List ℕ → (first second : Option ℕ) → List ℕ
taken_text counts None second = []
taken_text counts (Some input) second = codes " in" ++ (given_text counts (Some input) ++ given_text counts second)

-- the line of the source or operator with a number: its name, the records it took, and the records it emitted
abbrev pub counts_line : PlanTree → List ℕ → ℕ → Op → List ℕ
counts_line plan counts at op =
    op.name ++ (taken_text counts (input_of at 0 plan) (input_of at 1 plan) ++ (codes " out " ++ (decimal (get_or counts at 0) ++ codes "\n")))

-- the lines of the sources and operators from this number on
abbrev pub counts_from : PlanTree → List ℕ → ℕ → List Op → List ℕ
counts_from plan counts at [] = []
counts_from plan counts at (op ∷ ops) = counts_line plan counts at op ++ counts_from plan counts (at + 1) ops

-- the lines of all sources and operators, in text order
abbrev pub counts_text : ProgramData → PlanTree → List ℕ → List ℕ
counts_text p plan counts = counts_from plan counts 0 p.ops

-- ---- partial groups

-- the line of an operator whose input is partial groups: its name, and how many records the operator that made them
-- emitted
abbrev pub partials_line : List ℕ → (new : ℕ) → Option Op → List ℕ
partials_line counts new None = []
partials_line counts new (Some op) = op.name ++ (codes " partials " ++ (decimal (get_or counts new 0) ++ codes "\n"))

-- the lines for pairs of an operator that makes partial groups and the operator that merges them
abbrev pub partials_text : ProgramData → List ℕ → List (ℕ × ℕ) → List ℕ
partials_text p counts [] = []
partials_text p counts (pair ∷ pairs) = partials_line counts pair.0 (slice_get p.ops pair.1) ++ partials_text p counts pairs

-- ---- fields that are kept

-- the line of a source or operator from whose records fields were dropped: its name, and the fields that were kept
abbrev pub keeps_line : Option Op → (fields : ℕ) → List ℕ
keeps_line None fields = []
keeps_line (Some op) fields = op.name ++ ((codes " keeps " ++ set_text fields) ++ codes "\n")

-- this line for the source or operator with a number
abbrev pub keeps_line_at : ProgramData → (at fields : ℕ) → List ℕ
keeps_line_at p at fields = keeps_line (slice_get p.ops at) fields
