-- What going through a body finds.
use Rattle.std.specs.Prelude.{ℕ, ◌+◌, Option, Some, None, Result, Ok, Err}
use Rattle.tac_syntax.specs.declared.rules.Rule.{Rule}
use Rattle.tac_syntax.specs.Code.{Code, count_of}
use Rattle.tac_syntax.specs.Places.{Place, placed}
use Rattle.tac_syntax.specs.Valid.{first_break_from}
use Rattle.tac_validate.specs.declared.walks.Broken.{Broken}

-- a break, or the number after the last statement if there is none
abbrev pub found_or : Option ℕ → ℕ → Result ℕ Broken
found_or (Some at) next = Err (record { at = at })
found_or None next = Ok next

-- the first break of a body whose first statement has number n, or the number after its last one if there is none
abbrev pub walked : Rule → ℕ → Place → Code → Result ℕ Broken
walked rule n p c = found_or (first_break_from rule n (placed p c)) (n + count_of c)
