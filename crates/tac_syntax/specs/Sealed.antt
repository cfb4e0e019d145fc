-- How a function with its number of fields is stored in the logic.
use Rattle.std.specs.Prelude.{ℕ, refl}
use Rattle.std.specs.Coded.{Coded, code_by, coded×, coded_ℕ}
use Rattle.tac_syntax.specs.declared.functions.Function.{Function}
use Rattle.tac_syntax.specs.contracts.functions.Function.{the_row}
use Rattle.tac_syntax.specs.Valid.{WithFields}

abbrev pub coded_with_fields : Coded WithFields
coded_with_fields = code_by (Function × ℕ) (coded× the_row.coded coded_ℕ) (λ v. (v.function, v.fields)) (λ p. record { function = p.0; fields = p.1 }) (λ _. refl)
