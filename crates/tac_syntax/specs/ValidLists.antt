-- Lists of functions with their numbers of fields.
use Rattle.std.specs.Prelude.{List}
use Rattle.std.specs.Coded.{Coded, coded_list}
use Rattle.std.specs.List.{AllByRecursion}
use Rattle.tac_syntax.specs.Sealed.{coded_with_fields}
use Rattle.tac_syntax.specs.Valid.{WithFields, IsValid}

-- each function breaks no rule
abbrev pub AreValid : List WithFields → Type 0
AreValid valids = AllByRecursion (λ v. IsValid v.function v.fields) valids

-- how they are stored in the logic
abbrev pub coded_valids : Coded (List WithFields)
coded_valids = coded_list coded_with_fields
