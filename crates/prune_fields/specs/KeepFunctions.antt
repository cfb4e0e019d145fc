-- The function that keeps the fields of a set, and drops the others.
use Rattle.std.specs.Prelude.{◌+◌, ℕ, zero, suc, cond, decimal, List, [], ◌∷◌}
use Rattle.tac_syntax.specs.declared.functions.Kind.TheVariants as kinds
use Rattle.tac_syntax.specs.declared.statements.Rec.TheVariants.{Input}
use Rattle.tac_syntax.specs.Code.{Code, stop, plain, get_field, set_field, new_record, emit_record}
use Rattle.tac_syntax.specs.Contexts.{FieldSet}
use Rattle.tac_syntax.specs.Valid.{WithFields}

-- the fields of a set among the `count` fields from `at` on, rising
abbrev pub members_from : FieldSet → (at count : ℕ) → List ℕ
members_from s at zero = []
members_from s at (suc count) = cond (s at) (at ∷ members_from s (at + 1) count) (members_from s (at + 1) count)

-- the fields of a set below a number
abbrev pub members : ℕ → FieldSet → List ℕ
members fields s = members_from s 0 fields

-- `v0 = get in k` and `set r0 k v0` for each field, and then `emit r0`
abbrev pub kept_fields : List ℕ → Code
kept_fields [] = plain (emit_record 0) stop
kept_fields (k ∷ ks) = plain (get_field 0 Input k) (plain (set_field 0 k 0) (kept_fields ks))

-- the body: `r0 = new`, and then the statements for each field
abbrev pub keep_body : ℕ → FieldSet → Code
keep_body fields s = plain (new_record 0) (kept_fields (members fields s))

-- Its name is a number; no program text can declare such a name.
abbrev pub keep_function : (number fields : ℕ) → FieldSet → WithFields
keep_function number fields s =
    record { function = record { name = decimal number; kind = kinds.Map; keys = 0; body = keep_body fields s }; fields = fields }
