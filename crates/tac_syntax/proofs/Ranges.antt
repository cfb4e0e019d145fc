-- The statements of a valid function are in range, and so are those of each of its bodies.
use Rattle.std.proofs.Common.{◌≡◌, ◌+◌, ℕ, Bool, true, false, if◌then◌else◌, Option, Some, None, List, [], ◌∷◌, refl}
use Rattle.std.specs.List.{AllByRecursion}
use Rattle.tac_syntax.specs.declared.functions.Function.{Function}
use Rattle.tac_syntax.specs.declared.rules.Rule.TheVariants.{Registers, Operands, Fields, KeyPositions}
use Rattle.tac_syntax.specs.Places.{Placed, placed, top_place}
use Rattle.tac_syntax.specs.Rules.{breaks_registers, breaks_operands, breaks_fields, breaks_key_positions}
use Rattle.tac_syntax.specs.Valid.{IsValid, first_break_from}
use Rattle.tac_syntax.specs.InRange.{IsInRange, AreInRange}

pub none_of : (b : Bool) (n : ℕ) (rest : Option ℕ) → (if b then Some n else rest) ≡ None → (b ≡ false) × (rest ≡ None)
none_of true n rest h = cc
none_of false n rest h = (refl, h)

AreInRange-unbroken : (n : ℕ) (xs : List Placed)
    → first_break_from Registers n xs ≡ None → first_break_from Operands n xs ≡ None
    → first_break_from Fields n xs ≡ None → first_break_from KeyPositions n xs ≡ None
    → AllByRecursion IsInRange xs
AreInRange-unbroken n [] r o f k = tt
AreInRange-unbroken n (x ∷ xs) r o f k =
    let registers = none_of (breaks_registers x.line) n (first_break_from Registers (n + 1) xs) r in
    let operands = none_of (breaks_operands x.place x.line) n (first_break_from Operands (n + 1) xs) o in
    let fields = none_of (breaks_fields x.place x.line) n (first_break_from Fields (n + 1) xs) f in
    let keys = none_of (breaks_key_positions x.place x.line) n (first_break_from KeyPositions (n + 1) xs) k in (
      record { registers = registers.0; operands = operands.0; fields = fields.0; key_positions = keys.0 },
      AreInRange-unbroken (n + 1) xs registers.1 operands.1 fields.1 keys.1,
    )

pub AreInRange-valid : (f : Function) (fields : ℕ) → IsValid f fields → AreInRange (top_place f fields) f.body
AreInRange-valid f fields h =
    AreInRange-unbroken 0 (placed (top_place f fields) f.body) (h.keeps Registers) (h.keeps Operands) (h.keeps Fields) (h.keeps KeyPositions)
