-- The accumulators of a loop, each with the field that carries its partial value.
use Rattle.std.specs.Prelude.{ℕ, ◌==◌, Bool, false, not, ◌&&◌, ◌||◌, if◌then◌else◌, filter, List, [], ◌∷◌, Option, Some, None}
use Rattle.std.specs.List.{range_with_len}
use Rattle.tac_syntax.specs.Limits.{value_registers}
use Rattle.tac_syntax.specs.Code.{Code}
use Rattle.order_free.specs.declared.accumulators.Accumulation.{Accumulation}
use Rattle.order_free.specs.declared.accumulators.Accumulation.TheVariants.{Sum, Least, Greatest}
use Rattle.order_free.specs.Registers.{value_at, is_assigned}
use Rattle.order_free.specs.Accumulators.{occurs_otherwise, is_accumulator}
use Rattle.combine_rule.specs.declared.slots.Slot.{Slot}
use Rattle.combine_rule.specs.Pieces.{occurs_in}

-- the operation of an accumulator of a loop's body
abbrev pub accumulation_of : Code → ℕ → Accumulation
accumulation_of body d =
    if not (occurs_otherwise Sum (value_at d) body) then Sum else (if not (occurs_otherwise Least (value_at d) body) then Least else Greatest)

-- the loop's body assigns the register, and it is an accumulator
abbrev pub is_taken_up : Code → ℕ → Bool
is_taken_up body d = is_assigned body (value_at d) && is_accumulator body (value_at d)

-- the accumulators that a loop's body assigns, by number
abbrev pub accumulators_of : Code → List ℕ
accumulators_of body = filter (is_taken_up body) (range_with_len 0 value_registers)

abbrev pub is_among : List ℕ → ℕ → Bool
is_among [] k = false
is_among (n ∷ ns) k = (n == k) || is_among ns k

-- the fields of a set outside the keys, by number
abbrev pub spare_fields : ℕ → List ℕ → (ℕ → Bool) → List ℕ
spare_fields fields keys set = filter (λ k. set k && not (is_among keys k)) (range_with_len 0 fields)

-- accumulators paired with fields, as long as there are fields
abbrev pub slots_with : (ℕ → Accumulation) → List ℕ → List ℕ → List Slot
slots_with by [] ks = []
slots_with by (d ∷ ds) [] = []
slots_with by (d ∷ ds) (k ∷ ks) = record { register = d; by = by d; field = k } ∷ slots_with by ds ks

abbrev pub slots_of : Code → ℕ → List ℕ → (ℕ → Bool) → List Slot
slots_of body fields keys set = slots_with (accumulation_of body) (accumulators_of body) (spare_fields fields keys set)

-- the first of the numbers that doesn't occur as a value register
abbrev pub first_unused : Code → List ℕ → Option ℕ
first_unused body [] = None
first_unused body (k ∷ ks) = if occurs_in body (value_at k) then first_unused body ks else Some k

abbrev pub spare_register : Code → Option ℕ
spare_register body = first_unused body (range_with_len 0 value_registers)
