-- Accumulators of a loop's body: registers that collect a sum, a least or a greatest value over all turns.
use Rattle.std.specs.Prelude.{Bool, true, false, not, ◌&&◌, ◌||◌}
use Rattle.pact_record.specs.declared.operations.Op2.{Op2}
use Rattle.pact_record.specs.declared.operations.Op2.TheVariants.{AddW, Min, Max}
use Rattle.tac_syntax.specs.Code.{Simple, apply_two, Code, stop, plain, branch, again, each}
use Rattle.order_free.specs.declared.accumulators.Accumulation.{Accumulation}
use Rattle.order_free.specs.declared.accumulators.Accumulation.TheVariants.{Sum, Least, Greatest}
use Rattle.order_free.specs.Registers.{Register, value_at, record_at, is_value, occurs}

abbrev pub op_of : Accumulation → Op2
op_of Sum = AddW
op_of Least = Min
op_of Greatest = Max

abbrev pub is_op_of : Accumulation → Op2 → Bool
is_op_of Sum AddW = true
is_op_of Least Min = true
is_op_of Greatest Max = true
is_op_of by op = false

-- the statement is `vD = OP vD vA` with that operation, where vD is the register and vA is another one
abbrev pub accumulates : Accumulation → Register → Simple → Bool
accumulates by r (apply_two to op a b) = is_op_of by op && (is_value to r && (is_value a r && not (is_value b r)))
accumulates by r statement = false

-- the register occurs in the statement in any other way
abbrev pub is_used_otherwise : Accumulation → Register → Simple → Bool
is_used_otherwise by r s = occurs s r && not (accumulates by r s)

-- the register occurs so in a body, at any depth, or is the condition of an `if`
abbrev pub occurs_otherwise : Accumulation → Register → Code → Bool
occurs_otherwise by r stop = false
occurs_otherwise by r (plain s next) = is_used_otherwise by r s || occurs_otherwise by r next
occurs_otherwise by r (branch on body other next) = is_value on r || (occurs_otherwise by r body || (occurs_otherwise by r other || occurs_otherwise by r next))
occurs_otherwise by r (again count body next) = occurs_otherwise by r body || occurs_otherwise by r next
occurs_otherwise by r (each name list body next) = occurs_otherwise by r body || occurs_otherwise by r next

-- A value register that a body assigns is an accumulator if all its assignments in the body are such statements, all
-- with the same operation, and it doesn't occur in the body in any other way. The order test asks this only about
-- registers that the body assigns.
abbrev pub is_accumulator : Code → Register → Bool
is_accumulator body (value_at d) =
    not (occurs_otherwise Sum (value_at d) body) || (not (occurs_otherwise Least (value_at d) body) || not (occurs_otherwise Greatest (value_at d) body))
is_accumulator body (record_at k) = false
