-- The function that a drill calls for groups passes the order test.
use Rattle.std.proofs.Common.{◌≡◌, ap, not, zero, suc, false, refl, arith}
use Rattle.std.proofs.lemmas.Bool.{both_ways}
use Rattle.pact_record.specs.declared.operations.Op2.TheVariants.{AddW}
use Rattle.tac_syntax.specs.declared.statements.Rec.TheVariants.{Loop}
use Rattle.tac_syntax.specs.Code.{Code, stop, plain, get_field, get_key, apply_two, new_record, set_field, emit_record}
use Rattle.order_free.specs.OrderFree.{IsLoopFree, IsOrderFree}
use Rattle.order_free.specs.Registers.{RegisterSet, no_registers, value_at, record_at}
use Rattle.order_free.specs.Liveness.{live}
use Rattle.drill_program.specs.Drill.{total}

abbrev loop_body : Code
loop_body = plain (get_field 1 (Loop 1) 1) (plain (apply_two 0 AddW 0 1) stop)

abbrev behind_loop : Code
behind_loop = plain (new_record 0) (plain (get_key 2 0) (plain (set_field 0 0 2) (plain (set_field 0 3 0) (plain (emit_record 0) stop))))

-- the first value register is the sum, and the second one is set again for each record
loop_free : (behind : RegisterSet) → behind (value_at 1) ≡ false → IsLoopFree loop_body behind
loop_free behind e (value_at zero) h = refl
loop_free behind e (value_at (suc zero)) h = ap not e
loop_free behind e (value_at (suc (suc d))) h = absurd (grind (arith, h))
loop_free behind e (record_at k) h = absurd (both_ways false refl h)

pub total_free : IsOrderFree total.kind total.body
total_free = (refl, (loop_free (live behind_loop no_registers) refl, tt, tt))
