-- The order test: whether the loops of a function may take the records of a group in any order, judged by its code.
use Rattle.std.specs.Prelude.{◌≡◌, Bool, true, false, not, ◌&&◌, ◌||◌}
use Rattle.tac_syntax.specs.declared.functions.Kind.{Kind}
use Rattle.tac_syntax.specs.declared.functions.Kind.TheVariants.{Map, Match, Cross, Reduce, CoGroup}
use Rattle.tac_syntax.specs.Code.{Code, stop, plain, branch, again, each}
use Rattle.order_free.specs.Registers.{Register, RegisterSet, no_registers, is_assigned, has_first}
use Rattle.order_free.specs.Liveness.{is_live, live, live_at_end}
use Rattle.order_free.specs.Accumulators.{is_accumulator}

-- A local of a loop's body: it isn't live before the body with nothing live after it, and isn't live after the loop.
abbrev pub is_local : Code → RegisterSet → Register → Bool
is_local body behind r = not (is_live body r false) && not (behind r)

-- Each register that the body of a loop assigns is an accumulator or a local, given the registers that are live after
-- the loop.
abbrev pub IsLoopFree : Code → RegisterSet → Type 0
IsLoopFree body behind = (r : Register) → is_assigned body r ≡ true → (is_accumulator body r || is_local body behind r) ≡ true

-- `IsLoopFree` holds for each `each` of a body, at any depth, given the registers that are live after the body.
abbrev pub AreLoopsFree : Code → RegisterSet → Type 0
AreLoopsFree stop behind = Unit {0}
AreLoopsFree (plain s next) behind = AreLoopsFree next behind
AreLoopsFree (branch on body other next) behind = AreLoopsFree body (live next behind) × AreLoopsFree other (live next behind) × AreLoopsFree next behind
AreLoopsFree (again count body next) behind = AreLoopsFree body (live_at_end body (live next behind)) × AreLoopsFree next behind
AreLoopsFree (each name list body next) behind =
    IsLoopFree body (live next behind) × AreLoopsFree body (live_at_end body (live next behind)) × AreLoopsFree next behind

-- No statement reads the first record of the group, and every loop is free. After the function no register is live.
abbrev pub IsGroupFree : Code → Type 0
IsGroupFree body = (has_first body ≡ false) × AreLoopsFree body no_registers

abbrev pub IsOrderFree : Kind → Code → Type 0
IsOrderFree Map body = Unit {0}
IsOrderFree Match body = Unit {0}
IsOrderFree Cross body = Unit {0}
IsOrderFree Reduce body = IsGroupFree body
IsOrderFree CoGroup body = IsGroupFree body
