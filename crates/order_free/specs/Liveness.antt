-- The registers that are live before a body, given those that are live after it.
use Rattle.std.specs.Prelude.{Bool, not, ◌&&◌, ◌||◌}
use Rattle.tac_syntax.specs.Code.{Code, stop, plain, branch, again, each}
use Rattle.order_free.specs.Registers.{Register, RegisterSet, is_value, has_operand, assigns}

-- Each register is judged on its own: whether it is live before a body follows from whether it is live after it.
-- Going backwards, a statement of one line removes the register that it assigns from the set, and then adds its
-- operands.
-- Before an `if`, its condition is live, and so is each register that is live before either of its bodies.
-- Before a `repeat`, the registers are live that are live before its body.
-- Before an `each`, the registers are live that are live before its body, and those that are live after the loop, since
-- it may have no turn.
abbrev pub is_live : Code → Register → Bool → Bool
is_live stop r behind = behind
is_live (plain s next) r behind = has_operand s r || (is_live next r behind && not (assigns s r))
is_live (branch on body other next) r behind = is_value on r || (is_live body r (is_live next r behind) || is_live other r (is_live next r behind))
is_live (again count body next) r behind = is_live body r (is_live next r behind)
is_live (each name list body next) r behind = is_live next r behind || is_live body r (is_live next r behind)

abbrev pub live : Code → RegisterSet → RegisterSet
live c behind r = is_live c r (behind r)

-- At the end of a loop's body, the registers are live that are live after the loop. Since another turn may come, those
-- that are live before the body, with only these live after it, are live too.
abbrev pub live_at_end : Code → RegisterSet → RegisterSet
live_at_end body behind r = behind r || live body behind r
