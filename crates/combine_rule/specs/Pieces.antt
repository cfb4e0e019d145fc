-- The body of a function with one loop over its group, in three pieces: the statements before the loop, the loop's
-- body, and the statements after it.
use Rattle.std.specs.Prelude.{Bool, true, false, not, ◌&&◌, ◌||◌}
use Rattle.tac_syntax.specs.Code.{Simple, emit_record, Code, stop, plain, branch, again, each}
use Rattle.order_free.specs.Registers.{Register, is_value, occurs}

-- some statement is an `each`, at any depth
abbrev pub has_each : Code → Bool
has_each stop = false
has_each (plain s next) = has_each next
has_each (branch on body other next) = has_each body || (has_each other || has_each next)
has_each (again count body next) = has_each body || has_each next
has_each (each name list body next) = true

-- some statement is an `emit`, at any depth
abbrev pub emits : Simple → Bool
emits (emit_record from) = true
emits statement = false

abbrev pub has_emit : Code → Bool
has_emit stop = false
has_emit (plain s next) = emits s || has_emit next
has_emit (branch on body other next) = has_emit body || (has_emit other || has_emit next)
has_emit (again count body next) = has_emit body || has_emit next
has_emit (each name list body next) = has_emit body || has_emit next

-- the register occurs in some statement, at any depth, or as the condition of an `if`
abbrev pub occurs_in : Code → Register → Bool
occurs_in stop r = false
occurs_in (plain s next) r = occurs s r || occurs_in next r
occurs_in (branch on body other next) r = is_value on r || (occurs_in body r || (occurs_in other r || occurs_in next r))
occurs_in (again count body next) r = occurs_in body r || occurs_in next r
occurs_in (each name list body next) r = occurs_in body r || occurs_in next r

-- there is exactly one `each`, and it isn't inside another block
abbrev pub has_one_loop : Code → Bool
has_one_loop stop = false
has_one_loop (plain s next) = has_one_loop next
has_one_loop (branch on body other next) = not (has_each body || has_each other) && has_one_loop next
has_one_loop (again count body next) = not (has_each body) && has_one_loop next
has_one_loop (each name list body next) = not (has_each body || has_each next)

-- the statements before the first `each` that isn't inside another block; below, that loop's body, and the statements
-- after it
abbrev pub front_of : Code → Code
front_of stop = stop
front_of (plain s next) = plain s (front_of next)
front_of (branch on body other next) = branch on body other (front_of next)
front_of (again count body next) = again count body (front_of next)
front_of (each name list body next) = stop

abbrev pub loop_of : Code → Code
loop_of stop = stop
loop_of (plain s next) = loop_of next
loop_of (branch on body other next) = loop_of next
loop_of (again count body next) = loop_of next
loop_of (each name list body next) = body

abbrev pub rest_of : Code → Code
rest_of stop = stop
rest_of (plain s next) = rest_of next
rest_of (branch on body other next) = rest_of next
rest_of (again count body next) = rest_of next
rest_of (each name list body next) = next
