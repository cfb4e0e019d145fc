-- One context for all those in which the findings about a function are equal.
use Rattle.std.specs.Prelude.{Bool, true, false, ◌||◌}
use Rattle.tac_syntax.specs.declared.contexts.Context.{Context}
use Rattle.tac_syntax.specs.declared.functions.Kind.{Kind}
use Rattle.tac_syntax.specs.declared.functions.Kind.TheVariants.{CoGroup}
use Rattle.tac_syntax.specs.Code.{Simple, get_at, set_at, Code, stop, plain, branch, again, each}
use Rattle.tac_syntax.specs.Valid.{WithFields}

-- whether a statement takes a field's number from a register
abbrev pub takes_number : Simple → Bool
takes_number (get_at to from at) = true
takes_number (set_at to at value) = true
takes_number s = false

-- whether some statement of a body does
abbrev pub takes_numbers : Code → Bool
takes_numbers stop = false
takes_numbers (plain s next) = takes_number s || takes_numbers next
takes_numbers (branch on body other next) = takes_numbers body || (takes_numbers other || takes_numbers next)
takes_numbers (again count body next) = takes_numbers body || takes_numbers next
takes_numbers (each name list body next) = takes_numbers body || takes_numbers next

-- If no statement takes a field's number from a register, the findings about a CoGroup don't depend on the fields of
-- its inputs, only on their keys. All its contexts then share the one in which the inputs hold no field.
abbrev pub shared_by : Kind → Bool → Context → Context
shared_by CoGroup false c = record c { left = 0; right = 0 }
shared_by kind takes c = c

abbrev pub shared_context : WithFields → Context → Context
shared_context f c = shared_by f.function.kind (takes_numbers f.function.body) c
