-- Numbers of the language.
use Rattle.std.specs.Prelude.{ℕ}

-- how many value registers there are, and how many record registers
abbrev pub value_registers : ℕ
value_registers = 32

abbrev pub record_registers : ℕ
record_registers = 8

-- the greatest depth to which a body's blocks are nested
abbrev pub nesting_limit : ℕ
nesting_limit = 64

-- the most statements that a valid function can have
abbrev pub statement_limit : ℕ
statement_limit = 1000

-- An `if` of a valid function is inside fewer than this many others.
abbrev pub if_limit : ℕ
if_limit = 8

-- A loop of a valid function, `each` or `repeat`, is inside fewer than this many others.
abbrev pub loop_limit : ℕ
loop_limit = 3

-- the greatest product of the counts of nested `repeat`
abbrev pub turn_limit : ℕ
turn_limit = 100000
