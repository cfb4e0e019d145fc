-- What a text can spell.
use Rattle.std.specs.Prelude.{◌≡◌, ◌≤◌, ◌+◌, ℕ, List, length, IsUtf8, FitsSigned}
use mir.Syntax.{w64}
use Rattle.pact_record.specs.Limits.{text_limit}
use Rattle.tac_syntax.specs.declared.statements.Rec.{Rec}
use Rattle.tac_syntax.specs.declared.statements.Rec.TheVariants.{Reg, Loop, Input, Left, Right, Join, First}
use Rattle.tac_syntax.specs.Code.{Simple, load_int, load_text, load_null, move_value, get_field, get_at, get_key, apply_one, apply_two, new_record, copy_record, set_field, set_at, emit_record, Code, stop, plain, branch, again, each, Line, simple, test, turns, over, otherwise, close}

-- ---- the numbers that a text has

-- registers, fields and positions of keys
abbrev pub IsNumber : ℕ → Type 0
IsNumber n = n ≤ 255

-- names of loops
abbrev pub IsLoopName : ℕ → Type 0
IsLoopName n = (1 ≤ n) × (n ≤ 64)

-- the turns of a `repeat`
abbrev pub IsTurnCount : ℕ → Type 0
IsTurnCount n = (1 ≤ n) × (n ≤ 1000)

-- the bytes that a literal can denote
abbrev pub IsLiteral : List ℕ → Type 0
IsLiteral bytes = (length bytes ≤ text_limit) × IsUtf8 bytes

-- ---- statements

abbrev pub IsSpelledRecord : Rec → Type 0
IsSpelledRecord (Reg k) = IsNumber k
IsSpelledRecord (Loop name) = IsLoopName name
IsSpelledRecord Input = Unit {0}
IsSpelledRecord Left = Unit {0}
IsSpelledRecord Right = Unit {0}
IsSpelledRecord Join = Unit {0}
IsSpelledRecord First = Unit {0}

abbrev pub IsSpelledSimple : Simple → Type 0
IsSpelledSimple (load_int to value) = IsNumber to × FitsSigned w64 value
IsSpelledSimple (load_text to bytes) = IsNumber to × IsLiteral bytes
IsSpelledSimple (load_null to) = IsNumber to
IsSpelledSimple (move_value to from) = IsNumber to × IsNumber from
IsSpelledSimple (get_field to from field) = IsNumber to × IsSpelledRecord from × IsNumber field
IsSpelledSimple (get_at to from at) = IsNumber to × IsSpelledRecord from × IsNumber at
IsSpelledSimple (get_key to at) = IsNumber to × IsNumber at
IsSpelledSimple (apply_one to op a) = IsNumber to × IsNumber a
IsSpelledSimple (apply_two to op a b) = IsNumber to × IsNumber a × IsNumber b
IsSpelledSimple (new_record to) = IsNumber to
IsSpelledSimple (copy_record to from) = IsNumber to × IsSpelledRecord from
IsSpelledSimple (set_field to field value) = IsNumber to × IsNumber field × IsNumber value
IsSpelledSimple (set_at to at value) = IsNumber to × IsNumber at × IsNumber value
IsSpelledSimple (emit_record from) = IsNumber from

-- a line inside `lists` loops over lists; a loop's name is one more than their number
abbrev pub IsSpelledLine : ℕ → Line → Type 0
IsSpelledLine lists (simple s) = IsSpelledSimple s
IsSpelledLine lists (test on) = IsNumber on
IsSpelledLine lists (turns count) = IsTurnCount count
IsSpelledLine lists (over name list) = (name ≡ lists + 1) × IsLoopName name
IsSpelledLine lists otherwise = Unit {0}
IsSpelledLine lists close = Unit {0}

-- ---- bodies

abbrev pub IsSpelled : ℕ → Code → Type 0
IsSpelled lists stop = Unit {0}
IsSpelled lists (plain s next) = IsSpelledLine lists (simple s) × IsSpelled lists next
IsSpelled lists (branch on body other next) = IsSpelledLine lists (test on) × IsSpelled lists body × IsSpelled lists other × IsSpelled lists next
IsSpelled lists (again count body next) = IsSpelledLine lists (turns count) × IsSpelled lists body × IsSpelled lists next
IsSpelled lists (each name list body next) = IsSpelledLine lists (over name list) × IsSpelled (lists + 1) body × IsSpelled lists next
