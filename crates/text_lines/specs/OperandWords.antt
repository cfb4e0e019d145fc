-- The words of operands.
use Rattle.std.specs.Prelude.{◌≡◌, ℕ, Bool, true, List, [], ◌∷◌, ◌++◌, Option, Some, None, if◌then◌else◌, codes, bytes_eq}
use Rattle.std.specs.Fmt.{decimal}
use Rattle.pact_record.specs.declared.columns.Column.{Column}
use Rattle.tac_syntax.specs.Grammar.{IsNumber}
use Rattle.text_lines.specs.declared.operands.FieldWord.{FieldWord}
use Rattle.text_lines.specs.declared.operands.FieldWord.TheVariants.{Number, Register}
use Rattle.tac_syntax.specs.declared.statements.Rec.{Rec}
use Rattle.tac_syntax.specs.declared.statements.Rec.TheVariants.{Reg, Loop, Input, Left, Right, Join, First}
use Rattle.tac_syntax.specs.declared.statements.LoopList.{LoopList}
use Rattle.tac_syntax.specs.declared.statements.LoopList.TheVariants.{Group, Left as LeftGroup, Right as RightGroup}

-- the first of these that has this word
abbrev pub named_in : {X : Type 0} → (X → List ℕ) → List X → List ℕ → Option X
named_in name [] word = None
named_in name (x ∷ xs) word = if bytes_eq word (name x) then Some x else named_in name xs word

abbrev pub value_register : ℕ → List ℕ
value_register n = codes "v" ++ decimal n

abbrev pub record_register : ℕ → List ℕ
record_register n = codes "r" ++ decimal n

abbrev pub loop_name : ℕ → List ℕ
loop_name n = codes "x" ++ decimal n

abbrev pub record_word : Rec → List ℕ
record_word (Reg k) = record_register k
record_word (Loop name) = loop_name name
record_word Input = codes "in"
record_word Left = codes "left"
record_word Right = codes "right"
record_word Join = codes "join"
record_word First = codes "first"

abbrev pub list_word : LoopList → List ℕ
list_word Group = codes "group"
list_word LeftGroup = codes "left"
list_word RightGroup = codes "right"

-- A field is spelled by its number, or by `@` and the register that holds it.
abbrev pub field_text : FieldWord → List ℕ
field_text (Number n) = decimal n
field_text (Register n) = codes "@" ++ value_register n

-- A register may name a field only if `registers` is true.
abbrev pub IsSpelledField : Bool → FieldWord → Type 0
IsSpelledField registers (Number n) = IsNumber n
IsSpelledField registers (Register n) = IsNumber n × (registers ≡ true)

-- A column is spelled by `text:` or `int:` and its field's number.
abbrev pub column_text : Column → List ℕ
column_text c = (if c.text then codes "text:" else codes "int:") ++ decimal c.field

-- the record that a word without a number names
abbrev pub fixed_record : List ℕ → Option Rec
fixed_record word = named_in record_word (Input ∷ Left ∷ Right ∷ Join ∷ First ∷ []) word
