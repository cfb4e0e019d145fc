-- The canonical spelling of the lines of statements.
use Rattle.std.specs.Prelude.{ℕ, List, [], ◌∷◌, map, codes}
use Rattle.std.specs.Fmt.{decimal, signed_decimal}
use Rattle.pact_record.specs.declared.operations.Op1.{Op1}
use Rattle.pact_record.specs.declared.operations.Op1.TheVariants.{Not, IsNull, Len}
use Rattle.pact_record.specs.declared.operations.Op2.{Op2}
use Rattle.pact_record.specs.declared.operations.Op2.TheVariants.{Add, Sub, Mul, Div, Rem, AddW, Min, Max, Lt, Le, Eq, And, Or, Cat}
use Rattle.tac_syntax.specs.Code.{Simple, load_int, load_text, load_null, move_value, get_field, get_at, get_key, apply_one, apply_two, new_record, copy_record, set_field, set_at, emit_record, Line, simple, test, turns, over, otherwise, close}
use Rattle.text_lines.specs.CanonicalLines.{word_text}
use Rattle.text_lines.specs.declared.line_words.LineWord.{LineWord}
use Rattle.text_lines.specs.declared.line_words.LineWord.TheVariants.{Plain as plain_word, Literal as literal_word}
use Rattle.text_lines.specs.declared.operands.FieldWord.TheVariants.{Register as by_register}
use Rattle.text_lines.specs.OperandWords.{field_text, value_register, record_register, loop_name, record_word, list_word}

-- ---- words

abbrev pub op1_word : Op1 → List ℕ
op1_word Not = codes "not"
op1_word IsNull = codes "isnull"
op1_word Len = codes "len"

abbrev pub op2_word : Op2 → List ℕ
op2_word Add = codes "add"
op2_word Sub = codes "sub"
op2_word Mul = codes "mul"
op2_word Div = codes "div"
op2_word Rem = codes "rem"
op2_word AddW = codes "addw"
op2_word Min = codes "min"
op2_word Max = codes "max"
op2_word Lt = codes "lt"
op2_word Le = codes "le"
op2_word Eq = codes "eq"
op2_word And = codes "and"
op2_word Or = codes "or"
op2_word Cat = codes "cat"

-- ---- statements

-- an assignment: a register, `=`, a form, and the words after it
abbrev pub assigned : (register form : List ℕ) → List LineWord → List LineWord
assigned register form words = plain_word register ∷ plain_word (codes "=") ∷ plain_word form ∷ words

-- the words of a line, with a literal as the bytes that it denotes
abbrev pub words_of_simple : Simple → List LineWord
words_of_simple (load_int to value) = assigned (value_register to) (codes "int") (plain_word (signed_decimal value) ∷ [])
words_of_simple (load_text to bytes) = assigned (value_register to) (codes "text") (literal_word bytes ∷ [])
words_of_simple (load_null to) = assigned (value_register to) (codes "null") []
words_of_simple (move_value to from) = assigned (value_register to) (codes "mov") (plain_word (value_register from) ∷ [])
words_of_simple (get_field to from field) = assigned (value_register to) (codes "get") (plain_word (record_word from) ∷ plain_word (decimal field) ∷ [])
words_of_simple (get_at to from at) = assigned (value_register to) (codes "get") (plain_word (record_word from) ∷ plain_word (field_text (by_register at)) ∷ [])
words_of_simple (get_key to at) = assigned (value_register to) (codes "key") (plain_word (decimal at) ∷ [])
words_of_simple (apply_one to op a) = assigned (value_register to) (op1_word op) (plain_word (value_register a) ∷ [])
words_of_simple (apply_two to op a b) = assigned (value_register to) (op2_word op) (plain_word (value_register a) ∷ plain_word (value_register b) ∷ [])
words_of_simple (new_record to) = assigned (record_register to) (codes "new") []
words_of_simple (copy_record to from) = assigned (record_register to) (codes "copy") (plain_word (record_word from) ∷ [])
words_of_simple (set_field to field value) = map plain_word (codes "set" ∷ record_register to ∷ decimal field ∷ value_register value ∷ [])
words_of_simple (set_at to at value) = map plain_word (codes "set" ∷ record_register to ∷ field_text (by_register at) ∷ value_register value ∷ [])
words_of_simple (emit_record from) = map plain_word (codes "emit" ∷ record_register from ∷ [])

abbrev pub words_of_line : Line → List LineWord
words_of_line (simple s) = words_of_simple s
words_of_line (test on) = map plain_word (codes "if" ∷ value_register on ∷ [])
words_of_line (turns count) = map plain_word (codes "repeat" ∷ decimal count ∷ [])
words_of_line (over name list) = map plain_word (codes "each" ∷ loop_name name ∷ codes "of" ∷ list_word list ∷ [])
words_of_line otherwise = map plain_word (codes "else" ∷ [])
words_of_line close = map plain_word (codes "end" ∷ [])

-- how they are written
abbrev pub line_words : Line → List (List ℕ)
line_words l = map word_text (words_of_line l)
