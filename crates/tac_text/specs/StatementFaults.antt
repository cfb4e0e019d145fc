-- What is wrong with a line that should be a statement's: its first fault from the left.
use Rattle.std.specs.Prelude.{ℕ, ◌+◌, Bool, ◌||◌, if◌then◌else◌, is_some, nat_lt, Option, Some, None, List, [], ◌∷◌, codes, bytes_eq}
use Rattle.pact_record.specs.declared.operations.Op1.TheVariants.{Not, IsNull, Len}
use Rattle.tac_syntax.specs.Coding.{all_op2}
use Rattle.tac_syntax.specs.Limits.{nesting_limit}
use Rattle.text_lines.specs.declared.line_words.LineWord.{LineWord}
use Rattle.text_lines.specs.declared.line_words.LineWord.TheVariants.{Plain as plain_word, Literal as literal_word}
use Rattle.text_lines.specs.Digits.{is_in_form, or_else}
use Rattle.text_lines.specs.OperandWords.{named_in}
use Rattle.tac_text.specs.StatementSpelling.{op1_word, op2_word}
use Rattle.tac_text.specs.StatementLines.{LinePlace}
use Rattle.text_lines.specs.LineGrammar.{is_plain}
use Rattle.text_lines.specs.Slots.{Slot, fixed, register, operand, number, which_field, signed, text, loop, list, numbered_fault, register_fault, first_fault}

-- ---- assignments

abbrev pub is_op1 : List ℕ → Bool
is_op1 word = is_some (named_in op1_word (Not ∷ IsNull ∷ Len ∷ []) word)

abbrev pub is_op2 : List ℕ → Bool
is_op2 word = is_some (named_in op2_word all_op2 word)

-- what the word after `=` requires: the letter of the target, and the words after it
pub record Wanted : Type 0 where
  pub letter : ℕ
  pub slots : List Slot

abbrev pub to_value : List Slot → Option Wanted
to_value slots = Some (record { letter = 118; slots = slots })

abbrev pub to_record : List Slot → Option Wanted
to_record slots = Some (record { letter = 114; slots = slots })

abbrev pub wanted_by : Bool → List ℕ → Option Wanted
wanted_by registers word =
    if bytes_eq word (codes "int") then to_value (signed ∷ [])
    else (if bytes_eq word (codes "text") then to_value (text ∷ [])
    else (if bytes_eq word (codes "null") then to_value []
    else (if bytes_eq word (codes "mov") then to_value (register 118 ∷ [])
    else (if bytes_eq word (codes "get") then to_value (operand ∷ which_field registers ∷ [])
    else (if bytes_eq word (codes "key") then to_value (number 0 255 ∷ [])
    else (if bytes_eq word (codes "new") then to_record []
    else (if bytes_eq word (codes "copy") then to_record (operand ∷ [])
    else (if is_op1 word then to_value (register 118 ∷ [])
    else (if is_op2 word then to_value (register 118 ∷ register 118 ∷ []) else None)))))))))

abbrev pub form_wanted : Bool → LineWord → Option Wanted
form_wanted registers (plain_word word) = wanted_by registers word
form_wanted registers (literal_word bytes) = None

-- the fault of a target if no form says which kind of register is expected
abbrev pub target_alone : List ℕ → Option ℕ
target_alone word = numbered_fault 0 255 word

abbrev pub form_fault : List ℕ → Option Wanted → List LineWord → Option ℕ
form_fault target None words = or_else (target_alone target) (Some 9)
form_fault target (Some w) words = or_else (register_fault w.letter target) (first_fault w.slots words)

-- the fault of a target and the words after it
abbrev pub assignment_fault : Bool → List ℕ → List LineWord → Option ℕ
assignment_fault registers target [] = or_else (target_alone target) (Some 4)
assignment_fault registers target (equals ∷ []) = or_else (target_alone target) (if is_plain (codes "=") equals then Some 4 else Some 8)
assignment_fault registers target (equals ∷ form ∷ words) = if is_plain (codes "=") equals then form_fault target (form_wanted registers form) words else or_else (target_alone target) (Some 8)

-- ---- lines

-- A block inside 64 others has its fault at its first word, before the line's other faults.
abbrev pub block_fault : LinePlace → List Slot → List LineWord → Option ℕ
block_fault p slots words = if nat_lt p.blocks nesting_limit then first_fault slots words else Some 10

abbrev pub is_target : List ℕ → Bool
is_target word = is_in_form 118 word || is_in_form 114 word

abbrev pub word_fault : LinePlace → List ℕ → List LineWord → Option ℕ
word_fault p word words =
    if bytes_eq word (codes "set") then first_fault (register 114 ∷ which_field p.registers ∷ register 118 ∷ []) words
    else (if bytes_eq word (codes "emit") then first_fault (register 114 ∷ []) words
    else (if bytes_eq word (codes "if") then block_fault p (register 118 ∷ []) words
    else (if bytes_eq word (codes "repeat") then block_fault p (number 1 1000 ∷ []) words
    else (if bytes_eq word (codes "each") then block_fault p (loop (p.lists + 1) ∷ fixed (codes "of") ∷ list ∷ []) words
    else (if bytes_eq word (codes "else") then (if p.may_part then first_fault [] words else Some 10)
    else (if bytes_eq word (codes "end") then first_fault [] words
    else (if is_target word then assignment_fault p.registers word words else Some 3)))))))

-- the fault of a line with words, or None
abbrev pub statement_fault : LinePlace → List LineWord → Option ℕ
statement_fault p [] = None
statement_fault p (plain_word word ∷ words) = word_fault p word words
statement_fault p (literal_word bytes ∷ words) = Some 3
