-- What is expected at each place of a line, and what is wrong with the words there: the first fault from the left.
use Rattle.std.specs.Prelude.{ℕ, ◌-◌, ◌==◌, Bool, false, if◌then◌else◌, is_some, Option, Some, None, List, [], ◌∷◌, length, take, drop, codes, bytes_eq}
use Rattle.std.specs.Str.Parse.{digits_value}
use Rattle.tac_syntax.specs.Names.{is_name, is_file_name}
use Rattle.tac_syntax.specs.declared.statements.LoopList.TheVariants.{Group, Left as LeftGroup, Right as RightGroup}
use Rattle.text_lines.specs.OperandWords.{fixed_record, list_word, named_in}
use Rattle.text_lines.specs.Digits.{is_in_form, is_in_range, is_signed_word, told_unless, or_else}
use Rattle.text_lines.specs.LineGrammar.{LineWord, plain_word, literal_word, is_plain}

-- what is expected of a word
pub data Slot : Type 0 where
  fixed : (word : List ℕ) → Slot
  register : (letter : ℕ) → Slot
  operand : Slot
  number : (low high : ℕ) → Slot
  which_field : (registers : Bool) → Slot
  signed : Slot
  text : Slot
  loop : (name : ℕ) → Slot
  list : Slot
  identifier : Slot
  file_name : Slot
  column : Slot

-- the fault of a number after a letter
abbrev pub numbered_fault : ℕ → ℕ → List ℕ → Option ℕ
numbered_fault low high [] = Some 7
numbered_fault low high (b ∷ bytes) = told_unless (is_in_range low high bytes) 7

abbrev pub register_fault : ℕ → List ℕ → Option ℕ
register_fault letter word = if is_in_form letter word then numbered_fault 0 255 word else Some 8

-- a word that names a record without a number
abbrev pub is_fixed_record : List ℕ → Bool
is_fixed_record word = is_some (fixed_record word)

-- an operand: such a word, a record register, or the name of a loop
abbrev pub operand_fault : List ℕ → Option ℕ
operand_fault word =
    if is_fixed_record word then None
    else (if is_in_form 114 word then numbered_fault 0 255 word
    else (if is_in_form 120 word then numbered_fault 1 64 word else Some 8))

-- Only the loop name of this place is allowed. Another one in form and in range has fault 11.
abbrev pub name_fault : ℕ → List ℕ → Option ℕ
name_fault name [] = Some 8
name_fault name (b ∷ bytes) =
    if is_in_form 120 (b ∷ bytes) then (if is_in_range 1 64 bytes then told_unless (digits_value 10 bytes == name) 11 else Some 7) else Some 8

abbrev pub is_list_word : List ℕ → Bool
is_list_word word = is_some (named_in list_word (Group ∷ LeftGroup ∷ RightGroup ∷ []) word)

abbrev pub begins_with : List ℕ → List ℕ → Bool
begins_with front word = bytes_eq (take (length front) word) front

-- `text:` or `int:`, and a field's number
abbrev pub column_fault : List ℕ → Option ℕ
column_fault word =
    if begins_with (codes "text:") word then told_unless (is_in_range 0 255 (drop 5 word)) 7
    else (if begins_with (codes "int:") word then told_unless (is_in_range 0 255 (drop 4 word)) 7 else Some 8)

-- a field's number, or `@` and a value register if `registers` is true
abbrev pub field_fault : Bool → List ℕ → Option ℕ
field_fault registers word =
    if begins_with (codes "@") word then (if registers then register_fault 118 (drop 1 word) else Some 7) else told_unless (is_in_range 0 255 word) 7

-- the fault of a word of another kind
abbrev pub other_fault : Slot → ℕ
other_fault (number low high) = 7
other_fault (which_field registers) = 7
other_fault signed = 7
other_fault identifier = 6
other_fault file_name = 6
other_fault slot = 8

-- A literal is allowed only where a text is expected, and no other word is allowed there.
abbrev pub slot_fault : Slot → LineWord → Option ℕ
slot_fault (fixed w) (plain_word word) = told_unless (bytes_eq word w) 8
slot_fault (register letter) (plain_word word) = register_fault letter word
slot_fault operand (plain_word word) = operand_fault word
slot_fault (number low high) (plain_word word) = told_unless (is_in_range low high word) 7
slot_fault (which_field registers) (plain_word word) = field_fault registers word
slot_fault signed (plain_word word) = told_unless (is_signed_word word) 7
slot_fault (loop name) (plain_word word) = name_fault name word
slot_fault list (plain_word word) = told_unless (is_list_word word) 8
slot_fault identifier (plain_word word) = told_unless (is_name word) 6
slot_fault file_name (plain_word word) = told_unless (is_file_name word) 6
slot_fault column (plain_word word) = column_fault word
slot_fault text (literal_word bytes) = None
slot_fault slot word = Some (other_fault slot)

-- ---- the words of a line, from the left

abbrev pub nothing_left : List LineWord → Option ℕ
nothing_left [] = None
nothing_left (word ∷ words) = Some 5

-- the first fault of a word at each place, or of the words after them
abbrev pub fault_then : (List LineWord → Option ℕ) → List Slot → List LineWord → Option ℕ
fault_then behind [] words = behind words
fault_then behind (slot ∷ slots) [] = Some 4
fault_then behind (slot ∷ slots) (word ∷ words) = or_else (slot_fault slot word) (fault_then behind slots words)

-- the first fault of words that should fill these slots exactly
abbrev pub first_fault : List Slot → List LineWord → Option ℕ
first_fault slots words = fault_then nothing_left slots words

-- How a list ends: at a word that others follow, or at the line's end. `missing` is the fault if the words run out
-- before the end, and `full` the fault if the list has its last possible item and doesn't end.
pub record ListEnd : Type 0 where
  pub ends : LineWord → Bool
  pub behind : List LineWord → Option ℕ
  pub missing : Option ℕ
  pub full : ℕ

abbrev pub line_end : ListEnd
line_end = record { ends = λ _. false; behind = λ _. None; missing = None; full = 5 }

abbrev pub equals_then : (List LineWord → Option ℕ) → ListEnd
equals_then behind = record { ends = is_plain (codes "="); behind = behind; missing = Some 4; full = 8 }

-- The list has room for `room` more items. Each word up to the list's end must fit, including the first one too many.
abbrev pub items_fault : Slot → ListEnd → ℕ → List LineWord → Option ℕ
items_fault slot e room [] = e.missing
items_fault slot e room (word ∷ words) =
    if e.ends word then e.behind words else or_else (slot_fault slot word) (if room == 0 then Some e.full else items_fault slot e (room - 1) words)

-- one word or more, up to the limit
abbrev pub list_fault : Slot → ListEnd → ℕ → List LineWord → Option ℕ
list_fault slot e limit [] = Some 4
list_fault slot e limit (word ∷ words) = or_else (slot_fault slot word) (items_fault slot e (limit - 1) words)
