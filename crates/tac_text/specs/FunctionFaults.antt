-- What is wrong with a line of a function's text: the first fault from the left.
use Rattle.std.specs.Prelude.{ℕ, Bool, ◌||◌, if◌then◌else◌, Option, Some, None, List, [], ◌∷◌, codes, bytes_eq}
use Rattle.tac_syntax.specs.declared.functions.Kind.{Kind}
use Rattle.tac_syntax.specs.declared.functions.Kind.TheVariants.{Map, Match, Cross, Reduce, CoGroup}
use Rattle.tac_syntax.specs.Functions.{key_limit}
use Rattle.text_lines.specs.declared.line_words.LineWord.{LineWord}
use Rattle.text_lines.specs.declared.line_words.LineWord.TheVariants.{Plain as plain_word, Literal as literal_word}
use Rattle.tac_text.specs.StatementFaults.{statement_fault}
use Rattle.text_lines.specs.OperandWords.{named_in}
use Rattle.tac_text.specs.FunctionLines.{kind_word}
use Rattle.text_lines.specs.Slots.{Slot, identifier, number, fault_then, first_fault}
use Rattle.tac_text.specs.StatementLines.{LinePlace}

-- before the header, inside the function, and after its `end`
pub data FunctionPlace : Type 0 where
  header_due : FunctionPlace
  inside_body : (place : LinePlace) → FunctionPlace
  function_ended : FunctionPlace

-- ---- headers

abbrev pub kind_named : List ℕ → Option Kind
kind_named word = named_in kind_word (Map ∷ Match ∷ Cross ∷ Reduce ∷ CoGroup ∷ []) word

abbrev pub kind_of_word : LineWord → Option Kind
kind_of_word (plain_word word) = kind_named word
kind_of_word (literal_word bytes) = None

-- what is expected after a kind: the number of keys for the kinds that have keys
abbrev pub key_slots : Kind → List Slot
key_slots Reduce = number 1 key_limit ∷ []
key_slots CoGroup = number 1 key_limit ∷ []
key_slots kind = []

-- fault 9 if a word isn't a kind
abbrev pub keys_fault : Option Kind → List LineWord → Option ℕ
keys_fault None words = Some 9
keys_fault (Some kind) words = first_fault (key_slots kind) words

-- the fault of the words after the name
abbrev pub kind_fault : List LineWord → Option ℕ
kind_fault [] = Some 4
kind_fault (word ∷ words) = keys_fault (kind_of_word word) words

-- the fault of the words after `function`
abbrev pub named_fault : List LineWord → Option ℕ
named_fault words = fault_then kind_fault (identifier ∷ []) words

abbrev pub is_part_or_end : List ℕ → Bool
is_part_or_end word = bytes_eq word (codes "else") || bytes_eq word (codes "end")

-- A first word other than `function` has fault 10 if it is `else` or `end`, and otherwise fault 3.
abbrev pub header_fault : List LineWord → Option ℕ
header_fault [] = None
header_fault (plain_word word ∷ words) =
    if bytes_eq word (codes "function") then named_fault words else (if is_part_or_end word then Some 10 else Some 3)
header_fault (literal_word bytes ∷ words) = Some 3

-- ---- functions

-- After the `end` no words may follow.
abbrev pub ended_fault : List LineWord → Option ℕ
ended_fault [] = None
ended_fault (word ∷ words) = Some 3

abbrev pub function_fault : FunctionPlace → List LineWord → Option ℕ
function_fault header_due words = header_fault words
function_fault (inside_body place) words = statement_fault place words
function_fault function_ended words = ended_fault words

-- the fault reported if the text ends here
abbrev pub function_missing : FunctionPlace → Option ℕ
function_missing header_due = Some 10
function_missing (inside_body place) = Some 10
function_missing function_ended = None
