-- What is wrong with a line that should be a declaration's: the first fault from the left.
use Rattle.std.specs.Prelude.{ℕ, ◌||◌, if◌then◌else◌, Option, Some, None, List, [], ◌∷◌, codes, bytes_eq}
use Rattle.tac_syntax.specs.Functions.{key_limit}
use Rattle.tac_syntax.specs.Versions.{field_limit}
use Rattle.text_lines.specs.declared.line_words.LineWord.{LineWord}
use Rattle.text_lines.specs.declared.line_words.LineWord.TheVariants.{Plain as plain_word, Literal as literal_word}
use Rattle.text_lines.specs.Slots.{column, equals_then, fault_then, first_fault, file_name, fixed, identifier, line_end, list_fault, number}

-- ---- what a line ends with

-- one or more columns, and at most `most`
abbrev pub columns_fault : ℕ → List LineWord → Option ℕ
columns_fault most words = list_fault column line_end most words

-- one or more numbers, and at most `limit`; fields and keys are numbers up to 255
abbrev pub numbers_fault : ℕ → List LineWord → Option ℕ
numbers_fault limit words = list_fault (number 0 255) line_end limit words

-- the left keys, `=` and the right keys
abbrev pub key_pair_fault : List LineWord → Option ℕ
key_pair_fault words = list_fault (number 0 255) (equals_then (numbers_fault key_limit)) key_limit words

-- ---- lines

-- the fault of the words after a line's first word, in a program of the version
abbrev pub word_fault : ℕ → List ℕ → List LineWord → Option ℕ
word_fault version word words =
    if bytes_eq word (codes "source") then fault_then (columns_fault (field_limit version)) (identifier ∷ file_name ∷ []) words
    else (if bytes_eq word (codes "map") then first_fault (identifier ∷ identifier ∷ identifier ∷ []) words
    else (if bytes_eq word (codes "reduce") then fault_then (numbers_fault key_limit) (identifier ∷ identifier ∷ identifier ∷ fixed (codes "by") ∷ []) words
    else (if bytes_eq word (codes "match") then fault_then key_pair_fault (identifier ∷ identifier ∷ identifier ∷ identifier ∷ fixed (codes "by") ∷ []) words
    else (if bytes_eq word (codes "cross") then first_fault (identifier ∷ identifier ∷ identifier ∷ identifier ∷ []) words
    else (if bytes_eq word (codes "cogroup") then fault_then key_pair_fault (identifier ∷ identifier ∷ identifier ∷ identifier ∷ fixed (codes "by") ∷ []) words
    else (if bytes_eq word (codes "sink") then fault_then (numbers_fault (field_limit version)) (identifier ∷ []) words
    else (if bytes_eq word (codes "else") || bytes_eq word (codes "end") then Some 10 else Some 3)))))))

-- the fault of a line's words, or None
abbrev pub declaration_fault : ℕ → List LineWord → Option ℕ
declaration_fault version [] = None
declaration_fault version (plain_word word ∷ words) = word_fault version word words
declaration_fault version (literal_word bytes ∷ words) = Some 3
