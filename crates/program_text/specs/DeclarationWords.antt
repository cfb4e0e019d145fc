-- The words of a declaration's line.
use Rattle.std.specs.Prelude.{ℕ, List, [], ◌∷◌, ◌++◌, map, codes, decimal, Bool, true, false}
use Rattle.pact_record.specs.declared.columns.Column.{Column}
use Rattle.tac_syntax.specs.declared.declarations.OpKind.{OpKind}
use Rattle.tac_syntax.specs.declared.declarations.OpKind.TheVariants.{Source as SourceKind, Map, Reduce, Match, Cross, CoGroup}
use Rattle.tac_syntax.specs.declared.declarations.Decl.{Decl}
use Rattle.tac_syntax.specs.declared.declarations.Decl.TheVariants.{Source, Function, Op, Sink}
use Rattle.text_lines.specs.declared.line_words.LineWord.{LineWord}
use Rattle.text_lines.specs.declared.line_words.LineWord.TheVariants.{Plain as plain_word}
use Rattle.text_lines.specs.OperandWords.{column_text}

-- words as the line spells them
abbrev pub plain_words : List (List ℕ) → List LineWord
plain_words texts = map plain_word texts

-- a number is written in decimal
abbrev pub number_word : ℕ → LineWord
number_word n = plain_word (decimal n)

abbrev pub number_words : List ℕ → List LineWord
number_words numbers = map number_word numbers

abbrev pub column_word : Column → LineWord
column_word c = plain_word (column_text c)

-- the keys of the left input, `=`, and those of the right input
abbrev pub key_pair_words : List ℕ → List ℕ → List LineWord
key_pair_words left_keys right_keys = number_words left_keys ++ plain_word (codes "=") ∷ number_words right_keys

-- an operator's line, by its kind
abbrev pub words_of_op : OpKind → (name function left right left_keys right_keys : List ℕ) → List LineWord
words_of_op SourceKind name function left right left_keys right_keys = []
words_of_op Map name function left right left_keys right_keys = plain_words (codes "map" ∷ name ∷ function ∷ left ∷ [])
words_of_op Reduce name function left right left_keys right_keys = plain_words (codes "reduce" ∷ name ∷ function ∷ left ∷ codes "by" ∷ []) ++ number_words left_keys
words_of_op Match name function left right left_keys right_keys =
    plain_words (codes "match" ∷ name ∷ function ∷ left ∷ right ∷ codes "by" ∷ []) ++ key_pair_words left_keys right_keys
words_of_op Cross name function left right left_keys right_keys = plain_words (codes "cross" ∷ name ∷ function ∷ left ∷ right ∷ [])
words_of_op CoGroup name function left right left_keys right_keys =
    plain_words (codes "cogroup" ∷ name ∷ function ∷ left ∷ right ∷ codes "by" ∷ []) ++ key_pair_words left_keys right_keys

-- A function is declared by several lines, and has no words here.
abbrev pub words_of_decl : Decl → List LineWord
words_of_decl (Source name file columns) = plain_words (codes "source" ∷ name ∷ file ∷ []) ++ map column_word columns
words_of_decl (Function number) = []
words_of_decl (Op name kind function left right left_keys right_keys) = words_of_op kind name function left right left_keys right_keys
words_of_decl (Sink input fields) = plain_words (codes "sink" ∷ input ∷ []) ++ number_words fields

-- ---- an operator's line after its first input

-- whether operators of the kind have a second input
abbrev pub has_right : OpKind → Bool
has_right Match = true
has_right Cross = true
has_right CoGroup = true
has_right kind = false

-- the second input, and the keys
abbrev pub behind_left : OpKind → (right left_keys right_keys : List ℕ) → List LineWord
behind_left Reduce right left_keys right_keys = plain_word (codes "by") ∷ number_words left_keys
behind_left Match right left_keys right_keys = plain_word right ∷ plain_word (codes "by") ∷ key_pair_words left_keys right_keys
behind_left Cross right left_keys right_keys = plain_word right ∷ []
behind_left CoGroup right left_keys right_keys = plain_word right ∷ plain_word (codes "by") ∷ key_pair_words left_keys right_keys
behind_left kind right left_keys right_keys = []
