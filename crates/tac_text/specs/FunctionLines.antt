-- The lines that spell a body, and the text of a function: its header, the lines of its body, and `end`.
use Rattle.std.specs.Prelude.{Bool, ◌≡◌, ◌⊎◌, List, [], ◌∷◌, ◌++◌, ◌≤◌, ℕ, map, length, drop, IsTrue, codes, decimal}
use Rattle.tac_syntax.specs.Code.{Code, stop, plain, branch, again, each, Line, simple, test, turns, over, otherwise, close, nesting}
use Rattle.tac_syntax.specs.declared.functions.Kind.{Kind}
use Rattle.tac_syntax.specs.declared.functions.Kind.TheVariants.{Map, Match, Cross, Reduce, CoGroup}
use Rattle.tac_syntax.specs.declared.functions.Function.{Function}
use Rattle.tac_syntax.specs.Functions.{HasKeys, IsSpelledFunction}
use Rattle.tac_syntax.specs.Limits.{nesting_limit}
use Rattle.tac_syntax.specs.Names.{is_name}
use Rattle.tac_syntax.specs.FieldRegisters.{Takes}
use Rattle.text_lines.specs.declared.line_words.LineWord.{LineWord}
use Rattle.text_lines.specs.declared.line_words.LineWord.TheVariants.{Plain as plain_word}
use Rattle.text_lines.specs.TextLines.{HasWords, Say, lines_of}
use Rattle.tac_text.specs.StatementSpelling.{words_of_line}

-- ---- bodies

-- The lines of a body's statements, in order. A statement of one line is that line. A block is its first line, the
-- lines of the body inside it, and `end`. The bodies of an `if` are separated by `else`, which may be left out if the
-- second body has no lines.
abbrev pub SpellsBody : Code → List Line → Type 0
SpellsBody stop lines = lines ≡ []
SpellsBody (plain s next) lines = (rest : List Line) × (lines ≡ simple s ∷ rest) × SpellsBody next rest
SpellsBody (branch on body other next) lines =
    (first second rest : List Line) × SpellsBody body first × SpellsBody other second × SpellsBody next rest
    × ((lines ≡ test on ∷ (first ++ otherwise ∷ (second ++ close ∷ rest))) ⊎ ((second ≡ []) × (lines ≡ test on ∷ (first ++ close ∷ rest))))
SpellsBody (again count body next) lines =
    (inside rest : List Line) × SpellsBody body inside × SpellsBody next rest × (lines ≡ turns count ∷ (inside ++ close ∷ rest))
SpellsBody (each name list body next) lines =
    (inside rest : List Line) × SpellsBody body inside × SpellsBody next rest × (lines ≡ over name list ∷ (inside ++ close ∷ rest))

-- ---- lines

abbrev pub kind_word : Kind → List ℕ
kind_word Map = codes "map"
kind_word Match = codes "match"
kind_word Cross = codes "cross"
kind_word Reduce = codes "reduce"
kind_word CoGroup = codes "cogroup"

-- the number of keys, for a kind that has keys
abbrev pub key_words : Kind → ℕ → List LineWord
key_words Reduce keys = plain_word (decimal keys) ∷ []
key_words CoGroup keys = plain_word (decimal keys) ∷ []
key_words kind keys = []

abbrev pub header_words : List ℕ → Kind → ℕ → List LineWord
header_words name kind keys = plain_word (codes "function") ∷ plain_word name ∷ plain_word (kind_word kind) ∷ key_words kind keys

-- a function's first line, or a later one
pub data FunctionLine : Type 0 where
  header : (name : List ℕ) → (kind : Kind) → (keys : ℕ) → FunctionLine
  inside : (line : Line) → FunctionLine

abbrev pub words_of_function_line : FunctionLine → List LineWord
words_of_function_line (header name kind keys) = header_words name kind keys
words_of_function_line (inside line) = words_of_line line

abbrev pub IsHeader : List ℕ → Kind → ℕ → Type 0
IsHeader name kind keys = IsTrue (is_name name) × HasKeys kind keys

-- ---- texts

-- the words of its lines: the header, the body, and the `end` of the function
abbrev pub SpellsFunction : Function → List (List LineWord) → Type 0
SpellsFunction f said =
    (lines : List Line) × SpellsBody f.body lines × (said ≡ header_words f.name f.kind f.keys ∷ (map words_of_line lines ++ words_of_line close ∷ []))

-- Some text spells the function.
abbrev pub IsWritable : Function → Type 0
IsWritable f = IsSpelledFunction f × (nesting f.body ≤ nesting_limit)

-- These lines are the function's text. `registers` says whether registers may name fields. Lines without words may be
-- anywhere, also after the `end`.
pub record FunctionText (registers : Bool) (f : Function) (text : List (List ℕ)) : Type 0 where
  pub said : List (List LineWord)
  pub says : Say text said
  pub spelled : SpellsFunction f said
  pub writable : IsWritable f
  pub takes : Takes registers f.body

abbrev pub EndsWithEnd : List (List ℕ) → Type 0
EndsWithEnd text = (front : List (List ℕ)) × (last : List ℕ) × (text ≡ front ++ last ∷ []) × HasWords last (words_of_line close)

-- In these bytes the function's text goes from one offset to another, which is just after the line of its `end`.
abbrev pub FunctionAt : Bool → Function → List ℕ → ℕ → ℕ → Type 0
FunctionAt registers f text at behind =
    (front : List (List ℕ)) × (at ≤ behind) × (behind ≤ length text) × (lines_of (drop at text) ≡ front ++ lines_of (drop behind text)) × FunctionText registers f front × EndsWithEnd front

-- the text of some function
abbrev pub IsFunctionText : Bool → List (List ℕ) → Type 0
IsFunctionText registers lines = (f : Function) × FunctionText registers f lines
