-- How the place of a fault, and what may be there instead, stand in an explanation's text.
use Rattle.std.specs.Prelude.{◌≡◌, ◌≤◌, ◌<◌, ◌⊎◌, ℕ, Bool, List, [], ◌∷◌, ◌++◌, length, codes, decimal}
use Rattle.explain_words.specs.Places.{column_at, line_at, place_line}
use Rattle.explain_words.specs.Ranges.{range_text}
use Rattle.text_marks.specs.declared.expected.Expected.{Expected}
use Rattle.text_marks.specs.declared.expected.Expected.TheVariants.{Word, ValueRegister, RecordRegister, Loop, Number, Signed, Literal, Name, FileName, Column, FieldRegister, LineEnd}
use Rattle.explain_report.specs.declared.explanations.Spot.{Spot}

-- ---- what may be there

-- The words for an item. `fields` is the program's number of fields, and `is_key` says that a number is a key's place.
abbrev pub item_text : (fields : ℕ) → (is_key : Bool) → Expected → List ℕ
item_text fields is_key (Word word) = word.now
item_text fields is_key ValueRegister = codes "a value register (v0 to v31)"
item_text fields is_key RecordRegister = codes "a record register (r0 to r7)"
item_text fields is_key (Loop number) = codes "x" ++ decimal number
item_text fields is_key (Number low high) = range_text low high fields is_key
item_text fields is_key Signed = codes "a whole number (-9223372036854775808 to 9223372036854775807)"
item_text fields is_key Literal = codes "a literal between \" and \""
item_text fields is_key Name = codes "a name (small letters, digits and _, a letter first, at most 32 in all)"
item_text fields is_key FileName = codes "a file name (letters, digits and . _ - /, at most 200 in all)"
item_text fields is_key Column = codes "a column (int:N or text:N with a field N)"
item_text fields is_key FieldRegister = codes "a value register right after the @ (@v0 to @v31)"
item_text fields is_key LineEnd = codes "the line's end"

-- the items after the first one, with `or` before the last
abbrev pub others_text : (fields : ℕ) → (is_key : Bool) → List Expected → List ℕ
others_text fields is_key [] = []
others_text fields is_key (item ∷ []) = codes " or " ++ item_text fields is_key item
others_text fields is_key (item ∷ other ∷ items) = codes ", " ++ (item_text fields is_key item ++ others_text fields is_key (other ∷ items))

-- the line that lists items, or none without an item
abbrev pub expected_line : (fields : ℕ) → (is_key : Bool) → List Expected → List ℕ
expected_line fields is_key [] = []
expected_line fields is_key (item ∷ items) = codes "expected: " ++ (item_text fields is_key item ++ (others_text fields is_key items ++ 10 ∷ []))

-- ---- below the line that `pact` prints

-- First the place of the mark, and further down what may be there instead. If the mark is at the text's end, the place
-- may be further left, on its own line.
pub record IsPrinted (name text : List ℕ) (s : Spot) (below : List ℕ) : Type 0 where
  pub at : ℕ
  pub before : at ≤ s.mark.from
  pub same : s.mark.from < length text → at ≡ s.mark.from
  pub line : ℕ
  pub its_line : ((at ≡ s.mark.from) × (at < length text) × (line ≡ s.mark.line)) ⊎ (line ≡ line_at at text)
  pub fields : ℕ
  pub is_key : Bool
  pub between : List ℕ
  pub after : List ℕ
  pub printed : below ≡ place_line name line (column_at at text) ++ (between ++ (expected_line fields is_key s.expected ++ after))
