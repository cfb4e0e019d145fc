-- What may be at a place: which words are tried there, and that none of those that are accepted is left out.
use Rattle.std.specs.Prelude.{◌≡◌, ◌≤◌, ◌<◌, ◌+◌, ◌⊎◌, ℕ, Bool, true, false, List, [], ◌∷◌, ◌++◌, codes, decimal, Some}
use Rattle.std.specs.List.{AllByRecursion}
use Rattle.tac_syntax.specs.Limits.{nesting_limit}
use Rattle.text_marks.specs.LineParts.{HasNoWord, IsNextWord}
use Rattle.text_marks.specs.Marks.{AreExpected, HasFirst, MayEnd, TellsAccepted, is_later}
use Rattle.text_marks.specs.Samples.{sample_of}
use Rattle.text_marks.specs.TextParts.{AreBounds, LacksLine, cut_text, line_number}
use Rattle.text_marks.specs.declared.expected.Expected.{Expected}
use Rattle.text_marks.specs.declared.expected.Expected.TheVariants.{LineEnd}
use Rattle.text_marks.specs.declared.marks.Mark.{Mark}
use Rattle.text_marks.specs.declared.trials.Fault.{Fault}
use Rattle.text_marks.specs.Vocabulary.{fixed_words}

-- ---- words that are tried

-- a word of each other kind that has one sample: registers, a field by register, a literal and a column
abbrev pub kind_words : List (List ℕ)
kind_words = codes "v0" ∷ codes "r0" ∷ codes "@v0" ∷ (34 ∷ 97 ∷ 34 ∷ []) ∷ codes "int:0" ∷ []

-- ---- what is listed

abbrev pub IsAmong : Expected → List Expected → Type 0
IsAmong item [] = ⊥
IsAmong item (other ∷ items) = (item ≡ other) ⊎ IsAmong item items

-- An item is listed that has this sample. No two kinds of items have the same one.
abbrev pub IsListed : List Expected → List ℕ → Type 0
IsListed items word = (item : Expected) × IsAmong item items × (sample_of item ≡ word)

abbrev pub IsRefused : ℕ → ℕ → List ℕ → List ℕ → Type 0
IsRefused from to text word = TellsAccepted from to word text false

-- The word is listed as a sample, or it is refused there.
abbrev pub IsListedOrRefused : ℕ → ℕ → List ℕ → List Expected → List ℕ → Type 0
IsListedOrRefused from to text items word = IsListed items word ⊎ IsRefused from to text word

-- The list goes on with items that may be there.
pub record Extends (from to : ℕ) (text : List ℕ) (old new : List Expected) : Type 0 where
  pub more : List Expected
  pub appended : new ≡ old ++ more
  pub expected : AreExpected from to text more

-- The names of loops below this number: `x1` and so on.
abbrev pub HasLoopsBelow : ℕ → ℕ → List ℕ → ℕ → List Expected → Type 0
HasLoopsBelow from to text end items = (number : ℕ) → 1 ≤ number → number < end → IsListedOrRefused from to text items (codes "x" ++ decimal number)

-- An `each` on the line of the place may have this number, so that the loops with lesser ones are open there: it is
-- accepted at the line's start.
abbrev pub IsNextLoop : ℕ → List ℕ → ℕ → Type 0
IsNextLoop at text number =
    (from end : ℕ) × AreBounds text (line_number at text) from end × TellsAccepted from from (codes "each " ++ (codes "x" ++ decimal number)) text true

-- Where a record may be, the loops that are open; elsewhere also the next one.
abbrev pub HasOpenLoops : ℕ → ℕ → List ℕ → ℕ → List Expected → Type 0
HasOpenLoops from to text next items =
    (TellsAccepted from to (codes "in") text true × HasLoopsBelow from to text next items) ⊎ HasLoopsBelow from to text (next + 1) items

-- The names of loops. The reader of programs takes the name of any loop for a record, and only a rule of functions says
-- that it is open. So where a line may begin an `each`, its number says which are; elsewhere each name that a program
-- can have is tried.
abbrev pub HasLoops : ℕ → ℕ → List ℕ → List Expected → Type 0
HasLoops from to text items =
    ((next : ℕ) × IsNextLoop from text next × HasOpenLoops from to text next items) ⊎ HasLoopsBelow from to text (nesting_limit + 1) items

-- Numbers with a sign; otherwise those from 0 on, otherwise those from 1 on. If all three are refused, none is listed.
abbrev pub HasNumbers : ℕ → ℕ → List ℕ → List Expected → Type 0
HasNumbers from to text items =
    IsListed items (codes "-1")
    ⊎ (IsRefused from to text (codes "-1")
    × (IsListed items (decimal 0) ⊎ (IsRefused from to text (decimal 0) × IsListedOrRefused from to text items (decimal 1))))

-- Each word of the language is listed or is refused, whatever kind it has, apart from names.
pub record HasAllWords (from to : ℕ) (text : List ℕ) (items : List Expected) : Type 0 where
  pub fixed : AllByRecursion (IsListedOrRefused from to text items) fixed_words
  pub kinds : AllByRecursion (IsListedOrRefused from to text items) kind_words
  pub loops : HasLoops from to text items
  pub numbers : HasNumbers from to text items

-- If a file's name or another name may be there, that is listed for all words, since names may be anything, fixed words
-- too; otherwise each word is tried.
abbrev pub HasWords : ℕ → ℕ → List ℕ → List Expected → Type 0
HasWords from to text items = IsListed items (codes "a/b") ⊎ (IsListed items (codes "zz") ⊎ HasAllWords from to text items)

-- ---- the line's end

-- no word of its line begins before the place
abbrev pub BeginsLine : ℕ → List ℕ → Type 0
BeginsLine at text =
    LacksLine text (line_number at text)
    ⊎ ((from end : ℕ) × AreBounds text (line_number at text) from end
    × (HasNoWord text from end ⊎ ((word : Mark) × IsNextWord text (line_number at text) from end word × (at ≤ word.from))))

-- A line can't end at the place: it has no word yet, or the text up to there has a fault on this line or before it.
abbrev pub CannotEnd : ℕ → List ℕ → Type 0
CannotEnd from text =
    BeginsLine from text
    ⊎ ((fault : Fault) × HasFirst (cut_text from text) (Some fault) × (is_later (line_number from text) (Some fault) ≡ false))

-- whether a line can end at the place
abbrev pub TellsEnd : ℕ → List ℕ → Bool → Type 0
TellsEnd from text true = MayEnd from text
TellsEnd from text false = CannotEnd from text

-- The line's end is listed if a line can end at the place.
abbrev pub ListsEnd : ℕ → List ℕ → List Expected → Type 0
ListsEnd from text items = IsAmong LineEnd items ⊎ CannotEnd from text

-- ---- all of it

-- Nothing that may be there is left out.
pub record LeavesNoneOut (from to : ℕ) (text : List ℕ) (items : List Expected) : Type 0 where
  pub words : HasWords from to text items
  pub end : ListsEnd from text items
