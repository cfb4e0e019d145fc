-- Which part of a text has its first fault, which words may be there instead, and which mend the text. All of it is
-- said by first faults of texts that are cut after a word, or have another word.
use Rattle.std.specs.Prelude.{◌≡◌, ◌≢◌, ◌<◌, ◌⊎◌, ◌+◌, ◌&&◌, ◌||◌, ◌==◌, ℕ, Bool, true, false, IsTrue, nat_lt, List, ◌++◌, length, codes, decimal, Option, Some, None}
use Rattle.std.specs.List.{AllByRecursion}
use Rattle.program_text.specs.ProgramTexts.{IsProgramText}
use Rattle.program_text.specs.ProgramStates.{TellsFirstFault}
use Rattle.text_lines.specs.TextLines.{lines_of}
use Rattle.text_lines.specs.declared.lines.TextFault.TheVariants.{At}
use Rattle.text_marks.specs.declared.trials.Fault.{Fault}
use Rattle.text_marks.specs.declared.marks.Mark.{Mark}
use Rattle.text_marks.specs.declared.expected.Expected.{Expected}
use Rattle.text_marks.specs.declared.expected.Expected.TheVariants.{LineEnd, Number, Word}
use Rattle.text_marks.specs.Samples.{sample_of}
use Rattle.text_marks.specs.LineParts.{AreNextWords, HasNoWord, IsNextWord}
use Rattle.text_marks.specs.Vocabulary.{IsFixedWord}
use Rattle.text_marks.specs.TextParts.{AreBounds, IsInside, LacksLine, LiesInLine, cut_text, cut_with, line_number, text_with}

-- ---- first faults

-- The text is a program's, or has this first fault.
abbrev pub HasFirst : List ℕ → Option Fault → Type 0
HasFirst text None = IsProgramText (lines_of text)
HasFirst text (Some fault) = TellsFirstFault (At fault.line fault.what) (lines_of text)

-- The text is a program's, or has another first fault.
abbrev pub HasOther : List ℕ → Fault → Type 0
HasOther text fault = (other : Option Fault) × HasFirst text other × (other ≢ Some fault)

-- whether the text has this first fault
abbrev pub TellsFault : List ℕ → Fault → Bool → Type 0
TellsFault text fault true = HasFirst text (Some fault)
TellsFault text fault false = HasOther text fault

-- ---- faulty parts

-- The text up to the mark's end has the fault, and the text up to its start doesn't. For fault 12 only the first holds:
-- `pact` has it too, although it begins the right first lines.
abbrev pub IsFaultPart : List ℕ → Mark → Fault → Type 0
IsFaultPart text mark fault =
    HasFirst (cut_text mark.to text) (Some fault) × (fault.what ≢ 12 → HasOther (cut_text mark.from text) fault)

-- No part of these bytes has the fault by itself: the text up to their end has another first fault, or the text up to
-- their start has the same.
abbrev pub HasNoFaultPart : List ℕ → (from to : ℕ) → Fault → Type 0
HasNoFaultPart text from to fault = HasOther (cut_text to text) fault ⊎ HasFirst (cut_text from text) (Some fault)

-- When no part is marked: a word or a line is missing (faults 4 and 12), the text doesn't have the fault or has no such
-- line, or the line has it by no part of its own.
abbrev pub MayBeEmpty : List ℕ → Fault → Type 0
MayBeEmpty text fault =
    (fault.what ≡ 4)
    ⊎ ((fault.what ≡ 12)
    ⊎ (HasOther (cut_text (length text) text) fault
    ⊎ (LacksLine text fault.line
    ⊎ ((from to : ℕ) × AreBounds text fault.line from to × HasNoFaultPart text from to fault))))

-- None of these words has the fault by itself. Of fault 4, where a word is missing, and of fault 12 it isn't said.
abbrev pub HaveNoFault : List ℕ → Fault → List Mark → Type 0
HaveNoFault text fault words = fault.what ≢ 4 → fault.what ≢ 12 → AllByRecursion (λ word. HasNoFaultPart text word.from word.to fault) words

-- ---- where a mark is

-- The first word of the faulty line that has the fault: no word before it has it.
abbrev pub IsFirstFaulty : List ℕ → Fault → Mark → Type 0
IsFirstFaulty text fault mark =
    (from end at : ℕ) × (before : List Mark) × AreBounds text fault.line from end × AreNextWords text fault.line end from before at
    × HaveNoFault text fault before × IsNextWord text fault.line at end mark

-- No word of the faulty line has the fault, and the last word ends at this place. Fault 1 is one of bytes, and the
-- place is then the line's end.
abbrev pub HasNoFaultyWord : List ℕ → Fault → (at : ℕ) → Type 0
HasNoFaultyWord text fault at =
    (from end : ℕ) × AreBounds text fault.line from end
    × (((fault.what ≡ 1) × (at ≡ end))
    ⊎ ((words : List Mark) × AreNextWords text fault.line end from words at × HasNoWord text at end × HaveNoFault text fault words))

-- A mark with bytes is the first faulty word; or one byte, of fault 1 or if no word has the fault. Of fault 4, where a
-- word is missing, no mark has bytes.
abbrev pub IsFaultPlace : List ℕ → Fault → Mark → Type 0
IsFaultPlace text fault mark =
    (fault.what ≢ 4)
    × (((fault.what ≢ 1) × IsFirstFaulty text fault mark)
    ⊎ ((mark.to ≡ mark.from + 1) × (at : ℕ) × HasNoFaultyWord text fault at))

-- A mark without bytes is after the last word if the text up to there has the fault, otherwise at the text's end.
abbrev pub IsEmptyPlace : List ℕ → Fault → Mark → Type 0
IsEmptyPlace text fault mark =
    ((mark.from ≡ length text) × (LacksLine text fault.line ⊎ HasOther (cut_text (length text) text) fault))
    ⊎ ((at : ℕ) × HasNoFaultyWord text fault at
    × (((mark.from ≡ at) × HasFirst (cut_text at text) (Some fault)) ⊎ ((mark.from ≡ length text) × HasOther (cut_text at text) fault)))

-- A mark of a fault is the part of the faulty line that has the fault: a word, or a byte if it is no word's fault. Or
-- it is empty: at a place of that line such that the text up to there has the fault, or at the text's end.
abbrev pub IsFaultMark : List ℕ → Fault → Mark → Type 0
IsFaultMark text fault mark =
    (mark.line ≡ fault.line)
    × IsInside text mark.from mark.to
    × (mark.from < length text → LiesInLine text mark)
    × (mark.from < mark.to → IsFaultPart text mark fault × IsFaultPlace text fault mark)
    × (mark.from ≡ mark.to → MayBeEmpty text fault × IsEmptyPlace text fault mark)
    × (mark.to < length text → HasFirst (cut_text mark.to text) (Some fault))

-- ---- accepted words

-- The fault isn't one of this line's words: there is none, it is further on, or a word is missing.
abbrev pub is_beyond : ℕ → Option Fault → Bool
is_beyond line None = true
is_beyond line (Some fault) = nat_lt line fault.line || ((line == fault.line) && (fault.what == 4))

-- the first fault with the word, or if (and only if) that is fault 12 of its line, with the word and the number 1
abbrev pub HasTried : ℕ → ℕ → List ℕ → List ℕ → Option Fault → Type 0
HasTried from to word text fault =
    (HasFirst (cut_with from to word text) fault × (fault ≢ Some (record { line = line_number from text; what = 12 })))
    ⊎ (HasFirst (cut_with from to word text) (Some (record { line = line_number from text; what = 12 })) × HasFirst (cut_with from to (word ++ codes " 1") text) fault)

-- what trying a word says
abbrev pub TellsAccepted : ℕ → ℕ → List ℕ → List ℕ → Bool → Type 0
TellsAccepted from to word text is_accepted =
    (fault : Option Fault) × HasTried from to word text fault × (is_accepted ≡ is_beyond (line_number from text) fault)

abbrev pub IsAccepted : ℕ → ℕ → List ℕ → List ℕ → Type 0
IsAccepted from to word text = TellsAccepted from to word text true

-- ---- what is expected

-- There is no fault, or it is on a later line.
abbrev pub is_later : ℕ → Option Fault → Bool
is_later line None = true
is_later line (Some fault) = nat_lt line fault.line

abbrev pub MayEnd : ℕ → List ℕ → Type 0
MayEnd from text = (fault : Option Fault) × HasFirst (cut_text from text) fault × IsTrue (is_later (line_number from text) fault)

-- A range of accepted numbers can end with this one: it is the greatest number of 64 bits, or the next one is refused.
abbrev pub EndsRange : ℕ → ℕ → List ℕ → ℕ → Type 0
EndsRange from to text high = (high ≡ 18446744073709551615) ⊎ TellsAccepted from to (decimal (high + 1)) text false

-- A sample of the item may be at the place; both ends of a range, and no number right above it; for the line's end, no
-- word. A word that is listed as itself is one of the fixed ones.
abbrev pub IsExpected : ℕ → ℕ → List ℕ → Expected → Type 0
IsExpected from to text (Number low high) =
    IsAccepted from to (decimal low) text × IsAccepted from to (decimal high) text × EndsRange from to text high
IsExpected from to text (Word word) = IsFixedWord word.now × IsAccepted from to word.now text
IsExpected from to text LineEnd = MayEnd from text
IsExpected from to text item = IsAccepted from to (sample_of item) text

-- a word that stands for itself is a fixed one
abbrev pub IsFixedItem : Expected → Type 0
IsFixedItem (Word word) = IsFixedWord word.now
IsFixedItem item = Unit {0}

-- whether one sample stands for the item
abbrev pub has_one_sample : Expected → Bool
has_one_sample (Number low high) = false
has_one_sample LineEnd = false
has_one_sample item = true

abbrev pub AreExpected : ℕ → ℕ → List ℕ → List Expected → Type 0
AreExpected from to text items = AllByRecursion (IsExpected from to text) items

-- ---- cures

-- With the word the text is a program's, or its first fault is on a later line.
abbrev pub IsCure : ℕ → ℕ → List ℕ → List ℕ → Type 0
IsCure from to text word =
    (fault : Option Fault) × HasFirst (text_with from to word text) fault × IsTrue (is_later (line_number from text) fault)
