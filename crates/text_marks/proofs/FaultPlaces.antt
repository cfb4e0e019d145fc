-- The marks of faults, from what is found in a line.
use Rattle.std.proofs.Common.{◌≡◌, ◌≢◌, ◌≤◌, ◌+◌, ◌⊎◌, ℕ, List, [], ◌∷◌, ◌++◌, length, Some, refl, sym, subst, inl, inr, arith}
use Rattle.pact_record.proofs.Lists.{AllByRecursion-append}
use Rattle.text_marks.specs.LineParts.{AreNextWords, IsNextWord}
use Rattle.text_marks.specs.Marks.{HasFirst, HasNoFaultPart, HasNoFaultyWord, HasOther, HaveNoFault, IsFaultMark, IsFaultPart, MayBeEmpty}
use Rattle.text_marks.specs.TextParts.{AreBounds, IsInside, IsWordOf, LacksLine, LiesInLine, cut_text}
use Rattle.text_marks.specs.declared.marks.Mark.{Mark}
use Rattle.text_marks.specs.declared.trials.Fault.{Fault}

-- ---- words, one more at the end

pub next_and : (text : List ℕ) (line end from at : ℕ) (words : List Mark) (word : Mark) → AreNextWords text line end from words at → IsNextWord text line at end word → AreNextWords text line end from (words ++ word ∷ []) word.to
next_and text line end from at [] word e n = (subst (λ (a : ℕ). IsNextWord text line a end word) (sym e) n, refl)
next_and text line end from at (first ∷ words) word (f, rest) n = (f, next_and text line end first.to at words word rest n)

pub none_and : (text : List ℕ) (fault : Fault) (words : List Mark) (word : Mark) → HaveNoFault text fault words
    → (fault.what ≢ 4 → fault.what ≢ 12 → HasNoFaultPart text word.from word.to fault) → HaveNoFault text fault (words ++ word ∷ [])
none_and text fault words word all one = λ a b.
    AllByRecursion-append (λ (w : Mark). HasNoFaultPart text w.from w.to fault) words (word ∷ []) (all a b) (one a b, tt)

-- ---- marks with bytes

in_line : (text : List ℕ) (fault : Fault) (start end at : ℕ) (mark : Mark) → AreBounds text fault.line start end → start ≤ at → IsWordOf fault.line at end mark → LiesInLine text mark
in_line text fault start end at mark b s w = record {
  from = start;
  to = end;
  bounds = subst (λ (l : ℕ). AreBounds text l start end) (sym w.0) b;
  after = omega (arith, s, w.1);
  before = w.3;
}

pub word_mark : (text : List ℕ) (fault : Fault) (start end at : ℕ) (before : List Mark) (mark : Mark) → IsInside text start end → AreBounds text fault.line start end → fault.what ≢ 1 → fault.what ≢ 4 → start ≤ at
    → AreNextWords text fault.line end start before at → HaveNoFault text fault before → IsWordOf fault.line at end mark → IsNextWord text fault.line at end mark → IsFaultPart text mark fault
    → IsFaultMark text fault mark
word_mark text fault start end at before mark inside b other four s words none w next part = (
  w.0,
  (omega (arith, w.2), omega (arith, w.3, inside.1)),
  (λ _. in_line text fault start end at mark b s w),
  (λ _. (part, (four, inl (other, (start, end, at, before, b, words, none, next))))),
  (λ same. absurd (omega (arith, same, w.2))),
  (λ _. part.0),
)

pub byte_mark : (text : List ℕ) (fault : Fault) (start end at : ℕ) (mark : Mark) → IsInside text start end → AreBounds text fault.line start end → IsWordOf fault.line start end mark → mark.to ≡ mark.from + 1
    → fault.what ≢ 4 → IsFaultPart text mark fault → HasNoFaultyWord text fault at → IsFaultMark text fault mark
byte_mark text fault start end at mark inside b w one four part none = (
  w.0,
  (omega (arith, w.2), omega (arith, w.3, inside.1)),
  (λ _. in_line text fault start end start mark b (omega arith) w),
  (λ _. (part, (four, inr (one, at, none)))),
  (λ same. absurd (omega (arith, same, w.2))),
  (λ _. part.0),
)

-- ---- empty marks

pub mark_here : (text : List ℕ) (fault : Fault) (at : ℕ) → at ≤ length text → LiesInLine text (record { line = fault.line; from = at; to = at }) → MayBeEmpty text fault → HasNoFaultyWord text fault at
    → HasFirst (cut_text at text) (Some fault) → IsFaultMark text fault (record { line = fault.line; from = at; to = at })
mark_here text fault at inside there empty none first = (
  refl,
  (omega arith, inside),
  (λ _. there),
  (λ less. absurd (omega (arith, less))),
  (λ _. (empty, inr (at, none, inl (refl, first)))),
  (λ _. first),
)

pub mark_end : (text : List ℕ) (fault : Fault) (at : ℕ) → MayBeEmpty text fault → HasNoFaultyWord text fault at → HasOther (cut_text at text) fault
    → IsFaultMark text fault (record { line = fault.line; from = length text; to = length text })
mark_end text fault at empty none other = (
  refl,
  (omega arith, omega arith),
  (λ less. absurd (omega (arith, less))),
  (λ less. absurd (omega (arith, less))),
  (λ _. (empty, inr (at, none, inr (refl, other)))),
  (λ less. absurd (omega (arith, less))),
)

pub mark_outside : (text : List ℕ) (fault : Fault) → MayBeEmpty text fault → LacksLine text fault.line ⊎ HasOther (cut_text (length text) text) fault
    → IsFaultMark text fault (record { line = fault.line; from = length text; to = length text })
mark_outside text fault empty none = (
  refl,
  (omega arith, omega arith),
  (λ less. absurd (omega (arith, less))),
  (λ less. absurd (omega (arith, less))),
  (λ _. (empty, inl (refl, none))),
  (λ less. absurd (omega (arith, less))),
)
