-- Words of a line, one more at the end.
use Rattle.std.proofs.Common.{◌≤◌, ℕ, List, [], ◌∷◌, ◌++◌, arith}
use Rattle.text_marks.specs.TextParts.{AreWordsOf, IsWordOf}
use Rattle.text_marks.specs.declared.marks.Mark.{Mark}

-- Words between two places are between wider ones.
pub words_wider : (line from at to end : ℕ) (words : List Mark) → from ≤ at → to ≤ end → AreWordsOf line at to words → AreWordsOf line from end words
words_wider line from at to end [] h k w = omega (arith, h, k, w)
words_wider line from at to end (word ∷ words) h k w =
    ((w.0.0, omega (arith, h, w.0.1), w.0.2, omega (arith, k, w.0.3)), words_wider line word.to word.to to end words (omega arith) k w.1)

pub words_and : (line at to end : ℕ) (words : List Mark) (word : Mark) → AreWordsOf line at to words → IsWordOf line to end word → AreWordsOf line at word.to (words ++ word ∷ [])
words_and line at to end [] word w h = ((h.0, omega (arith, w, h.1), h.2, omega arith), omega arith)
words_and line at to end (first ∷ words) word w h =
    ((w.0.0, w.0.1, w.0.2, omega (arith, w.0.3, h.1, h.2)), words_and line first.to to end words word w.1 h)
