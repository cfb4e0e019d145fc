use Rattle.std.proofs.Common.{◌≡◌, ◌++◌, ◌∷◌, List, ℕ, flat_map, take}
use Rattle.tac_text.proofs.statement_writing.put_words.Given as goal

abbrev pub invariant-loop-word : goal.invariant-loop-word
invariant-loop-word l = l.out ≡ l.fn.out ++ flat_map (λ (w : List ℕ). 32 ∷ w) (take l.word-index l.words)
