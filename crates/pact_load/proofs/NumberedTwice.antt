-- Two numbers, each after fixed words.
use Rattle.std.proofs.Common.{◌≡◌, ℕ, List, [], ◌∷◌, ◌++◌, ◌∙◌, ap, append_assoc}
use Rattle.std.specs.Prelude.{codes, decimal}
use Rattle.pact_load.specs.RefusalLines.{fault_text}

pub fault_text_is : (a b c out : List ℕ) (line what : ℕ) → a ≡ [] → b ≡ a ++ (codes ":" ++ decimal line) → c ≡ b ++ (codes ": text fault " ++ decimal what) → out ≡ c ++ codes "\n" → out ≡ fault_text line what
fault_text_is a b c out line what e1 e2 e3 e4 =
    let second = codes ": text fault " ++ decimal what in
    e4 ∙ ap (λ (x : List ℕ). x ++ codes "\n") e3
    ∙ ap (λ (x : List ℕ). (x ++ second) ++ codes "\n") e2
    ∙ ap (λ (x : List ℕ). ((x ++ (codes ":" ++ decimal line)) ++ second) ++ codes "\n") e1
    ∙ ap (λ (x : List ℕ). 58 ∷ x) (append_assoc (decimal line) second (codes "\n"))
