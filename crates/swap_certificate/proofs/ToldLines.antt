-- Texts that are appended one after another.
use Rattle.std.proofs.Common.{◌≡◌, ℕ, List, ◌++◌, ap, ◌∙◌, append_assoc}

pub three_behind : (old first second whole a b c : List ℕ) → first ≡ old ++ a → second ≡ first ++ b → whole ≡ second ++ c → whole ≡ old ++ (a ++ (b ++ c))
three_behind old first second whole a b c e f g =
    g ∙ ap (λ (text : List ℕ). text ++ c) (f ∙ ap (λ (text : List ℕ). text ++ b) e ∙ append_assoc old a b) ∙ append_assoc old (a ++ b) c ∙ ap (λ (text : List ℕ). old ++ text) (append_assoc a b c)
