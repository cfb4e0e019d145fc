-- Flags of the senders that have ended.
use Rattle.std.proofs.Common.{◌≡◌, ◌<◌, ◌+◌, ℕ, zero, suc, Bool, true, false, List, [], ◌∷◌, ◌++◌, length, get_or, sym, ◌∙◌, arith}

pub unset : (xs : List Bool) (n : ℕ) (x : Bool) → n < length xs → x ≡ get_or xs n x → x ≡ false → get_or xs n true ≡ false
unset [] n x less is e = absurd (omega (arith, less))
unset (y ∷ xs) zero x less is e = sym is ∙ e
unset (y ∷ xs) (suc n) x less is e = unset xs n x (omega (arith, less)) is e

-- one flag more
pub flags_more : (each : ℕ → Bool) (flags : List Bool) (flag : Bool) (n k : ℕ) → length flags ≡ n → k < n + 1 → flag ≡ each n → ((j : ℕ) → j < n → get_or flags j true ≡ each j) → get_or (flags ++ flag ∷ []) k true ≡ each k
flags_more each [] flag zero zero long less e h = e
flags_more each [] flag zero (suc k) long less e h = absurd (omega (arith, less))
flags_more each [] flag (suc n) k long less e h = absurd (omega (arith, long))
flags_more each (x ∷ flags) flag zero k long less e h = absurd (omega (arith, long))
flags_more each (x ∷ flags) flag (suc n) zero long less e h = h zero (omega arith)
flags_more each (x ∷ flags) flag (suc n) (suc k) long less e h =
    flags_more (λ j. each (suc j)) flags flag n k (omega (arith, long)) (omega (arith, less)) e (λ j below. h (suc j) (omega (arith, below)))
