-- Past the end of a list there is no key.
use Rattle.std.proofs.Common.{◌≡◌, ◌≤◌, ℕ, zero, suc, false, List, [], ◌∷◌, length, refl, arith}
use Rattle.tac_flow.specs.Steps.{is_key_at}

pub is_key_at-past : (ks : List ℕ) (at k : ℕ) → length ks ≤ at → is_key_at ks at k ≡ false
is_key_at-past [] at k h = refl
is_key_at-past (j ∷ ks) zero k h = absurd (omega (arith, h))
is_key_at-past (j ∷ ks) (suc at) k h = is_key_at-past ks at k (omega (arith, h))
