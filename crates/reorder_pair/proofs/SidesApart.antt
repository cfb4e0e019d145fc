-- The fields of two inputs stay disjoint if an operator moves to one of them.
use Rattle.std.proofs.Common.{◌⊎◌, inl, inr, ℕ}
use Rattle.tac_syntax.specs.Forms.{AreApart}

pub apart_turned : (s t : ℕ → Type 0) → AreApart s t → AreApart t s
apart_turned s t h k b a = h k a b

-- two sets that are disjoint from a third
pub apart_either : (s t u : ℕ → Type 0) → AreApart s u → AreApart t u → AreApart (λ k. s k ⊎ t k) u
apart_either s t u h g k (inl a) c = h k a c
apart_either s t u h g k (inr b) c = g k b c

-- the fields of one side before and after, if the other side stays as it is
pub apart_before_after : (s t u : ℕ → Type 0) → AreApart s u → AreApart t u → AreApart (λ k. s k ⊎ t k) (λ k. u k ⊎ u k)
apart_before_after s t u h g k a (inl c) = apart_either s t u h g k a c
apart_before_after s t u h g k a (inr c) = apart_either s t u h g k a c

-- an operator that owns fields moves to one side
pub apart_with : (own s u : ℕ → Type 0) → AreApart s u → AreApart own u → AreApart (λ k. s k ⊎ (own k ⊎ s k)) (λ k. u k ⊎ u k)
apart_with own s u h g = apart_before_after s (λ k. own k ⊎ s k) u h (apart_either own s u g h)
