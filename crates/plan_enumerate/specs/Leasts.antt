-- First places of least numbers.
use Rattle.std.specs.Prelude.{◌≡◌, ◌<◌, ◌≤◌, ℕ}

-- the first of the places below `n` with the least number
pub record IsLeastBelow (c : ℕ → ℕ) (n at cost : ℕ) : Type 0 where
  pub within : at < n
  pub same : cost ≡ c at
  pub least : (k : ℕ) → k < n → cost ≤ c k
  pub first : (k : ℕ) → k < at → cost < c k

-- The first of the pairs of a place below `n` and one below `m` with the least number. Pairs are ordered by their first
-- place, then by their second.
pub record IsLeastPair (c : ℕ → ℕ → ℕ) (n m first second cost : ℕ) : Type 0 where
  pub first_within : first < n
  pub second_within : second < m
  pub same : cost ≡ c first second
  pub least : (i k : ℕ) → i < n → k < m → cost ≤ c i k
  pub earlier : (i k : ℕ) → i < first → k < m → cost < c i k
  pub before : (k : ℕ) → k < second → cost < c first k
