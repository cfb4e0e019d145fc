-- Chains in which each node is at one place.
use Rattle.std.specs.Prelude.{◌≡◌, ◌<◌, ◌+◌, ℕ}
use Rattle.chain_arena.specs.declared.joins.Chain.{Chain}

-- A table of chains by number, over `nodes` nodes, each of which leads to a next one. The node at a place of a chain
-- leads to the node at the following place. Each node determines its chain and its place there (`owner` and `rank`), so
-- no node is at two places.
pub record ArePlaced (nodes : ℕ) (next : ℕ → ℕ) (chain : ℕ → Chain) : Type 0 where
  pub at : ℕ → ℕ → ℕ
  pub owner : ℕ → ℕ
  pub rank : ℕ → ℕ
  pub within : (c k : ℕ) → k < (chain c).count → at c k < nodes
  pub owned : (c k : ℕ) → k < (chain c).count → owner (at c k) ≡ c
  pub ranked : (c k : ℕ) → k < (chain c).count → rank (at c k) ≡ k
  pub first : (c : ℕ) → 0 < (chain c).count → (chain c).first ≡ at c 0
  pub goes_on : (c k : ℕ) → k + 1 < (chain c).count → next (at c k) ≡ at c (k + 1)
  pub last : (c k : ℕ) → k + 1 ≡ (chain c).count → (chain c).last ≡ at c k
