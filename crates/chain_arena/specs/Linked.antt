-- Lists of node numbers, and the free list.
use Rattle.std.specs.Prelude.{◌≡◌, ◌≤◌, ◌<◌, ◌+◌, ◌==◌, ℕ, zero, suc, Bool, false, List, [], ◌∷◌, ◌++◌, get_or, length, slice_set}
use Rattle.std.specs.List.{AllByRecursion, list_any}
use Rattle.chain_arena.specs.declared.joins.Chain.{Chain}
use Rattle.chain_arena.specs.Joins.{empty_chain}
use Rattle.chain_arena.specs.Placed.{ArePlaced}

-- the free list, the lists, and the number of nodes
pub record LinkData : Type 0 where
  pub free : List ℕ
  pub lists : List (List ℕ)
  pub nodes : ℕ

-- ---- chains as lists of nodes

-- the node that a node leads to
abbrev pub next_of : List ℕ → ℕ → ℕ
next_of next i = get_or next i 0

-- n nodes, from node i on
abbrev pub nodes_from : (ℕ → ℕ) → ℕ → ℕ → List ℕ
nodes_from next i zero = []
nodes_from next i (suc n) = i ∷ nodes_from next (next i) n

-- the nodes of a chain
abbrev pub nodes_of : List ℕ → Chain → List ℕ
nodes_of next c = nodes_from (next_of next) c.first c.count

-- each of these nodes is below the number of nodes
abbrev pub AreWithin : ℕ → List ℕ → Type 0
AreWithin count nodes = AllByRecursion (λ n. n < count) nodes

-- ---- the invariant between calls

-- a table of chains: one that is being moved, the free list's, and those of the lists
abbrev pub table : Chain → Chain → List Chain → ℕ → Chain
table one free chains zero = one
table one free chains (suc zero) = free
table one free chains (suc (suc c)) = get_or chains c empty_chain

-- the number of nodes of the chains together
abbrev pub total : List Chain → ℕ
total [] = 0
total (c ∷ chains) = c.count + total chains

-- Each node is at one place of one chain. The chains together have at most as many nodes as there are.
pub record AreLinked (next : List ℕ) (one free : Chain) (chains : List Chain) : Type 0 where
  pub placed : ArePlaced (length next) (next_of next) (table one free chains)
  pub fits : one.count + (free.count + total chains) ≤ length next

-- ---- the effect of the calls

-- the node is one of these
abbrev pub is_in : List ℕ → ℕ → Bool
is_in nodes n = list_any (λ m. m == n) nodes

-- the node is in none of the lists
abbrev pub IsInNone : ℕ → List (List ℕ) → Type 0
IsInNone n lists = AllByRecursion (λ nodes. is_in nodes n ≡ false) lists

-- The first node of the free list moves to the end of a list. It was in no list.
pub record TakesFree (list : ℕ) (old new : LinkData) (node : ℕ) : Type 0 where
  pub free : old.free ≡ node ∷ new.free
  pub lists : new.lists ≡ slice_set old.lists list (get_or old.lists list [] ++ node ∷ [])
  pub nodes : new.nodes ≡ old.nodes
  pub within : node < old.nodes
  pub elsewhere : IsInNone node old.lists

-- The first node of a list moves to the end of the free list. It is in no list any more.
pub record FreesFirst (list : ℕ) (old new : LinkData) (node : ℕ) : Type 0 where
  pub listed : get_or old.lists list [] ≡ node ∷ get_or new.lists list []
  pub lists : new.lists ≡ slice_set old.lists list (get_or new.lists list [])
  pub free : new.free ≡ old.free ++ node ∷ []
  pub nodes : new.nodes ≡ old.nodes
  pub within : node < old.nodes
  pub elsewhere : IsInNone node new.lists

-- list a has its own nodes followed by those of list b, and list b is empty
abbrev pub concatenated : ℕ → ℕ → LinkData → LinkData
concatenated a b old = record old { lists = slice_set (slice_set old.lists a (get_or old.lists a [] ++ get_or old.lists b [])) b [] }
