-- A hash table over groups of records by key.
use Rattle.std.specs.Prelude.{◌≡◌, ◌<◌, ℕ, List, Option, None, Some, get_or, length, map, nat_eq}
use Rattle.indexmap.specs.IndexMap.{get}
use Rattle.pact_record.specs.declared.values.Value.{Value}
use Rattle.group_table.specs.declared.buckets.Buckets.{Buckets}
use Rattle.group_table.specs.Codes.{code}

-- the last place below this one that has the number, if there is one
abbrev pub IsLastBelow : List ℕ → ℕ → ℕ → Option ℕ → Type 0
IsLastBelow codes c below None = (i : ℕ) → i < below → get_or codes i 0 ≡ c → ⊥
IsLastBelow codes c below (Some n) = (n < below) × (get_or codes n 0 ≡ c) × ((i : ℕ) → n < i → i < below → get_or codes i 0 ≡ c → ⊥)

abbrev pub next_at : List (Option ℕ) → ℕ → Option ℕ
next_at nexts n = get_or nexts n None

-- Each code leads to the last group with that code, and each group to the previous group with the same code.
pub record AreLinked (codes : List ℕ) (heads : ℕ → Option ℕ) (nexts : List (Option ℕ)) : Type 0 where
  pub long : length nexts ≡ length codes
  pub head : (c : ℕ) → IsLastBelow codes c (length codes) (heads c)
  pub next : (n : ℕ) → n < length codes → IsLastBelow codes (get_or codes n 0) n (next_at nexts n)

-- the last group with this code
abbrev pub head_of : Buckets → ℕ → Option ℕ
head_of buckets c = get nat_eq buckets.heads c

-- The buckets are for the hash codes of the keys.
abbrev pub IsIndex : Buckets → List (List Value) → Type 0
IsIndex buckets order = AreLinked (map code order) (head_of buckets) buckets.nexts.items
