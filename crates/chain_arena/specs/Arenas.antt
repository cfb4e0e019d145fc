-- An arena: lists of items, and room for more items.
use Rattle.std.specs.Prelude.{◌≡◌, ◌+◌, ℕ, true, List, [], ◌∷◌, ◌++◌, Option, None, flat_map, get_or, is_some, option_to_list, refl, slice_set}
use Rattle.std.specs.List.{AllByRecursion}
use Rattle.std.specs.Coded.{Coded, code_by, coded_list, coded_ℕ, coded×}

-- the lists by number, and the number of free nodes
pub record ArenaData (T : Type 0) : Type 0 where
  pub lists : List (List T)
  pub spare : ℕ

abbrev pub arena_code : {T : Type 0} → Coded T → Coded (ArenaData T)
arena_code {T} code = code_by (List (List T) × ℕ) (coded× (coded_list (coded_list code)) coded_ℕ) (λ a. (a.lists, a.spare)) (λ p. record { lists = p.0; spare = p.1 }) (λ _. refl)

-- ---- items at nodes

-- the items at these nodes
abbrev pub items_of : {T : Type 0} → List (Option T) → List ℕ → List T
items_of items nodes = flat_map (λ n. option_to_list (get_or items n None)) nodes

-- there is an item at each of these nodes
abbrev pub HaveItems : {T : Type 0} → List (Option T) → List ℕ → Type 0
HaveItems items nodes = AllByRecursion (λ n. is_some (get_or items n None) ≡ true) nodes

-- there is an item at each node of the lists
abbrev pub AreOccupied : {T : Type 0} → List (Option T) → List (List ℕ) → Type 0
AreOccupied items lists = AllByRecursion (λ nodes. HaveItems items nodes) lists

-- ---- the effect of the calls

-- An item is added at the end of a list, and uses a free node. The other lists don't change.
pub record IsPushed {T : Type 0} (list : ℕ) (item : T) (old new : ArenaData T) : Type 0 where
  pub lists : new.lists ≡ slice_set old.lists list (get_or old.lists list [] ++ item ∷ [])
  pub spare : new.spare + 1 ≡ old.spare

-- The first item of a list is removed, and its node becomes free. The other lists don't change.
pub record IsTaken {T : Type 0} (list : ℕ) (item : T) (old new : ArenaData T) : Type 0 where
  pub listed : get_or old.lists list [] ≡ item ∷ get_or new.lists list []
  pub lists : new.lists ≡ slice_set old.lists list (get_or new.lists list [])
  pub spare : new.spare ≡ old.spare + 1

-- List a has its own items followed by those of list b, and list b is empty. The other lists and the room don't change.
abbrev pub concatenated : {T : Type 0} → ℕ → ℕ → ArenaData T → ArenaData T
concatenated a b old = record old { lists = slice_set (slice_set old.lists a (get_or old.lists a [] ++ get_or old.lists b [])) b [] }
