-- How often the body of a loop with a place is walked, over all the times that the loop is reached. Each walk that
-- changes something uses up some of the room to change that the stored state has left. Nothing in the code counts
-- walks: these are separate laws.
use Rattle.std.proofs.Common.{◌≡◌, ◌≤◌, ◌+◌, ◌*◌, ℕ, suc, Option, Some, None, List, [], ◌∷◌, ◌⊎◌, inl, inr, sym, ap, refl, ◌∙◌, arith}
use Rattle.tac_flow.specs.Known.{Known, Held, State, Origin, Base, first, bound, some, nowhere, joined}
use Rattle.tac_flow.specs.Steps.{Scope}
use Rattle.tac_flow.specs.Walks.{walks_at_most}
use Rattle.tac_flow.proofs.LooserBases.{Loosens}
use Rattle.tac_flow.proofs.RoomToChange.{room-sub, room_base, room_origin, room_known, room_held}
use Rattle.tac_flow.proofs.LoopsSettle.{IsSmall, rooms, room_state, room_state-at_most, state_grows}
use Rattle.tac_flow.proofs.LooserStates.{Forgets, KnowsLess, HoldsLess, Both}
use Rattle.tac_flow.specs.Warm.{IsSmallScope, IsSound}
use Rattle.tac_flow.proofs.SoundStates.{joined-sound}
use Rattle.tac_flow.proofs.LooserWalks.{IsLess, less-left, less-right, less-least, less-both}
use Rattle.tac_flow.specs.Memos.{begun}

origin_room : (a b : Origin) → Forgets a b → room_origin b ≤ room_origin a
origin_room a b (inl p) = let e = ap room_origin p in omega (arith, e)
origin_room a b (inr p) = let e : room_origin b ≡ 0 = ap room_origin p in omega (arith, e)

sided_room : (a : Base) → (a ≡ nowhere → ⊥) → 1 ≤ room_base a
sided_room first f = omega arith
sided_room (bound name side) f = omega arith
sided_room (some side) f = omega arith
sided_room nowhere f = absurd (f refl)

base_room : (a b : Base) → Loosens a b → room_base b ≤ room_base a
base_room a b (inl p) = let e = ap room_base p in omega (arith, e)
base_room a b (inr (inl p)) =
    let e : room_base b ≡ 1 = ap room_base p.2 in
    let g = sided_room a (λ q. let d = sym p.1 in cc) in
    omega (arith, e, g)
base_room a b (inr (inr p)) = let e : room_base b ≡ 0 = ap room_base p in omega (arith, e)

known_room : (n : ℕ) (v w : Known) → KnowsLess v w → room_known n w ≤ room_known n v
known_room n v w h = omega (arith, room-sub n v.deps w.deps h.deps, origin_room v.origin w.origin h.origin)

held_room : (n : ℕ) (g h : Held) → HoldsLess g h → room_held n h ≤ room_held n g
held_room n g h p = omega (arith, room-sub n g.changed h.changed p.changed, room-sub n g.depends h.depends p.depends, base_room g.base h.base p.base)

rooms_less : {A : Type 0} (P : A → A → Type 0) (r : A → ℕ) → ((x y : A) → P x y → r y ≤ r x) → (xs ys : List A) → Both P xs ys → rooms r ys ≤ rooms r xs
rooms_less P r f [] [] h = omega arith
rooms_less P r f (x ∷ xs) (y ∷ ys) h = omega (arith, f x y h.0, rooms_less P r f xs ys h.1)
rooms_less P r f xs ys h = absurd h

-- a state that knows less has less room
pub less-room : (n : ℕ) (a b : State) → IsLess a b → room_state n b ≤ room_state n a
less-room n a b h =
    omega (arith, rooms_less KnowsLess (room_known n) (known_room n) a.values b.values h.values, rooms_less HoldsLess (room_held n) (held_room n) a.records b.records h.records)

abbrev pub room_kept : ℕ → Option State → ℕ
room_kept n None = walks_at_most n
room_kept n (Some m) = room_state n m

-- This number of the loop's walks have changed something since `o` was stored.
pub record HasChanged (n changes : ℕ) (o : Option State) (j : State) : Type 0 where
  pub spent : changes + room_state n j ≤ room_kept n o

pub changed-start : (n : ℕ) (o : Option State) (k : State) → IsSmall n k → ((m : State) → o ≡ Some m → IsSmall n m) → HasChanged n 0 o (begun n o k)
changed-start n None k h g = record { spent = omega (arith, room_state-at_most n k h) }
changed-start n (Some m) k h g = record { spent = omega (arith, less-room n m (joined n k m) (less-right n k m h (g m refl))) }

pub changed-next : (n changes : ℕ) (o : Option State) (j t : State) → IsSmall n j → IsSmall n t → HasChanged n changes o j → (joined n j t ≡ j) ⊎ HasChanged n (suc changes) o (joined n j t)
changed-next n changes o j t h g s = elim (state_grows n j t h g) as (λ _. (joined n j t ≡ j) ⊎ HasChanged n (suc changes) o (joined n j t)) [
  | inl p ↦ inl p
  | inr p ↦ inr (record { spent = omega (arith, p, s.spent) })
]

-- two times that it is reached together, and so all times
pub changed-again : (n a b : ℕ) (o : Option State) (m j : State) → HasChanged n a o m → HasChanged n b (Some m) j → HasChanged n (a + b) o j
changed-again n a b o m j h g = record { spent = omega (arith, h.spent, g.spent) }

-- However often a loop is reached, its walks change something at most as often as its state can change.
pub changed-at_most : (n changes : ℕ) (j : State) → HasChanged n changes None j → changes ≤ walks_at_most n
changed-at_most n changes j h = omega (arith, h.spent)

-- If a loop doesn't begin exactly where it settled before, that is a change, too.
pub changed-begun : (c : Scope) → IsSmallScope c → (k m : State) → IsSound c k → IsSound c m → (joined c.fields k m ≡ m) ⊎ HasChanged c.fields 1 (Some m) (joined c.fields k m)
changed-begun c scope k m h g =
    let n = c.fields in
    let one = joined-sound c scope k m h g in
    let two = joined-sound c scope m k g h in
    let e : joined n k m ≡ joined n m k = less-both _ _
    (less-least n c refl k m (joined n m k) h g two (less-right n m k g.small h.small) (less-left n m k g.small h.small))
    (less-least n c refl m k (joined n k m) g h one (less-right n k m h.small g.small) (less-left n k m h.small g.small)) in
    elim (state_grows n m k g.small h.small) as (λ _. (joined n k m ≡ m) ⊎ HasChanged n 1 (Some m) (joined n k m)) [
      | inl p ↦ inl (e ∙ p)
      | inr p ↦ inr (record { spent = let q = ap (room_state n) e in omega (arith, p, q) })
    ]

-- ---- how often a body is walked

-- A loop is reached `times` times, and each time the notes of one walk are kept. The first time, and the `begins` times
-- when it doesn't begin where it settled before, it also walks until nothing changes.
pub walks_of : (times begins changes settles walks limit : ℕ) → begins + changes ≤ limit → settles ≤ 1 + begins → walks ≡ times + settles + changes → walks ≤ times + limit + 1
walks_of times begins changes settles walks limit le s e = omega (arith, le, s, e)

-- three loops, one inside the other: the next loop is reached as often as the body around it is walked
pub three_deep : (limit outer inner innermost : ℕ) → outer ≤ 1 + limit + 1 → inner ≤ outer + limit + 1 → innermost ≤ inner + limit + 1 → innermost ≤ 3 * limit + 4
three_deep limit outer inner innermost x y z = omega (arith, x, y, z)
