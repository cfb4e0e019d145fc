-- The groups that a table lends.
use Rattle.std.proofs.Common.{◌≡◌, ◌<◌, ℕ, zero, suc, List, [], ◌∷◌, length, get_or, refl, sym, ◌∙◌, subst, arith, Some, None}
use Rattle.std.specs.Prelude.{slice_get, IfSome}
use Rattle.std.proofs.lemmas.List.{get_or_default}
use Rattle.pact_bag.specs.Groups.{group_of_key}
use Rattle.pact_record.specs.declared.values.Value.{Value}
use Rattle.local_strategy.specs.Grouped.{AreGroups, AreHeld, IsFound, first_key, order_of, rows_of}
use Rattle.local_strategy.proofs.GroupLaws.{group_absent, group_present, length-order, order-at}

key-at : (keys : List ℕ) (gs : List (List (List Value))) (n : ℕ) (P : List Value → Type 0) → n < length gs → P (first_key keys (get_or gs n [])) → IfSome (slice_get (order_of keys gs) n) P
key-at keys [] n P lt h = absurd (omega (arith, lt))
key-at keys (g ∷ gs) zero P lt h = h
key-at keys (g ∷ gs) (suc n) P lt h = key-at keys gs n P (omega (arith, lt)) h

pub lent_at_law : (keys : List ℕ) (gs : List (List (List Value))) (n : ℕ) (group : List (List Value)) → AreGroups keys gs → n < length gs → group ≡ get_or gs n group
    → IfSome (slice_get (order_of keys gs) n) (λ key. group_of_key keys (rows_of gs) key ≡ group)
lent_at_law keys gs n group h lt e = key-at keys gs n (λ key. group_of_key keys (rows_of gs) key ≡ group) lt (group_present keys gs n (first_key keys (get_or gs n [])) h lt refl ∙ sym (e ∙ get_or_default gs n group [] lt))

pub lent_found : (keys : List ℕ) (gs : List (List (List Value))) (none group : List (List Value)) (key : List Value) (n : ℕ) → AreHeld keys gs none → IsFound (order_of keys gs) key (Some n) → group ≡ get_or gs n group
    → group_of_key keys (rows_of gs) key ≡ group
lent_found keys gs none group key n h f e =
    let lt = subst (λ l. n < l) (length-order keys gs) f.0 in
    group_present keys gs n key h.grouped lt (sym (order-at keys gs n lt) ∙ f.1) ∙ sym (e ∙ get_or_default gs n group [] lt)

pub lent_none : (keys : List ℕ) (gs : List (List (List Value))) (none : List (List Value)) (key : List Value) → AreHeld keys gs none → IsFound (order_of keys gs) key None → group_of_key keys (rows_of gs) key ≡ none
lent_none keys gs none key h f = group_absent keys gs key h.grouped.each f ∙ sym h.empty

pub found_below : (keys : List ℕ) (gs : List (List (List Value))) (key : List Value) (n : ℕ) → IsFound (order_of keys gs) key (Some n) → n < length gs
found_below keys gs key n f = subst (λ l. n < l) (length-order keys gs) f.0
