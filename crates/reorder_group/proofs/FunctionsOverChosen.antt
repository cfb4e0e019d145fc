-- A function over what is chosen for each key, and under it.
use Rattle.std.proofs.Common.{◌≡◌, true, false, List, [], ◌∷◌, ◌++◌, refl, sym, ap, ◌∙◌}
use Rattle.std.specs.Prelude.{flat_map}
use Rattle.pact_record.proofs.Permutations.{Perm, chains, flat_map-append, flat_map_perm, is_same, turned}
use Rattle.pact_bag.proofs.KeyGroups.{occurs}
use Rattle.pact_bag.proofs.KeyLists.{AreOnce, HasAll, Key, beyond}
use Rattle.pact_operators.specs.Allowed.{Bag}
use Rattle.pact_operators.proofs.ChosenForKeys.{AreChosen, AreChosen-permuted, first_occurs, later_occurs}
use Rattle.reorder_pair.proofs.FunctionForms.{Row}

-- For the keys of the second list, what is chosen can be carried over in both directions. They are keys of the first
-- list, and f emits nothing for its other keys.
pub record Carries (f : Row → Bag) (P Q : Key → Bag → Type 0) (ks js : List Key) : Type 0 where
  pub forth : (k : Key) → occurs k js ≡ true → (out : Bag) → P k out → Q k (flat_map f out)
  pub back : (k : Key) → occurs k js ≡ true → (now : Bag) → Q k now → (out : Bag) × P k out × (flat_map f out ≡ now)
  pub others_nothing : (k : Key) → occurs k ks ≡ true → occurs k js ≡ false → (out : Bag) → P k out → flat_map f out ≡ []
  pub others_some : (k : Key) → occurs k ks ≡ true → occurs k js ≡ false → (out : Bag) × P k out
  pub once : AreOnce ks
  pub once_now : AreOnce js
  pub has_all : HasAll ks js

module _ (f : Row → Bag) (P Q : Key → Bag → Type 0) (es : List Key) (nothing_of : (k : Key) → occurs k es ≡ true → (out : Bag) → P k out → flat_map f out ≡ []) where
  others_gone : (ks : List Key) → HasAll es ks → (out : Bag) → AreChosen P ks out → flat_map f out ≡ []
  others_gone [] h out c = ap (flat_map f) c
  others_gone (k ∷ ks) h out c =
      ap (flat_map f) c.3 ∙ flat_map-append f c.0 c.1
      ∙ (λ i. nothing_of k (h k (first_occurs k ks)) c.0 c.2 i ++ others_gone ks (λ j o. h j (later_occurs k j ks o)) c.1 c.4 i)

  forwards : (js : List Key) → ((k : Key) → occurs k js ≡ true → (out : Bag) → P k out → Q k (flat_map f out)) → (out : Bag) → AreChosen P (js ++ es) out → AreChosen Q js (flat_map f out)
  forwards [] h out c = others_gone es (λ k o. o) out c
  forwards (k ∷ js) h out c = (
    flat_map f c.0,
    flat_map f c.1,
    h k (first_occurs k js) c.0 c.2,
    ap (flat_map f) c.3 ∙ flat_map-append f c.0 c.1,
    forwards js (λ j o. h j (later_occurs k j js o)) c.1 c.4,
  )

  module _ (some_of : (k : Key) → occurs k es ≡ true → (out : Bag) × P k out) where
    others_chosen : (ks : List Key) → HasAll es ks → (out : Bag) × AreChosen P ks out × (flat_map f out ≡ [])
    others_chosen [] h = ([], refl, refl)
    others_chosen (k ∷ ks) h =
        let here = h k (first_occurs k ks) in
        let rest = others_chosen ks (λ j o. h j (later_occurs k j ks o)) in
        let first = some_of k here in
        (first.0 ++ rest.0, (first.0, rest.0, first.1, refl, rest.1), flat_map-append f first.0 rest.0 ∙ (λ i. nothing_of k here first.0 first.1 i ++ rest.2 i))

    backwards : (js : List Key) → ((k : Key) → occurs k js ≡ true → (now : Bag) → Q k now → (out : Bag) × P k out × (flat_map f out ≡ now)) → (now : Bag) → AreChosen Q js now
        → (out : Bag) × AreChosen P (js ++ es) out × (flat_map f out ≡ now)
    backwards [] h now c = let rest = others_chosen es (λ k o. o) in (rest.0, rest.1, rest.2 ∙ sym c)
    backwards (k ∷ js) h now c =
        let first = h k (first_occurs k js) c.0 c.2 in
        let rest = backwards js (λ j o. h j (later_occurs k j js o)) c.1 c.4 in
        (first.0 ++ rest.0, (first.0, rest.0, first.1, refl, rest.1), flat_map-append f first.0 rest.0 ∙ (λ i. first.2 i ++ rest.2 i) ∙ sym c.3)

module _ (f : Row → Bag) (P Q : Key → Bag → Type 0) (ks js : List Key) (c : Carries f P Q ks js) where
  pub carried : (out : Bag) → AreChosen P ks out → (now : Bag) × AreChosen Q js now × Perm (flat_map f out) now
  carried out h =
      let b = beyond ks js c.once c.once_now c.has_all in
      let r = AreChosen-permuted P b.1.parts out h in
      let nothing_of = λ (k : Key) (o : occurs k b.0 ≡ true). let more = b.1.more k o in c.others_nothing k more.0 more.1 in
      (flat_map f r.0, forwards f P Q b.0 nothing_of js c.forth r.0 r.1, flat_map_perm f r.2)

  pub carried_back : (now : Bag) → AreChosen Q js now → (out : Bag) × AreChosen P ks out × Perm (flat_map f out) now
  carried_back now h =
      let b = beyond ks js c.once c.once_now c.has_all in
      let nothing_of = λ (k : Key) (o : occurs k b.0 ≡ true). let more = b.1.more k o in c.others_nothing k more.0 more.1 in
      let some_of = λ (k : Key) (o : occurs k b.0 ≡ true). let more = b.1.more k o in c.others_some k more.0 more.1 in
      let r = backwards f P Q b.0 nothing_of some_of js c.back now h in
      let s = AreChosen-permuted P (turned b.1.parts) r.0 r.1 in
      (s.0, s.1, chains (flat_map_perm f (turned s.2)) (is_same r.2))
