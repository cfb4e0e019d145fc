-- A Reduce with at most one record for each group, with the group's key values, has no two records with the same key
-- values.
use Rattle.std.proofs.Common.{◌≡◌, ◌≤◌, ℕ, true, List, [], ◌∷◌, length, sym, subst}
use Rattle.std.proofs.lemmas.Bool.{both_ways}
use Rattle.std.specs.List.{AllByRecursion}
use Rattle.pact_record.specs.Record.{key_of}
use Rattle.pact_record.proofs.Lists.{AllByRecursion-append, AllByRecursion-weaker}
use Rattle.pact_bag.proofs.KeyGroups.{occurs}
use Rattle.pact_bag.proofs.KeyLists.{AreOnce, Key}
use Rattle.pact_operators.specs.Allowed.{Bag}
use Rattle.pact_operators.proofs.ChosenForKeys.{AreChosen, first_occurs, later_occurs}
use Rattle.reorder_pair.proofs.FunctionForms.{Row}
use Rattle.reorder_group.specs.UniqueRows.{HaveEachOnce, HaveOther}
use Rattle.reorder_group.proofs.UniqueRows.{HaveEachOnce-append, few_once}

-- what is chosen for a key: at most one record, with these key values
pub record IsOneOf (keys : List ℕ) (k : Key) (out : Bag) : Type 0 where
  pub few : length out ≤ 1
  pub keyed : AllByRecursion (λ o. key_of keys o ≡ k) out

abbrev pub HasKeyAmong : List ℕ → List Key → Row → Type 0
HasKeyAmong keys ks o = occurs (key_of keys o) ks ≡ true

module _ (keys : List ℕ) (P : Key → Bag → Type 0) (all : List Key) (one : (k : Key) → occurs k all ≡ true → (out : Bag) → P k out → IsOneOf keys k out) where
  abbrev Among : List Key → Type 0
  Among ks = (k : Key) → occurs k ks ≡ true → occurs k all ≡ true

  keyed_among : (ks : List Key) → Among ks → (out : Bag) → AreChosen P ks out → AllByRecursion (HasKeyAmong keys ks) out
  keyed_among [] among out h = subst (AllByRecursion (HasKeyAmong keys [])) (sym h) tt
  keyed_among (k ∷ ks) among out h =
      let here = AllByRecursion-weaker (λ o. key_of keys o ≡ k) (HasKeyAmong keys (k ∷ ks)) h.0 (λ o e. subst (λ (j : Key). occurs j (k ∷ ks) ≡ true) (sym e) (first_occurs k ks))
      (one k (among k (first_occurs k ks)) h.0 h.2).keyed in
      let there = AllByRecursion-weaker (HasKeyAmong keys ks) (HasKeyAmong keys (k ∷ ks)) h.1 (λ o is. later_occurs k (key_of keys o) ks is)
      (keyed_among ks (λ j is. among j (later_occurs k j ks is)) h.1 h.4) in
      subst (AllByRecursion (HasKeyAmong keys (k ∷ ks))) (sym h.3) (AllByRecursion-append (HasKeyAmong keys (k ∷ ks)) h.0 h.1 here there)

  pub chosen_once : (ks : List Key) → Among ks → AreOnce ks → (out : Bag) → AreChosen P ks out → HaveEachOnce keys out
  chosen_once [] among once out h = subst (HaveEachOnce keys) (sym h) tt
  chosen_once (k ∷ ks) among once out h =
      let later : Among ks = λ j is. among j (later_occurs k j ks is) in
      let here = one k (among k (first_occurs k ks)) h.0 h.2 in
      let rest = keyed_among ks later h.1 h.4 in
      let off : HaveOther keys k h.1 = AllByRecursion-weaker (HasKeyAmong keys ks) (λ o. k ≡ key_of keys o → ⊥) h.1
      (λ o is e. both_ways (occurs k ks) once.0 (subst (λ (j : Key). occurs j ks ≡ true) (sym e) is)) rest in
      subst (HaveEachOnce keys) (sym h.3)
      (HaveEachOnce-append keys h.0 h.1 (few_once keys h.0 here.few) (chosen_once ks later once.1 h.1 h.4)
      (AllByRecursion-weaker (λ o. key_of keys o ≡ k) (λ w. HaveOther keys (key_of keys w) h.1) h.0 (λ o e. subst (λ (j : Key). HaveOther keys j h.1) (sym e) off) here.keyed))
