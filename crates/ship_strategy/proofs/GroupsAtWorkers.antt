-- The groups of keys over all workers, if the records of a key are at one worker: what is emitted for each worker's
-- keys is emitted for all.
use Rattle.std.proofs.Common.{◌≡◌, ◌<◌, ◌+◌, ◌||◌, inl, inr, ℕ, zero, suc, Bool, true, false, cond, List, [], ◌∷◌, ◌++◌, length, refl, sym, ap, subst, ◌∙◌, append_assoc, arith}
use Rattle.std.specs.List.{AllByRecursion}
use Rattle.std.proofs.lemmas.Bool.{both_ways, false_from_ne_true, or_cases, or_left, or_right}
use Rattle.std.proofs.lemmas.Bool.Decides.{eqb_tells}
use Rattle.std.proofs.lemmas.List.Elements.{filter-append}
use Rattle.std.proofs.lemmas.List.Folds.{list_any-append}
use Rattle.pact_bag.specs.Groups.{group_of_key, is_same_key}
use Rattle.pact_bag.proofs.KeyGroups.{occurs, same_keys}
use Rattle.pact_bag.proofs.KeyLists.{AreOnce, Key, same_members}
use Rattle.pact_bag.proofs.KeysOfBags.{AreKeysOf}
use Rattle.pact_record.specs.declared.values.Value.{Value}
use Rattle.pact_record.specs.Record.{key_of}
use Rattle.pact_record.proofs.Permutations.{Perm}
use Rattle.plan_trees.specs.Sending.{all_of}
use Rattle.pact_operators.specs.Allowed.{Bag}
use Rattle.pact_operators.proofs.ChosenForKeys.{AreChosen, AreChosen-permuted, IsGivenFor, first_occurs, later_occurs}
use Rattle.plan_trees.proofs.EachWorker.{one_less, only_one}

-- ---- keys of one list after another

occurs-append : (k : Key) (ks js : List Key) → occurs k (ks ++ js) ≡ (occurs k ks || occurs k js)
occurs-append k ks js = list_any-append (λ j. is_same_key j k) ks js

AreOnce-append : (ks js : List Key) → AreOnce ks → AreOnce js → ((k : Key) → occurs k ks ≡ true → occurs k js ≡ true → ⊥) → AreOnce (ks ++ js)
AreOnce-append [] js o p apart = p
AreOnce-append (k ∷ ks) js o p apart = (
  false_from_ne_true (occurs k (ks ++ js)) (λ h. elim (or_cases (occurs k ks) (occurs k js) (sym (occurs-append k ks js) ∙ h)) as (λ _. ⊥) [
    | inl l ↦ both_ways (occurs k ks) o.0 l
    | inr r ↦ apart k (first_occurs k ks) r
  ]),
  AreOnce-append ks js o.1 p (λ j l r. apart j (later_occurs k j ks l) r),
)

-- ---- what is chosen for the keys of each worker

AreChosen-occurring : (P Q : Key → Bag → Type 0) (ks : List Key) → ((k : Key) → occurs k ks ≡ true → (out : Bag) → P k out → Q k out) → (out : Bag) → AreChosen P ks out → AreChosen Q ks out
AreChosen-occurring P Q [] f out h = h
AreChosen-occurring P Q (k ∷ ks) f out h = (
  h.0,
  h.1,
  f k (first_occurs k ks) h.0 h.2,
  h.3,
  AreChosen-occurring P Q ks (λ j o. f j (later_occurs k j ks o)) h.1 h.4,
)

AreChosen-append : (P : Key → Bag → Type 0) (ks js : List Key) (a b : Bag) → AreChosen P ks a → AreChosen P js b → AreChosen P (ks ++ js) (a ++ b)
AreChosen-append P [] js a b h g = subst (λ (l : Bag). AreChosen P js (l ++ b)) (sym h) g
AreChosen-append P (k ∷ ks) js a b h g =
    (h.0, h.1 ++ b, h.2, ap (λ (l : Bag). l ++ b) h.3 ∙ append_assoc h.0 h.1 b, AreChosen-append P ks js h.1 b h.4 g)

AreChosen-all : (P : Key → Bag → Type 0) (ks : ℕ → List Key) (out : ℕ → Bag) (W : ℕ) → ((w : ℕ) → w < W → AreChosen P (ks w) (out w)) → AreChosen P (all_of W ks) (all_of W out)
AreChosen-all P ks out zero h = refl
AreChosen-all P ks out (suc n) h =
    AreChosen-append P (ks n) (all_of n ks) (out n) (all_of n out) (h n (omega arith)) (AreChosen-all P ks out n (λ w b. h w (omega (arith, b))))

-- ---- keys of all workers

occurs_at : (k : Key) (ks : ℕ → List Key) (W : ℕ) → occurs k (all_of W ks) ≡ true → (w : ℕ) × (w < W) × (occurs k (ks w) ≡ true)
occurs_at k ks zero h = absurd (both_ways false refl h)
occurs_at k ks (suc n) h = elim (or_cases (occurs k (ks n)) (occurs k (all_of n ks)) (sym (occurs-append k (ks n) (all_of n ks)) ∙ h)) as (λ _. (w : ℕ) × (w < suc n) × (occurs k (ks w) ≡ true)) [
  | inl l ↦ (n, omega arith, l)
  | inr r ↦ let a = occurs_at k ks n r in (a.0, omega (arith, a.1), a.2)
]

at_occurs : (k : Key) (ks : ℕ → List Key) (W w : ℕ) → w < W → occurs k (ks w) ≡ true → occurs k (all_of W ks) ≡ true
at_occurs k ks zero w b h = absurd (omega (arith, b))
at_occurs k ks (suc n) w b h =
    occurs-append k (ks n) (all_of n ks) ∙ elim (eqb_tells w n) as (λ _. (occurs k (ks n) || occurs k (all_of n ks)) ≡ true) [
      | inl e ↦ or_left (occurs k (ks n)) (occurs k (all_of n ks)) (subst (λ (v : ℕ). occurs k (ks v) ≡ true) e.1 h)
      | inr e ↦ or_right (occurs k (ks n)) (occurs k (all_of n ks)) (at_occurs k ks n w (one_less w n b e.1) h)
    ]

AreOnce-all : (place : Key → ℕ) (ks : ℕ → List Key) (W : ℕ) → ((w : ℕ) → w < W → AreOnce (ks w)) → ((w : ℕ) → w < W → (k : Key) → occurs k (ks w) ≡ true → place k ≡ w) → AreOnce (all_of W ks)
AreOnce-all place ks zero h p = tt
AreOnce-all place ks (suc n) h p =
    AreOnce-append (ks n) (all_of n ks) (h n (omega arith)) (AreOnce-all place ks n (λ w b. h w (omega (arith, b))) (λ w b. p w (omega (arith, b))))
    (λ k l r. let a = occurs_at k ks n r in omega (arith, p n (omega arith) k l, p a.0 (omega (arith, a.1)) k a.2, a.1))

-- ---- groups of all workers

group_of_key-all : (keys : List ℕ) (k : Key) (rows : ℕ → Bag) (W : ℕ) → group_of_key keys (all_of W rows) k ≡ all_of W (λ w. group_of_key keys (rows w) k)
group_of_key-all keys k rows zero = refl
group_of_key-all keys k rows (suc n) =
    filter-append (λ r. is_same_key (key_of keys r) k) (rows n) (all_of n rows) ∙ ap (λ (l : Bag). group_of_key keys (rows n) k ++ l) (group_of_key-all keys k rows n)

-- a worker's records are those whose keys are placed there
abbrev pub LieAt : (Key → ℕ) → List ℕ → ℕ → Bag → Type 0
LieAt place keys w rows = AllByRecursion (λ r. place (key_of keys r) ≡ w) rows

module _ (place : Key → ℕ) (keys : List ℕ) where
  no_group_away : (w : ℕ) (k : Key) (rows : Bag) → LieAt place keys w rows → (w ≡ place k → ⊥) → group_of_key keys rows k ≡ []
  no_group_away w k [] h ne = refl
  no_group_away w k (r ∷ rows) h ne =
      ap (λ (b : Bool). cond b (r ∷ group_of_key keys rows k) (group_of_key keys rows k))
      (false_from_ne_true (is_same_key (key_of keys r) k) (λ e. ne (sym h.0 ∙ ap place (same_keys (key_of keys r) k e))))
      ∙ no_group_away w k rows h.1 ne

  module _ (W : ℕ) (rows : ℕ → Bag) (lie : (w : ℕ) → w < W → LieAt place keys w (rows w)) where
    group_here : (k : Key) → place k < W → group_of_key keys (all_of W rows) k ≡ group_of_key keys (rows (place k)) k
    group_here k b = group_of_key-all keys k rows W ∙ only_one (λ w. group_of_key keys (rows w) k) W (place k) b (λ w c ne. no_group_away w k (rows w) (lie w c) ne)

    -- if a worker has records of a key, the key is placed there
    pub one_place : (w : ℕ) → w < W → (k : Key) → 0 < length (group_of_key keys (rows w) k) → place k ≡ w
    one_place w b k some = elim (eqb_tells w (place k)) as (λ _. place k ≡ w) [
      | inl e ↦ sym e.1
      | inr e ↦ absurd (omega (arith, some, ap length (no_group_away w k (rows w) (lie w b) e.1)))
    ]

-- ---- both sides

some_of : {A : Type 0} (a b : ℕ) → 0 < a + b → (0 < a → A) → (0 < b → A) → A
some_of zero b x f g = g (omega (arith, x))
some_of (suc a) b x f g = f (omega arith)

module _ (place : Key → ℕ) (keys others : List ℕ) (W : ℕ) (ls rs : ℕ → Bag) (left : (w : ℕ) → w < W → LieAt place keys w (ls w)) (right : (w : ℕ) → w < W → LieAt place others w (rs w)) where
  -- how many records of a key two bags have
  abbrev Both : Bag → Bag → Key → ℕ
  Both l r k = length (group_of_key keys l k) + length (group_of_key others r k)

  pub either_place : (w : ℕ) → w < W → (k : Key) → 0 < Both (ls w) (rs w) k → place k ≡ w
  either_place w b k some =
      some_of (length (group_of_key keys (ls w) k)) (length (group_of_key others (rs w) k)) some (one_place place keys W ls left w b k) (one_place place others W rs right w b k)

  module _ (f : List Value → Bag → Bag → Bag) (below : (k : Key) → place k < W) (ks : ℕ → List Key) (of_ks : (w : ℕ) → w < W → AreKeysOf keys others (ls w) (rs w) (ks w)) where
    key_place : (w : ℕ) → w < W → (k : Key) → occurs k (ks w) ≡ true → place k ≡ w
    key_place w b k o = either_place w b k (((of_ks w b).occur k).0 o)

    -- all records of a key are at its worker
    both_here : (k : Key) → Both (all_of W ls) (all_of W rs) k ≡ Both (ls (place k)) (rs (place k)) k
    both_here k = λ i. length (group_here place keys W ls left k (below k) i) + length (group_here place others W rs right k (below k) i)

    all_keys : AreKeysOf keys others (all_of W ls) (all_of W rs) (all_of W ks)
    all_keys = record {
      once = AreOnce-all place ks W (λ w b. (of_ks w b).once) key_place;
      occur = λ k. (
        (λ o.
            let a = occurs_at k ks W o in
            subst (λ (n : ℕ). 0 < n) (sym (both_here k)) (subst (λ (w : ℕ). 0 < Both (ls w) (rs w) k) (sym (key_place a.0 a.1 k a.2)) (((of_ks a.0 a.1).occur k).0 a.2))),
        (λ some. at_occurs k ks W (place k) (below k) (((of_ks (place k) (below k)).occur k).1 (subst (λ (n : ℕ). 0 < n) (both_here k) some))),
      );
    }

    given_here : (w : ℕ) → w < W → (k : Key) → occurs k (ks w) ≡ true → (out : Bag) → IsGivenFor f keys others (ls w) (rs w) k out → IsGivenFor f keys others (all_of W ls) (all_of W rs) k out
    given_here w b k o out h =
        let p = key_place w b k o in
        let l : group_of_key keys (ls w) k ≡ group_of_key keys (all_of W ls) k =
        sym (group_here place keys W ls left k (below k) ∙ ap (λ (v : ℕ). group_of_key keys (ls v) k) p) in
        let r : group_of_key others (rs w) k ≡ group_of_key others (all_of W rs) k =
        sym (group_here place others W rs right k (below k) ∙ ap (λ (v : ℕ). group_of_key others (rs v) k) p) in
        (h.0, h.1, subst (λ (g : Bag). Perm g h.0) l h.2, subst (λ (g : Bag). Perm g h.1) r h.3, h.4)

    -- What is emitted for each worker's keys is emitted for them over all records, for any list of these keys.
    pub gathered : (js : List Key) → AreKeysOf keys others (all_of W ls) (all_of W rs) js → (out : ℕ → Bag) → ((w : ℕ) → w < W → AreChosen (IsGivenFor f keys others (ls w) (rs w)) (ks w) (out w))
        → (now : Bag) × AreChosen (IsGivenFor f keys others (all_of W ls) (all_of W rs)) js now × Perm (all_of W out) now
    gathered js of_js out h =
        let All = IsGivenFor f keys others (all_of W ls) (all_of W rs) in
        let each = AreChosen-all All ks out W (λ w b. AreChosen-occurring (IsGivenFor f keys others (ls w) (rs w)) All (ks w) (given_here w b) (out w) (h w b)) in
        let perm = same_members (all_of W ks) js all_keys.once of_js.once (λ k o. (all_keys.occur k).1 ((of_js.occur k).0 o)) (λ k o. (of_js.occur k).1 ((all_keys.occur k).0 o)) in
        AreChosen-permuted All perm (all_of W out) each
