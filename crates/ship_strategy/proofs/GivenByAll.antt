-- If an operator's edges are legal, what it emits at all workers together is what it emits for the records of all.
use Rattle.std.proofs.Common.{◌≡◌, ◌<◌, ◌≤◌, ◌==◌, ◌||◌, inl, inr, ℕ, Bool, true, false, cond, Some, None, List, [], ◌∷◌, map, refl, sym, ap, subst, ◌∙◌}
use Rattle.std.specs.Prelude.{flat_map}
use Rattle.std.specs.List.{AllByRecursion}
use Rattle.std.proofs.lemmas.Bool.{both_ways}
use Rattle.std.proofs.lemmas.Bool.Decides.{eqb_tells}
use Rattle.pact_bag.proofs.KeyLists.{Key}
use Rattle.pact_bag.proofs.KeysOfBags.{AreKeysOf, keys_alone, keys_of_either}
use Rattle.pact_record.specs.declared.values.Value.{Value}
use Rattle.pact_record.specs.declared.values.Value.TheVariants.{Null}
use Rattle.pact_record.specs.Hash.{target}
use Rattle.pact_record.specs.Keys.{is_listed}
use Rattle.pact_record.specs.Record.{at_field, key_of}
use Rattle.pact_record.proofs.Lists.{AllByRecursion-weaker}
use Rattle.pact_record.proofs.Permutations.{Perm, chains, turned, is_same, same}
use Rattle.tac_syntax.specs.declared.declarations.OpKind.{OpKind}
use Rattle.tac_syntax.specs.declared.declarations.OpKind.TheVariants.{Source, Map, Reduce, Match, Cross, CoGroup}
use Rattle.plan_trees.specs.declared.physicals.Ship.{Ship}
use Rattle.plan_trees.specs.declared.physicals.Ship.TheVariants.{Forward, Partition, Broadcast}
use Rattle.plan_trees.specs.Sending.{all_of}
use Rattle.pact_operators.specs.Allowed.{Bag, Gives, GivesBoth, keys_in, keys_in_either}
use Rattle.pact_bag.specs.Pairs.{crossed, matched, unless_null}
use Rattle.pact_operators.specs.PlanOps.{PlanOps}
use Rattle.pact_operators.proofs.ChosenForKeys.{AreChosen, IsGivenFor, chosen-CoGrouped, chosen-Grouped, cogrouped-AreChosen, grouped-AreChosen, of_one_side}
use Rattle.pact_operators.proofs.PermutedPairs.{pairs_perm}
use Rattle.ship_strategy.specs.Ships.{AreByKey, GoesEverywhere, IsLegalBoth, IsLegalOver, Placement, edge_placement, is_broadcast}
use Rattle.ship_strategy.proofs.Arrivals.{LieBy, target_below}
use Rattle.plan_trees.proofs.EachWorker.{none_each, perm_each, same_each}
use Rattle.ship_strategy.proofs.GroupsAtWorkers.{LieAt, gathered}
use Rattle.ship_strategy.proofs.PairsAtWorkers.{equal_pairs-all, flat_map-all, left_everywhere, over_pairs, right_everywhere}

-- ---- a placement by fields inside a key is one by the key

-- the value of a field among the values of a key
abbrev pub looked_up : List ℕ → List Value → ℕ → Value
looked_up [] values k = Null
looked_up (j ∷ keys) [] k = Null
looked_up (j ∷ keys) (v ∷ values) k = cond (k == j) v (looked_up keys values k)

later_listed : (u v : Bool) → u ≡ false → (u || v) ≡ true → v ≡ true
later_listed true v e q = cc
later_listed false v e q = q

looked_up-key : (keys : List ℕ) (r : List Value) (k : ℕ) → is_listed keys k ≡ true → looked_up keys (key_of keys r) k ≡ at_field r k
looked_up-key [] r k h = absurd (both_ways false refl h)
looked_up-key (j ∷ keys) r k h = elim (eqb_tells k j) as (λ _. looked_up (j ∷ keys) (key_of (j ∷ keys) r) k ≡ at_field r k) [
  | inl e ↦ ap (λ (b : Bool). cond b (at_field r j) (looked_up keys (key_of keys r) k)) e.0 ∙ ap (at_field r) (sym e.1)
  | inr e ↦ ap (λ (b : Bool). cond b (at_field r j) (looked_up keys (key_of keys r) k)) e.0 ∙ looked_up-key keys r k (later_listed (k == j) (is_listed keys k) e.0 h)
]

key_of-looked_up : (keys fields : List ℕ) (r : List Value) → AllByRecursion (λ k. is_listed keys k ≡ true) fields → map (looked_up keys (key_of keys r)) fields ≡ key_of fields r
key_of-looked_up keys [] r h = refl
key_of-looked_up keys (k ∷ fields) r h = λ i. looked_up-key keys r k h.0 i ∷ key_of-looked_up keys fields r h.1 i

abbrev pub place_inside : ℕ → List ℕ → List ℕ → Key → ℕ
place_inside W keys fields k = target W (map (looked_up keys k) fields)

pub lie_inside : (W w : ℕ) (keys fields : List ℕ) → AllByRecursion (λ k. is_listed keys k ≡ true) fields → (rows : Bag) → LieBy W (Some fields) w rows → LieAt (place_inside W keys fields) keys w rows
lie_inside W w keys fields inside rows h =
    AllByRecursion-weaker (λ r. target W (key_of fields r) ≡ w) (λ r. place_inside W keys fields (key_of keys r) ≡ w) rows (λ r e. ap (target W) (key_of-looked_up keys fields r inside) ∙ e) h

-- ---- pairs

-- what the workers received from a side is all its records, at each worker or all workers together
abbrev pub HaveSide : ℕ → Bool → (ℕ → Bag) → Bag → Type 0
HaveSide W true received rows = (w : ℕ) → w < W → Perm (received w) rows
HaveSide W false received rows = rows ≡ all_of W received

pub pairs_together : {B : Type 0} (W : ℕ) (f : List Value → List Value → List B) (la ra : Bool) → GoesEverywhere la ra → (l r : ℕ → Bag) (ls rs : Bag) → HaveSide W la l ls → HaveSide W ra r rs
    → Perm (all_of W (λ w. over_pairs f (l w) (r w))) (over_pairs f ls rs)
pairs_together W f true true legal l r ls rs h g = elim legal as (λ _. Perm (all_of W (λ w. over_pairs f (l w) (r w))) (over_pairs f ls rs)) [
  | inl a ↦ absurd (both_ways true a.1 refl)
  | inr b ↦ absurd (both_ways true b.0 refl)
]
pairs_together W f true false legal l r ls rs h g =
    chains (perm_each (λ w. over_pairs f (l w) (r w)) (λ w. over_pairs f ls (r w)) W (λ w b. pairs_perm f (h w b) (same (r w))))
    (chains (turned (left_everywhere f ls r W)) (is_same (ap (over_pairs f ls) (sym g))))
pairs_together W f false true legal l r ls rs h g =
    chains (perm_each (λ w. over_pairs f (l w) (r w)) (λ w. over_pairs f (l w) rs) W (λ w b. pairs_perm f (same (l w)) (g w b)))
    (is_same (sym (right_everywhere f l rs W) ∙ ap (λ (z : Bag). over_pairs f z rs) (sym h)))
pairs_together W f false false legal l r ls rs h g = elim legal as (λ _. Perm (all_of W (λ w. over_pairs f (l w) (r w))) (over_pairs f ls rs)) [
  | inl a ↦ absurd (both_ways false refl a.0)
  | inr b ↦ absurd (both_ways false refl b.1)
]

none_placed : (keys : List ℕ) → None ≡ Some keys → ⊥
none_placed keys e = cc

-- an edge with a placement isn't Broadcast
pub edge_stays : (ship : Ship) (p : Placement) (keys : List ℕ) → edge_placement ship p ≡ Some keys → is_broadcast ship ≡ false
edge_stays Forward p keys e = refl
edge_stays (Partition k) p keys e = refl
edge_stays Broadcast p keys e = absurd (none_placed keys e)

-- nor is the edge of an operator of one input
pub only_edge_stays : (kind : OpKind) (keys : List ℕ) (ship : Ship) (p : Placement) → IsLegalOver kind keys (is_broadcast ship) (edge_placement ship p) → is_broadcast ship ≡ false
only_edge_stays Map keys ship p legal = legal
only_edge_stays Reduce keys ship p legal = edge_stays ship p legal.0 legal.1
only_edge_stays kind keys ship p legal = absurd legal

-- ---- one input

module _ (o : PlanOps) (n W : ℕ) (some : 1 ≤ W) where
  -- what the operator emits at each worker is together what it emits for the records of all
  abbrev pub GivesAll : OpKind → (received out : ℕ → Bag) → Type 0
  GivesAll k received out = (now : Bag) × Gives o k n (all_of W received) now × Perm (all_of W out) now

  reduce_gives : (fields : List ℕ) → AllByRecursion (λ k. is_listed (o.left_keys n) k ≡ true) fields → (received out : ℕ → Bag) → ((w : ℕ) → w < W → LieBy W (Some fields) w (received w))
      → ((w : ℕ) → w < W → Gives o Reduce n (received w) (out w)) → GivesAll Reduce received out
  reduce_gives fields inside received out lie h =
      let K = o.left_keys n in
      let f = of_one_side (o.of_group n) in
      let none : all_of W (λ w. []) ≡ [] = none_each {A = List Value} (λ w. []) W (λ w b. refl) in
      let g = gathered (place_inside W K fields) K [] W received (λ w. []) (λ w b. lie_inside W w K fields inside (received w) (lie w b)) (λ w b. tt)
      f (λ k. target_below W some (map (looked_up K k) fields)) (λ w. keys_in K (received w)) (λ w b. keys_alone K (received w))
      (keys_in K (all_of W received)) (subst (λ (z : Bag). AreKeysOf K [] (all_of W received) z (keys_in K (all_of W received))) (sym none) (keys_alone K (all_of W received)))
      out (λ w b. grouped-AreChosen (o.of_group n) K (received w) (keys_in K (received w)) (out w) (h w b)) in
      let c = subst (λ (z : Bag). AreChosen (IsGivenFor f K [] (all_of W received) z) (keys_in K (all_of W received)) g.0) none g.1 in
      (g.0, chosen-Grouped (o.of_group n) K (all_of W received) (keys_in K (all_of W received)) g.0 c, g.2)

  pub over_gives : (k : OpKind) (all : Bool) (edge : Placement) → IsLegalOver k (o.left_keys n) all edge → (received out : ℕ → Bag) → ((w : ℕ) → w < W → LieBy W edge w (received w))
      → ((w : ℕ) → w < W → Gives o k n (received w) (out w)) → GivesAll k received out
  over_gives Map all edge legal received out lie h =
      (flat_map (o.of_record n) (all_of W received), refl, is_same (same_each out (λ w. flat_map (o.of_record n) (received w)) W h ∙ sym (flat_map-all (o.of_record n) received W)))
  over_gives Reduce all edge legal received out lie h =
      reduce_gives legal.0 legal.2 received out (λ w b. subst (λ (e : Placement). LieBy W e w (received w)) legal.1 (lie w b)) h
  over_gives k all edge legal received out lie h = absurd legal

  -- ---- two

  abbrev pub GivesBothAll : OpKind → (ls rs : Bag) → (out : ℕ → Bag) → Type 0
  GivesBothAll k ls rs out = (now : Bag) × GivesBoth o k n ls rs now × Perm (all_of W out) now

  module _ (sl sr : Ship) (pl pr : Placement) (l r : ℕ → Bag) (ls rs : Bag) (left : HaveSide W (is_broadcast sl) l ls) (right : HaveSide W (is_broadcast sr) r rs)
      (lie_left : (w : ℕ) → w < W → LieBy W (edge_placement sl pl) w (l w)) (lie_right : (w : ℕ) → w < W → LieBy W (edge_placement sr pr) w (r w)) (out : ℕ → Bag) where
    abbrev ByKey : Type 0
    ByKey = AreByKey (o.left_keys n) (o.right_keys n) (edge_placement sl pl) (edge_placement sr pr)

    all_left : ByKey → ls ≡ all_of W l
    all_left k = subst (λ (b : Bool). HaveSide W b l ls) (edge_stays sl pl (o.left_keys n) k.0) left

    all_right : ByKey → rs ≡ all_of W r
    all_right k = subst (λ (b : Bool). HaveSide W b r rs) (edge_stays sr pr (o.right_keys n) k.1) right

    at_left : ByKey → (w : ℕ) → w < W → LieAt (target W) (o.left_keys n) w (l w)
    at_left k w b = subst (λ (e : Placement). LieBy W e w (l w)) k.0 (lie_left w b)

    at_right : ByKey → (w : ℕ) → w < W → LieAt (target W) (o.right_keys n) w (r w)
    at_right k w b = subst (λ (e : Placement). LieBy W e w (r w)) k.1 (lie_right w b)

    cogroup_gives : ByKey → ((w : ℕ) → w < W → GivesBoth o CoGroup n (l w) (r w) (out w)) → GivesBothAll CoGroup ls rs out
    cogroup_gives k h =
        let K = o.left_keys n in
        let J = o.right_keys n in
        let f = o.of_groups n in
        let g = gathered (target W) K J W l r (at_left k) (at_right k) f (target_below W some) (λ w. keys_in_either K J (l w) (r w)) (λ w b. keys_of_either K J (l w) (r w))
        (keys_in_either K J (all_of W l) (all_of W r)) (keys_of_either K J (all_of W l) (all_of W r))
        out (λ w b. cogrouped-AreChosen f K J (l w) (r w) (keys_in_either K J (l w) (r w)) (out w) (h w b)) in (
          g.0,
          subst (λ (z : Bag). GivesBoth o CoGroup n z rs g.0) (sym (all_left k)) (subst (λ (z : Bag). GivesBoth o CoGroup n (all_of W l) z g.0) (sym (all_right k))
              (chosen-CoGrouped f K J (all_of W l) (all_of W r) (keys_in_either K J (all_of W l) (all_of W r)) g.0 g.1)),
          g.2,
        )

    match_gives : ByKey → ((w : ℕ) → w < W → GivesBoth o Match n (l w) (r w) (out w)) → GivesBothAll Match ls rs out
    match_gives k h =
        let M = matched o.nulls (o.of_pair n) (o.left_keys n) (o.right_keys n) in (
          crossed M ls rs,
          refl,
          is_same (same_each out (λ w. crossed M (l w) (r w)) W h
              ∙ sym (equal_pairs-all (unless_null o.nulls (o.of_pair n) (o.left_keys n)) (target W) (o.left_keys n) (o.right_keys n) W l r (at_left k) (at_right k)) ∙ sym (λ i. crossed M (all_left k i) (all_right k i))),
        )

    pub both_give : (k : OpKind) → IsLegalBoth k (o.left_keys n) (o.right_keys n) (is_broadcast sl) (is_broadcast sr) (edge_placement sl pl) (edge_placement sr pr)
        → ((w : ℕ) → w < W → GivesBoth o k n (l w) (r w) (out w)) → GivesBothAll k ls rs out
    both_give Source legal h = absurd legal
    both_give Map legal h = absurd legal
    both_give Reduce legal h = absurd legal
    both_give Match legal h = elim legal as (λ _. GivesBothAll Match ls rs out) [
      | inl key ↦ match_gives key h
      | inr all ↦
          let M = matched o.nulls (o.of_pair n) (o.left_keys n) (o.right_keys n) in
          (crossed M ls rs, refl, chains (is_same (same_each out (λ w. over_pairs M (l w) (r w)) W h)) (pairs_together W M (is_broadcast sl) (is_broadcast sr) all l r ls rs left right))
    ]
    both_give Cross legal h =
        let f = o.of_pair n in
        (crossed f ls rs, refl, chains (is_same (same_each out (λ w. over_pairs f (l w) (r w)) W h)) (pairs_together W f (is_broadcast sl) (is_broadcast sr) legal l r ls rs left right))
    both_give CoGroup legal h = cogroup_gives legal h
