-- A plan allows only one bag if its grouping operators emit the same outputs, up to order, for groups in any order.
use Rattle.std.proofs.Common.{◌≡◌, inl, inr, ℕ, List, [], ◌∷◌, refl, sym, subst, ◌∙◌, arith}
use Rattle.std.specs.List.Sorted.{IsPermutation}
use Rattle.pact_record.specs.Record.{key_of}
use Rattle.pact_record.proofs.Permutations.{Perm, both_parts, chains, filter_perm, flat_map_perm, from_permutation, is_same, length-perm, nothing, to_permutation, turned}
use Rattle.pact_bag.specs.Groups.{group_of_key, is_same_key}
use Rattle.pact_bag.proofs.KeyLists.{Key, same_members}
use Rattle.pact_bag.proofs.KeysOfBags.{AreKeysOf, keys_alone, keys_of_either}
use Rattle.tac_syntax.specs.declared.declarations.OpKind.{OpKind}
use Rattle.tac_syntax.specs.declared.declarations.OpKind.TheVariants.{Map, Reduce, Match, Cross, CoGroup}
use Rattle.plan_trees.specs.Plans.{PlanTree, leaf, over, both}
use Rattle.pact_operators.specs.Allowed.{Allows, Bag, Gives, GivesBoth, keys_in, keys_in_either}
use Rattle.pact_operators.specs.PlanOps.{PlanOps}
use Rattle.reorder_pair.proofs.FunctionForms.{Row}
use Rattle.reorder_pair.proofs.Maps.{map_bag}
use Rattle.reorder_pair.proofs.Pairs.{pair_bag, pair_of}
use Rattle.reorder_pair.proofs.PermittedExchanges.{IsPair}
use Rattle.pact_operators.proofs.ChosenForKeys.{AreChosen, AreChosen-permuted, IsGivenFor, of_one_side}
use Rattle.pact_operators.proofs.PermutedPairs.{pairs_perm}
use Rattle.reorder_group.proofs.GroupBags.{cogroup_bag, reduce_bag}

-- for groups in another order an operator that groups emits permuted outputs
abbrev pub PermutesAt : PlanOps → OpKind → ℕ → Type 0
PermutesAt o Reduce n = (key : Key) (group other : Bag) → IsPermutation group other → IsPermutation (o.of_group n key group) (o.of_group n key other)
PermutesAt o CoGroup n =
    (key : Key) (left other_left right other_right : Bag) → IsPermutation left other_left → IsPermutation right other_right → IsPermutation (o.of_groups n key left right) (o.of_groups n key other_left other_right)
PermutesAt o kind n = Unit {0}

-- each operator of a tree does
abbrev pub AllPermute : PlanOps → PlanTree → Type 0
AllPermute o (leaf n) = Unit {0}
AllPermute o (over n t) = PermutesAt o (o.kind n) n × AllPermute o t
AllPermute o (both n t u) = PermutesAt o (o.kind n) n × AllPermute o t × AllPermute o u

-- ---- what is chosen for the keys of permuted bags

same_chosen : (P Q : Key → Bag → Type 0) → ((k : Key) (out now : Bag) → P k out → Q k now → Perm out now) → (ks : List Key) (out now : Bag) → AreChosen P ks out → AreChosen Q ks now → Perm out now
same_chosen P Q f [] out now c d = is_same (c ∙ sym d)
same_chosen P Q f (k ∷ ks) out now c d = chains (is_same c.3) (chains (both_parts (f k c.0 d.0 c.2 d.2) (same_chosen P Q f ks c.1 d.1 c.4 d.4)) (is_same (sym d.3)))

module _ (g : Row → Bag → Bag → Bag) (permutes : (k : Key) (xs ys zs ws : Bag) → Perm xs ys → Perm zs ws → Perm (g k xs zs) (g k ys ws)) (keys others : List ℕ)
    (ls now rs rest : Bag) (p : Perm ls now) (q : Perm rs rest) where
  left_group : (k : Key) → Perm (group_of_key keys ls k) (group_of_key keys now k)
  left_group k = filter_perm (λ r. is_same_key (key_of keys r) k) p

  right_group : (k : Key) → Perm (group_of_key others rs k) (group_of_key others rest k)
  right_group k = filter_perm (λ r. is_same_key (key_of others r) k) q

  given_same : (k : Key) (out after : Bag) → IsGivenFor g keys others ls rs k out → IsGivenFor g keys others now rest k after → Perm out after
  given_same k out after x y =
      chains (is_same x.4)
      (chains (permutes k x.0 y.0 x.1 y.1 (chains (turned x.2) (chains (left_group k) y.2)) (chains (turned x.3) (chains (right_group k) y.3)))
      (is_same (sym y.4)))

  groups_same : (ks js : List Key) → AreKeysOf keys others ls rs ks → AreKeysOf keys others now rest js → (out after : Bag) → AreChosen (IsGivenFor g keys others ls rs) ks out
      → AreChosen (IsGivenFor g keys others now rest) js after → Perm out after
  groups_same ks js a b out after c d =
      let members = same_members ks js a.once b.once (λ k is. (a.occur k).1 (omega (arith, (b.occur k).0 is, length-perm (left_group k), length-perm (right_group k))))
      (λ k is. (b.occur k).1 (omega (arith, (a.occur k).0 is, length-perm (left_group k), length-perm (right_group k)))) in
      let r = AreChosen-permuted (IsGivenFor g keys others ls rs) members out c in
      chains r.2 (same_chosen (IsGivenFor g keys others ls rs) (IsGivenFor g keys others now rest) given_same js r.0 after r.1 d)

-- ---- plans

module _ (o : PlanOps) where
  -- any two bags that the tree allows
  abbrev AreSame : PlanTree → Type 0
  AreSame t = (bag other : Bag) → Allows o t bag → Allows o t other → Perm bag other

  over_same : (n : ℕ) (t : PlanTree) (kind : OpKind) → o.kind n ≡ kind → PermutesAt o kind n → AreSame t → AreSame (over n t)
  over_same n t Map e h below bag other a b =
      let x = map_bag o n t bag e a in
      let y = map_bag o n t other e b in
      chains (turned x.perm) (chains (flat_map_perm (o.of_record n) (below x.rows y.rows x.below y.below)) y.perm)
  over_same n t Reduce e h below bag other a b =
      let x = reduce_bag o n t bag e a in
      let y = reduce_bag o n t other e b in
      let keys = o.left_keys n in
      let permutes = λ (k : Key) (xs ys zs ws : Bag) (p : Perm xs ys) (q : Perm zs ws). from_permutation (o.of_group n k xs) (o.of_group n k ys) (h k xs ys (to_permutation p)) in
      let given = groups_same (of_one_side (o.of_group n)) permutes keys [] x.rows y.rows [] [] (below x.rows y.rows x.below y.below) nothing
      (keys_in keys x.rows) (keys_in keys y.rows) (keys_alone keys x.rows) (keys_alone keys y.rows) x.out y.out x.given y.given in
      chains (turned x.perm) (chains given y.perm)
  over_same n t kind e h below bag other a b = absurd (subst (λ (k : OpKind). Gives o k n a.0.rows a.0.out) e a.0.given)

  pair_same : (n : ℕ) (t u : PlanTree) → IsPair (o.kind n) → AreSame t → AreSame u → AreSame (both n t u)
  pair_same n t u pair lefts rights bag other a b =
      let x = pair_bag o n t u bag pair a in
      let y = pair_bag o n t u other pair b in
      let f = pair_of o (o.kind n) n in
      chains (turned x.perm)
      (chains (pairs_perm f (lefts x.left_rows y.left_rows x.left_below y.left_below) (rights x.right_rows y.right_rows x.right_below y.right_below)) y.perm)

  both_same : (n : ℕ) (t u : PlanTree) (kind : OpKind) → o.kind n ≡ kind → PermutesAt o kind n → AreSame t → AreSame u → AreSame (both n t u)
  both_same n t u Match e h lefts rights bag other a b = pair_same n t u (inl e) lefts rights bag other a b
  both_same n t u Cross e h lefts rights bag other a b = pair_same n t u (inr e) lefts rights bag other a b
  both_same n t u CoGroup e h lefts rights bag other a b =
      let x = cogroup_bag o n t u bag e a in
      let y = cogroup_bag o n t u other e b in
      let ls = x.left_rows in
      let now = y.left_rows in
      let rs = x.right_rows in
      let rest = y.right_rows in
      let keys = o.left_keys n in
      let others = o.right_keys n in
      let permutes = λ (k : Key) (xs ys zs ws : Bag) (p : Perm xs ys) (q : Perm zs ws). from_permutation (o.of_groups n k xs zs) (o.of_groups n k ys ws) (h k xs ys zs ws (to_permutation p) (to_permutation q)) in
      let given = groups_same (o.of_groups n) permutes keys others ls now rs rest (lefts ls now x.left_below y.left_below) (rights rs rest x.right_below y.right_below)
      (keys_in_either keys others ls rs) (keys_in_either keys others now rest) (keys_of_either keys others ls rs) (keys_of_either keys others now rest) x.out y.out x.given y.given in
      chains (turned x.perm) (chains given y.perm)
  both_same n t u kind e h lefts rights bag other a b = absurd (subst (λ (k : OpKind). GivesBoth o k n a.0.left_rows a.0.right_rows a.0.out) e a.0.given)

  pub one_bag : (t : PlanTree) → AllPermute o t → (bag other : Bag) → Allows o t bag → Allows o t other → Perm bag other
  one_bag (leaf n) h bag other a b = chains (turned (from_permutation (o.rows n) bag a.0.permuted)) (from_permutation (o.rows n) other b.0.permuted)
  one_bag (over n t) h bag other a b = over_same n t (o.kind n) refl h.0 (one_bag t h.1) bag other a b
  one_bag (both n t u) h bag other a b = both_same n t u (o.kind n) refl h.0 (one_bag t h.1) (one_bag u h.2) bag other a b
