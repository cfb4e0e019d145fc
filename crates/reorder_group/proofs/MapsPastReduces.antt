-- A Map over a Reduce and the same Map under it allow the same bags.
use Rattle.std.proofs.Common.{◌<◌, ◌⊎◌, inl, inr, ℕ, List, [], ◌∷◌, length, subst, arith}
use Rattle.std.specs.Prelude.{flat_map}
use Rattle.pact_record.specs.Keys.{is_listed}
use Rattle.pact_record.proofs.Permutations.{chains, same}
use Rattle.pact_bag.proofs.KeyLists.{Key}
use Rattle.pact_bag.proofs.KeysOfBags.{keys_alone}
use Rattle.tac_syntax.specs.Call.{of_group}
use Rattle.tac_syntax.specs.Contexts.{Ports}
use Rattle.tac_syntax.specs.declared.contexts.Side.TheVariants.{Left as on_left}
use Rattle.tac_syntax.specs.Forms.{HasForm}
use Rattle.tac_syntax.specs.Valid.{WithFields}
use Rattle.tac_syntax.specs.declared.declarations.OpKind.{OpKind}
use Rattle.plan_trees.specs.Plans.{PlanTree, over}
use Rattle.pact_operators.specs.declared.operators.Op.{Op}
use Rattle.pact_operators.specs.Allowed.{Allows, Bag, keys_in}
use Rattle.pact_operators.specs.PlanOps.{PlanOps}
use Rattle.pact_operators.specs.Programs.{HasAttribute, Owns}
use Rattle.pact_operators.specs.SoundOps.{AreOpsOf, IsCallOf, called, function_kind}
use Rattle.pact_operators.proofs.LawfulBags.{IsCallOf-group, all_wide, call_fits_one, lawful_bags, map_fits}
use Rattle.pact_operators.proofs.WithinFields.{all_within_larger, within_larger}
use Rattle.reorder_pair.proofs.Maps.{bag_of_map, map_bag, map_form_in}
use Rattle.reorder_pair.proofs.PermittedExchanges.{joint}
use Rattle.pact_operators.proofs.ChosenForKeys.{of_one_side}
use Rattle.reorder_group.proofs.GroupBags.{bag_of_reduce, reduce_bag}
use Rattle.reorder_group.proofs.KeptGroups.{records_kept}
use Rattle.reorder_group.proofs.PermittedGroups.{PermitsReduce}
use Rattle.reorder_group.proofs.SideGroups.{IsCall, IsMove, Move}
use Rattle.reorder_group.proofs.SideLaws.{given_above, side_moved, side_moved_back}

module _ (fields : ℕ) (v : List WithFields) (ops : List Op) (o : PlanOps) (good : AreOpsOf fields v ops o) (f g : ℕ) (t : PlanTree) (x : PermitsReduce fields v ops o f g t) where
  -- the contexts that the two may be called in, before and after
  abbrev cf : Ports
  cf = joint v ops o f (over f (over g t)) (over f t)

  abbrev cg : Ports
  cg = joint v ops o g (over g t) (over g (over f t))

  -- there is no other side
  abbrev move : Move
  move = record {
    keys = o.left_keys g;
    other_keys = [];
    below = HasAttribute v ops t;
    for_each = cf.left;
    for_group = cg.left;
    other = λ r. ⊥;
    upper = x.upper;
    lower = x.lower;
    each = o.of_record f;
    group = of_one_side (o.of_group g);
  }

  one_side : (k : ℕ) → ⊥ ⊎ ⊥ → ⊥
  one_side k h = elim h as (λ _. ⊥) [ inl a ↦ a | inr b ↦ b ]

  some_here : (set : ℕ → Type 0) (k : Key) (xs zs : Bag) → IsCall fields move set k xs zs → 0 < length xs
  some_here set k xs [] c = omega (arith, c.some)
  some_here set k xs (z ∷ zs) c = absurd c.fit_others.0

  group_called : (set : ℕ → Type 0) (k : Key) (xs zs : Bag) → IsCall fields move set k xs zs → IsCallOf (o.kind g) (o.left_keys g) (o.right_keys g) (of_group k xs)
  group_called set k xs zs c = IsCallOf-group (o.kind g) (o.left_keys g) (o.right_keys g) k xs x.lower_kind (some_here set k xs zs c) c.keyed

  reduce_move : IsMove fields move
  reduce_move =
      let A = HasAttribute v ops t in
      record {
        form_each = map_form_in fields v ops o good f (over g t) t x.upper x.upper_kind x.found.upper_sets;
        form_group = λ k xs ys zs c d agree.
            let form = subst (λ (q : OpKind). HasForm (function_kind q) fields cg x.lower.reads x.lower.writes on_left (called o g)) x.lower_kind x.found.lower_sets.form in
            form (of_group k xs) (of_group k ys)
            (record { apart = λ i h j. one_side i j; called = tt; some = some_here cg.left k xs zs c; keyed = c.keyed; left = c.fit; right = tt })
            (record { apart = λ i h j. one_side i j; called = tt; some = some_here cg.left k ys zs d; keyed = d.keyed; left = d.fit; right = tt })
            (record { left = agree; right = tt });
        below_each = λ r h. within_larger fields A cf.left r (λ k out a. out (inr a)) h;
        below_group = λ r h. within_larger fields A cg.left r (λ k out a. out (inl a)) h;
        out_each = λ r h. all_within_larger fields (λ k. Owns v ops f k ⊎ A k) cg.left (o.of_record f r) (λ k out a. out (inr a)) (map_fits fields v ops o good f A x.upper_kind r h);
        out_group = λ k xs zs c.
            all_within_larger fields (λ i. Owns v ops g i ⊎ A i) cf.left (o.of_group g k xs) (λ i out a. out (inl a))
            (call_fits_one fields v ops o good g A (of_group k xs) (group_called A k xs zs c) c.fit tt);
        wide_group = λ k xs zs c.
            all_wide fields (λ i. Owns v ops g i ⊎ cg.left i) (o.of_group g k xs) (call_fits_one fields v ops o good g cg.left (of_group k xs) (group_called cg.left k xs zs c) c.fit tt);
        no_conflict = x.found.no_conflict;
        keys_read = x.found.lower_sets.left_keys;
        keeps = records_kept fields cf (is_listed (o.left_keys g)) (called o f) (λ k h j. one_side k j) x.keeps;
      }

  pub map_reduce : (bag : Bag) → Allows o (over f (over g t)) bag → Allows o (over g (over f t)) bag
  map_reduce bag h =
      let m = map_bag o f (over g t) bag x.upper_kind h in
      let a = reduce_bag o g t m.rows x.lower_kind m.below in
      let now = flat_map (o.of_record f) a.rows in
      let keys = o.left_keys g in
      let moved = side_moved fields move reduce_move a.rows now [] (lawful_bags fields v ops o good t a.rows a.below) tt (same now) (keys_in keys a.rows) (keys_in keys now)
      (keys_alone keys a.rows) (keys_alone keys now) a.out a.given in
      bag_of_reduce o g (over f t) now moved.0 bag x.lower_kind (bag_of_map o f t a.rows now x.upper_kind a.below (same now)) moved.1
      (given_above (o.of_record f) a.out m.rows moved.0 bag moved.2 a.perm m.perm)

  pub map_reduce_up : (bag : Bag) → Allows o (over g (over f t)) bag → Allows o (over f (over g t)) bag
  map_reduce_up bag h =
      let a = reduce_bag o g (over f t) bag x.lower_kind h in
      let m = map_bag o f t a.rows x.upper_kind a.below in
      let keys = o.left_keys g in
      let moved = side_moved_back fields move reduce_move m.rows a.rows [] (lawful_bags fields v ops o good t m.rows m.below) tt m.perm (keys_in keys m.rows) (keys_in keys a.rows)
      (keys_alone keys m.rows) (keys_alone keys a.rows) a.out a.given in
      bag_of_map o f (over g t) moved.0 bag x.upper_kind (bag_of_reduce o g t m.rows moved.0 moved.0 x.lower_kind m.below moved.1 (same moved.0)) (chains moved.2 a.perm)
