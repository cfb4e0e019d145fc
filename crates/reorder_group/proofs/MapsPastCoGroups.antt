-- A Map over a CoGroup and the same Map under a side of it allow the same bags.
use Rattle.std.proofs.Common.{◌⊎◌, inl, inr, ℕ, List, subst, arith}
use Rattle.std.specs.Prelude.{flat_map}
use Rattle.pact_record.specs.Keys.{is_listed}
use Rattle.pact_record.proofs.Permutations.{chains, same}
use Rattle.pact_bag.proofs.KeyLists.{Key}
use Rattle.pact_bag.proofs.KeysOfBags.{AreKeysOf, keys_of_either, keys_turned}
use Rattle.tac_syntax.specs.Call.{of_groups}
use Rattle.tac_syntax.specs.Contexts.{Ports}
use Rattle.tac_syntax.specs.declared.contexts.Side.TheVariants.{Left as on_left, Right as on_right}
use Rattle.tac_syntax.specs.Forms.{AreApart, HasForm, IsWithin}
use Rattle.tac_syntax.specs.Valid.{WithFields}
use Rattle.tac_syntax.specs.declared.declarations.OpKind.{OpKind}
use Rattle.plan_trees.specs.Plans.{PlanTree, over, both}
use Rattle.pact_operators.specs.declared.operators.Op.{Op}
use Rattle.pact_operators.specs.Allowed.{Allows, Bag, keys_in_either}
use Rattle.pact_operators.specs.PlanOps.{PlanOps}
use Rattle.pact_operators.specs.Programs.{HasAttribute, Owns}
use Rattle.pact_operators.specs.SoundOps.{AreOpsOf, IsCallOf, called, function_kind}
use Rattle.pact_operators.proofs.LawfulBags.{IsCallOf-groups, all_wide, call_fits, lawful_bags, map_fits}
use Rattle.pact_operators.proofs.WithinFields.{agree_self, all_within_larger, within_larger}
use Rattle.reorder_pair.proofs.Maps.{bag_of_map, map_bag, map_form}
use Rattle.reorder_pair.proofs.PermittedExchanges.{joint}
use Rattle.reorder_pair.proofs.SidesApart.{apart_turned, apart_with}
use Rattle.reorder_group.proofs.GroupBags.{AreChosen-turned, AreChosen-turned_back, bag_of_cogroup, cogroup_bag, turned_groups}
use Rattle.reorder_group.proofs.KeptGroups.{records_kept}
use Rattle.reorder_group.proofs.PermittedGroups.{PermitsCoGroupLeft, PermitsCoGroupRight}
use Rattle.reorder_group.proofs.SideGroups.{IsCall, IsMove, Move}
use Rattle.reorder_group.proofs.SideLaws.{given_above, side_moved, side_moved_back}

-- a Map has no right side
one_side : (k : ℕ) → ⊥ ⊎ ⊥ → ⊥
one_side k h = elim h as (λ _. ⊥) [ inl a ↦ a | inr b ↦ b ]

module _ (fields : ℕ) (v : List WithFields) (ops : List Op) (o : PlanOps) (good : AreOpsOf fields v ops o) where
  -- ---- the left side

  module _ (f g : ℕ) (t u : PlanTree) (x : PermitsCoGroupLeft fields v ops o f g t u) (apart : AreApart (HasAttribute v ops t) (HasAttribute v ops u)) where
    -- the contexts that the two may be called in, before and after
    abbrev cf : Ports
    cf = joint v ops o f (over f (both g t u)) (over f t)

    abbrev cg : Ports
    cg = joint v ops o g (both g t u) (both g (over f t) u)

    abbrev left_move : Move
    left_move = record {
      keys = o.left_keys g;
      other_keys = o.right_keys g;
      below = HasAttribute v ops t;
      for_each = cf.left;
      for_group = cg.left;
      other = IsWithin fields (HasAttribute v ops u);
      upper = x.upper;
      lower = x.lower;
      each = o.of_record f;
      group = o.of_groups g;
    }

    left_sides : AreApart cg.left cg.right
    left_sides = apart_with (Owns v ops f) (HasAttribute v ops t) (HasAttribute v ops u) apart (λ k own b. x.side k (x.found.upper_sets.owned k own) b)

    left_called : (set : ℕ → Type 0) (k : Key) (xs zs : Bag) → IsCall fields left_move set k xs zs → IsCallOf (o.kind g) (o.left_keys g) (o.right_keys g) (of_groups k xs zs)
    left_called set k xs zs c = IsCallOf-groups (o.kind g) (o.left_keys g) (o.right_keys g) k xs zs x.lower_kind c.some c.keyed c.keyed_others

    is_left_move : IsMove fields left_move
    is_left_move =
        let A = HasAttribute v ops t in
        let B = HasAttribute v ops u in
        record {
          form_each = map_form fields v ops o good f cf on_left x.upper.reads x.upper.writes x.upper_kind (λ k h j. one_side k j) x.found.upper_sets.form;
          form_group = λ k xs ys zs c d agree.
              let form = subst (λ (q : OpKind). HasForm (function_kind q) fields cg x.lower.reads x.lower.writes on_left (called o g)) x.lower_kind x.found.lower_sets.form in
              let rest = all_within_larger fields B cg.right zs (λ i out b. out (inl b)) c.fit_others in
              form (of_groups k xs zs) (of_groups k ys zs)
              (record { apart = left_sides; called = tt; some = c.some; keyed = (c.keyed, c.keyed_others); left = c.fit; right = rest })
              (record { apart = left_sides; called = tt; some = d.some; keyed = (d.keyed, d.keyed_others); left = d.fit; right = rest })
              (record { left = agree; right = agree_self x.lower.reads zs });
          below_each = λ r h. within_larger fields A cf.left r (λ k out a. out (inr a)) h;
          below_group = λ r h. within_larger fields A cg.left r (λ k out a. out (inl a)) h;
          out_each = λ r h. all_within_larger fields (λ k. Owns v ops f k ⊎ A k) cg.left (o.of_record f r) (λ k out a. out (inr a)) (map_fits fields v ops o good f A x.upper_kind r h);
          out_group = λ k xs zs c.
              all_within_larger fields (λ i. Owns v ops g i ⊎ A i ⊎ B i) cf.left (o.of_groups g k xs zs) (λ i out a. out (inl a))
              (call_fits fields v ops o good g A B (of_groups k xs zs) (left_called A k xs zs c) c.fit c.fit_others);
          wide_group = λ k xs zs c.
              all_wide fields (λ i. Owns v ops g i ⊎ cg.left i ⊎ B i) (o.of_groups g k xs zs)
              (call_fits fields v ops o good g cg.left B (of_groups k xs zs) (left_called cg.left k xs zs c) c.fit c.fit_others);
          no_conflict = x.found.no_conflict;
          keys_read = x.found.lower_sets.left_keys;
          keeps = records_kept fields cf (is_listed (o.left_keys g)) (called o f) (λ k h j. one_side k j) x.keeps;
        }

    pub map_cogroup_left : (bag : Bag) → Allows o (over f (both g t u)) bag → Allows o (both g (over f t) u) bag
    map_cogroup_left bag h =
        let m = map_bag o f (both g t u) bag x.upper_kind h in
        let a = cogroup_bag o g t u m.rows x.lower_kind m.below in
        let ls = a.left_rows in
        let rs = a.right_rows in
        let now = flat_map (o.of_record f) ls in
        let keys = o.left_keys g in
        let others = o.right_keys g in
        let moved = side_moved fields left_move is_left_move ls now rs (lawful_bags fields v ops o good t ls a.left_below) (lawful_bags fields v ops o good u rs a.right_below) (same now)
        (keys_in_either keys others ls rs) (keys_in_either keys others now rs) (keys_of_either keys others ls rs) (keys_of_either keys others now rs) a.out a.given in
        bag_of_cogroup o g (over f t) u now rs moved.0 bag x.lower_kind (bag_of_map o f t ls now x.upper_kind a.left_below (same now)) a.right_below moved.1
        (given_above (o.of_record f) a.out m.rows moved.0 bag moved.2 a.perm m.perm)

    pub map_cogroup_left_up : (bag : Bag) → Allows o (both g (over f t) u) bag → Allows o (over f (both g t u)) bag
    map_cogroup_left_up bag h =
        let a = cogroup_bag o g (over f t) u bag x.lower_kind h in
        let m = map_bag o f t a.left_rows x.upper_kind a.left_below in
        let ls = m.rows in
        let rs = a.right_rows in
        let keys = o.left_keys g in
        let others = o.right_keys g in
        let moved = side_moved_back fields left_move is_left_move ls a.left_rows rs (lawful_bags fields v ops o good t ls m.below) (lawful_bags fields v ops o good u rs a.right_below) m.perm
        (keys_in_either keys others ls rs) (keys_in_either keys others a.left_rows rs) (keys_of_either keys others ls rs) (keys_of_either keys others a.left_rows rs) a.out a.given in
        bag_of_map o f (both g t u) moved.0 bag x.upper_kind (bag_of_cogroup o g t u ls rs moved.0 moved.0 x.lower_kind m.below a.right_below moved.1 (same moved.0)) (chains moved.2 a.perm)

  -- ---- the right side

  module _ (f g : ℕ) (t u : PlanTree) (x : PermitsCoGroupRight fields v ops o f g t u) (apart : AreApart (HasAttribute v ops t) (HasAttribute v ops u)) where
    -- the contexts that the two may be called in, before and after
    abbrev df : Ports
    df = joint v ops o f (over f (both g t u)) (over f u)

    abbrev dg : Ports
    dg = joint v ops o g (both g t u) (both g t (over f u))

    abbrev right_move : Move
    right_move = record {
      keys = o.right_keys g;
      other_keys = o.left_keys g;
      below = HasAttribute v ops u;
      for_each = df.left;
      for_group = dg.right;
      other = IsWithin fields (HasAttribute v ops t);
      upper = x.upper;
      lower = x.lower;
      each = o.of_record f;
      group = turned_groups (o.of_groups g);
    }

    right_sides : AreApart dg.left dg.right
    right_sides =
        let A = HasAttribute v ops t in
        let B = HasAttribute v ops u in
        apart_turned dg.right dg.left (apart_with (Owns v ops f) B A (apart_turned A B apart) (λ k own a. x.side k (x.found.upper_sets.owned k own) a))

    right_called : (set : ℕ → Type 0) (k : Key) (xs zs : Bag) → IsCall fields right_move set k xs zs → IsCallOf (o.kind g) (o.left_keys g) (o.right_keys g) (of_groups k zs xs)
    right_called set k xs zs c = IsCallOf-groups (o.kind g) (o.left_keys g) (o.right_keys g) k zs xs x.lower_kind (omega (arith, c.some)) c.keyed_others c.keyed

    is_right_move : IsMove fields right_move
    is_right_move =
        let A = HasAttribute v ops t in
        let B = HasAttribute v ops u in
        record {
          form_each = map_form fields v ops o good f df on_right x.upper.reads x.upper.writes x.upper_kind (λ k h j. one_side k j) x.found.upper_sets.form;
          form_group = λ k xs ys zs c d agree.
              let form = subst (λ (q : OpKind). HasForm (function_kind q) fields dg x.lower.reads x.lower.writes on_right (called o g)) x.lower_kind x.found.lower_sets.form in
              let rest = all_within_larger fields A dg.left zs (λ i out a. out (inl a)) c.fit_others in
              form (of_groups k zs xs) (of_groups k zs ys)
              (record { apart = right_sides; called = tt; some = omega (arith, c.some); keyed = (c.keyed_others, c.keyed); left = rest; right = c.fit })
              (record { apart = right_sides; called = tt; some = omega (arith, d.some); keyed = (d.keyed_others, d.keyed); left = rest; right = d.fit })
              (record { left = agree_self x.lower.reads zs; right = agree });
          below_each = λ r h. within_larger fields B df.left r (λ k out b. out (inr b)) h;
          below_group = λ r h. within_larger fields B dg.right r (λ k out b. out (inl b)) h;
          out_each = λ r h. all_within_larger fields (λ k. Owns v ops f k ⊎ B k) dg.right (o.of_record f r) (λ k out b. out (inr b)) (map_fits fields v ops o good f B x.upper_kind r h);
          out_group = λ k xs zs c.
              all_within_larger fields (λ i. Owns v ops g i ⊎ A i ⊎ B i) df.left (o.of_groups g k zs xs) (λ i out a. out (inl a))
              (call_fits fields v ops o good g A B (of_groups k zs xs) (right_called B k xs zs c) c.fit_others c.fit);
          wide_group = λ k xs zs c.
              all_wide fields (λ i. Owns v ops g i ⊎ A i ⊎ dg.right i) (o.of_groups g k zs xs)
              (call_fits fields v ops o good g A dg.right (of_groups k zs xs) (right_called dg.right k xs zs c) c.fit_others c.fit);
          no_conflict = x.found.no_conflict;
          keys_read = x.found.lower_sets.right_keys;
          keeps = records_kept fields df (is_listed (o.right_keys g)) (called o f) (λ k h j. one_side k j) x.keeps;
        }

    keys_right : (ls rs : Bag) → AreKeysOf (o.right_keys g) (o.left_keys g) rs ls (keys_in_either (o.left_keys g) (o.right_keys g) ls rs)
    keys_right ls rs = keys_turned (o.left_keys g) (o.right_keys g) ls rs (keys_in_either (o.left_keys g) (o.right_keys g) ls rs) (keys_of_either (o.left_keys g) (o.right_keys g) ls rs)

    pub map_cogroup_right : (bag : Bag) → Allows o (over f (both g t u)) bag → Allows o (both g t (over f u)) bag
    map_cogroup_right bag h =
        let m = map_bag o f (both g t u) bag x.upper_kind h in
        let a = cogroup_bag o g t u m.rows x.lower_kind m.below in
        let ls = a.left_rows in
        let rs = a.right_rows in
        let now = flat_map (o.of_record f) rs in
        let keys = o.left_keys g in
        let others = o.right_keys g in
        let given = AreChosen-turned (o.of_groups g) keys others ls rs (keys_in_either keys others ls rs) a.out a.given in
        let moved = side_moved fields right_move is_right_move rs now ls (lawful_bags fields v ops o good u rs a.right_below) (lawful_bags fields v ops o good t ls a.left_below) (same now)
        (keys_in_either keys others ls rs) (keys_in_either keys others ls now) (keys_right ls rs) (keys_right ls now) a.out given in
        bag_of_cogroup o g t (over f u) ls now moved.0 bag x.lower_kind a.left_below (bag_of_map o f u rs now x.upper_kind a.right_below (same now))
        (AreChosen-turned_back (o.of_groups g) keys others ls now (keys_in_either keys others ls now) moved.0 moved.1)
        (given_above (o.of_record f) a.out m.rows moved.0 bag moved.2 a.perm m.perm)

    pub map_cogroup_right_up : (bag : Bag) → Allows o (both g t (over f u)) bag → Allows o (over f (both g t u)) bag
    map_cogroup_right_up bag h =
        let a = cogroup_bag o g t (over f u) bag x.lower_kind h in
        let m = map_bag o f u a.right_rows x.upper_kind a.right_below in
        let ls = a.left_rows in
        let rs = m.rows in
        let keys = o.left_keys g in
        let others = o.right_keys g in
        let given = AreChosen-turned (o.of_groups g) keys others ls a.right_rows (keys_in_either keys others ls a.right_rows) a.out a.given in
        let moved = side_moved_back fields right_move is_right_move rs a.right_rows ls (lawful_bags fields v ops o good u rs m.below) (lawful_bags fields v ops o good t ls a.left_below) m.perm
        (keys_in_either keys others ls rs) (keys_in_either keys others ls a.right_rows) (keys_right ls rs) (keys_right ls a.right_rows) a.out given in
        bag_of_map o f (both g t u) moved.0 bag x.upper_kind
        (bag_of_cogroup o g t u ls rs moved.0 moved.0 x.lower_kind a.left_below m.below (AreChosen-turned_back (o.of_groups g) keys others ls rs (keys_in_either keys others ls rs) moved.0 moved.1) (same moved.0))
        (chains moved.2 a.perm)
