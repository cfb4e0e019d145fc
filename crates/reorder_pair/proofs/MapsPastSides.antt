-- A Map over a pair operator and the same Map under a side of it allow the same bags.
use Rattle.std.proofs.Common.{◌⊎◌, inl, inr, ℕ, List}
use Rattle.std.specs.Prelude.{flat_map}
use Rattle.pact_record.proofs.Permutations.{Perm, chains, flat_map_perm, same, turned}
use Rattle.tac_syntax.specs.Contexts.{Ports}
use Rattle.tac_syntax.specs.Forms.{AreApart}
use Rattle.tac_syntax.specs.Valid.{WithFields}
use Rattle.plan_trees.specs.Plans.{PlanTree, over, both}
use Rattle.pact_operators.specs.declared.operators.Op.{Op}
use Rattle.pact_operators.specs.Allowed.{Allows, Bag}
use Rattle.pact_bag.specs.Pairs.{crossed}
use Rattle.pact_operators.specs.PlanOps.{PlanOps}
use Rattle.pact_operators.specs.Programs.{HasAttribute, Owns}
use Rattle.pact_operators.specs.SoundOps.{AreOpsOf}
use Rattle.pact_operators.proofs.LawfulBags.{lawful_bags, map_fits}
use Rattle.pact_operators.proofs.WithinFields.{all_within_larger}
use Rattle.pact_operators.proofs.PermutedPairs.{pairs_perm}
use Rattle.reorder_pair.proofs.CallsInEitherOrder.{AreExchangeable}
use Rattle.reorder_pair.proofs.CrossedBags.{map_left_bags, map_right_bags}
use Rattle.reorder_pair.proofs.FunctionForms.{Row, flip_form, left_form, none, on_left_alone, turned_pair}
use Rattle.reorder_pair.proofs.Maps.{bag_of_map, map_bag, map_form_in}
use Rattle.reorder_pair.proofs.Pairs.{bag_of_pair, pair_bag, pair_fits, pair_form, pair_of}
use Rattle.reorder_pair.proofs.PermittedExchanges.{PermitsLeft, PermitsRight, joint, used_touched}
use Rattle.reorder_pair.proofs.SidesApart.{apart_turned, apart_with}

module _ (fields : ℕ) (v : List WithFields) (ops : List Op) (o : PlanOps) (good : AreOpsOf fields v ops o) where
  -- ---- the left side

  module _ (f g : ℕ) (t u : PlanTree) (x : PermitsLeft fields v ops o f g t u) (apart : AreApart (HasAttribute v ops t) (HasAttribute v ops u)) where
    -- the contexts that the two may be called in, before and after
    abbrev cf : Ports
    cf = joint v ops o f (over f (both g t u)) (over f t)

    abbrev cg : Ports
    cg = joint v ops o g (both g t u) (both g (over f t) u)

    -- what g emits for a pair
    abbrev gs : Row → Row → Bag
    gs = pair_of o (o.kind g) g

    left_sides : AreApart cg.left cg.right
    left_sides = apart_with (Owns v ops f) (HasAttribute v ops t) (HasAttribute v ops u) apart (λ k own b. x.side k (x.found.upper_sets.owned k own) b)

    left_exchangeable : AreExchangeable fields (HasAttribute v ops u) (HasAttribute v ops t) none cg.right cg.left cf.left none x.lower x.upper (turned_pair gs) (on_left_alone (o.of_record f))
    left_exchangeable =
        let A = HasAttribute v ops t in
        let B = HasAttribute v ops u in
        record {
          form_g = flip_form fields cg.left cg.right x.lower.reads x.lower.writes gs left_sides (pair_form fields v ops o good g cg x.lower x.lower_kind left_sides x.found.lower_sets);
          form_h = left_form fields cf.left x.upper.reads x.upper.writes (o.of_record f) (map_form_in fields v ops o good f (both g t u) t x.upper x.upper_kind x.found.upper_sets);
          no_conflict = x.found.no_conflict;
          side = λ i used b. x.side i (used_touched x.found.upper_sets i used) b;
          other_side = λ i used a. a;
          left = λ k out b. out (inl b);
          middle_g = λ k out a. out (inl a);
          middle_h = λ k out a. out (inr a);
          right = λ k out a. a;
          out_g = λ r l fr fl. all_within_larger fields (λ k. Owns v ops g k ⊎ A k ⊎ B k) cf.left (gs l r) (λ k out a. out (inl a)) (pair_fits fields v ops o good g A B x.lower_kind l r fl fr);
          out_h = λ l r fl fr. all_within_larger fields (λ k. Owns v ops f k ⊎ A k) cg.left (o.of_record f l) (λ k out a. out (inr a)) (map_fits fields v ops o good f A x.upper_kind l fl);
        }

    left_bags : (ls rs : Bag) → Allows o t ls → Allows o u rs → Perm (flat_map (o.of_record f) (crossed gs ls rs)) (crossed gs (flat_map (o.of_record f) ls) rs)
    left_bags ls rs h k =
        map_left_bags fields (HasAttribute v ops u) (HasAttribute v ops t) cg.right cg.left cf.left x.lower x.upper gs (o.of_record f) left_exchangeable ls rs
        (lawful_bags fields v ops o good t ls h) (lawful_bags fields v ops o good u rs k)

    pub map_left : (bag : Bag) → Allows o (over f (both g t u)) bag → Allows o (both g (over f t) u) bag
    map_left bag h =
        let m = map_bag o f (both g t u) bag x.upper_kind h in
        let n = pair_bag o g t u m.rows x.lower_kind m.below in
        let now = flat_map (o.of_record f) n.left_rows in
        bag_of_pair o g (over f t) u now n.right_rows bag x.lower_kind (bag_of_map o f t n.left_rows now x.upper_kind n.left_below (same now)) n.right_below
        (chains (turned (left_bags n.left_rows n.right_rows n.left_below n.right_below)) (chains (flat_map_perm (o.of_record f) n.perm) m.perm))

    pub map_left_up : (bag : Bag) → Allows o (both g (over f t) u) bag → Allows o (over f (both g t u)) bag
    map_left_up bag h =
        let n = pair_bag o g (over f t) u bag x.lower_kind h in
        let m = map_bag o f t n.left_rows x.upper_kind n.left_below in
        let now = crossed gs m.rows n.right_rows in
        bag_of_map o f (both g t u) now bag x.upper_kind (bag_of_pair o g t u m.rows n.right_rows now x.lower_kind m.below n.right_below (same now))
        (chains (left_bags m.rows n.right_rows m.below n.right_below) (chains (pairs_perm gs m.perm (same n.right_rows)) n.perm))

  -- ---- the right side

  module _ (f g : ℕ) (t u : PlanTree) (x : PermitsRight fields v ops o f g t u) (apart : AreApart (HasAttribute v ops t) (HasAttribute v ops u)) where
    -- the contexts that the two may be called in, before and after
    abbrev df : Ports
    df = joint v ops o f (over f (both g t u)) (over f u)

    abbrev dg : Ports
    dg = joint v ops o g (both g t u) (both g t (over f u))

    -- what g emits for a pair
    abbrev hs : Row → Row → Bag
    hs = pair_of o (o.kind g) g

    right_sides : AreApart dg.left dg.right
    right_sides =
        let A = HasAttribute v ops t in
        let B = HasAttribute v ops u in
        apart_turned dg.right dg.left (apart_with (Owns v ops f) B A (apart_turned A B apart) (λ k own a. x.side k (x.found.upper_sets.owned k own) a))

    right_exchangeable : AreExchangeable fields (HasAttribute v ops t) (HasAttribute v ops u) none dg.left dg.right df.left none x.lower x.upper hs (on_left_alone (o.of_record f))
    right_exchangeable =
        let A = HasAttribute v ops t in
        let B = HasAttribute v ops u in
        record {
          form_g = pair_form fields v ops o good g dg x.lower x.lower_kind right_sides x.found.lower_sets;
          form_h = left_form fields df.left x.upper.reads x.upper.writes (o.of_record f) (map_form_in fields v ops o good f (both g t u) u x.upper x.upper_kind x.found.upper_sets);
          no_conflict = x.found.no_conflict;
          side = λ i used a. x.side i (used_touched x.found.upper_sets i used) a;
          other_side = λ i used a. a;
          left = λ k out b. out (inl b);
          middle_g = λ k out a. out (inl a);
          middle_h = λ k out a. out (inr a);
          right = λ k out a. a;
          out_g = λ l r fl fr. all_within_larger fields (λ k. Owns v ops g k ⊎ A k ⊎ B k) df.left (hs l r) (λ k out a. out (inl a)) (pair_fits fields v ops o good g A B x.lower_kind l r fl fr);
          out_h = λ l r fl fr. all_within_larger fields (λ k. Owns v ops f k ⊎ B k) dg.right (o.of_record f l) (λ k out a. out (inr a)) (map_fits fields v ops o good f B x.upper_kind l fl);
        }

    right_bags : (ls rs : Bag) → Allows o t ls → Allows o u rs → Perm (flat_map (o.of_record f) (crossed hs ls rs)) (crossed hs ls (flat_map (o.of_record f) rs))
    right_bags ls rs h k =
        map_right_bags fields (HasAttribute v ops t) (HasAttribute v ops u) dg.left dg.right df.left x.lower x.upper hs (o.of_record f) right_exchangeable ls rs
        (lawful_bags fields v ops o good t ls h) (lawful_bags fields v ops o good u rs k)

    pub map_right : (bag : Bag) → Allows o (over f (both g t u)) bag → Allows o (both g t (over f u)) bag
    map_right bag h =
        let m = map_bag o f (both g t u) bag x.upper_kind h in
        let n = pair_bag o g t u m.rows x.lower_kind m.below in
        let now = flat_map (o.of_record f) n.right_rows in
        bag_of_pair o g t (over f u) n.left_rows now bag x.lower_kind n.left_below (bag_of_map o f u n.right_rows now x.upper_kind n.right_below (same now))
        (chains (turned (right_bags n.left_rows n.right_rows n.left_below n.right_below)) (chains (flat_map_perm (o.of_record f) n.perm) m.perm))

    pub map_right_up : (bag : Bag) → Allows o (both g t (over f u)) bag → Allows o (over f (both g t u)) bag
    map_right_up bag h =
        let n = pair_bag o g t (over f u) bag x.lower_kind h in
        let m = map_bag o f u n.right_rows x.upper_kind n.right_below in
        let now = crossed hs n.left_rows m.rows in
        bag_of_map o f (both g t u) now bag x.upper_kind (bag_of_pair o g t u n.left_rows m.rows now x.lower_kind n.left_below m.below (same now))
        (chains (right_bags n.left_rows m.rows n.left_below m.below) (chains (pairs_perm hs (same n.left_rows) m.perm) n.perm))
