-- A pair operator over another one, and the two with their three inputs grouped the other way, allow the same bags.
use Rattle.std.proofs.Common.{◌⊎◌, inl, inr, ℕ, List}
use Rattle.pact_record.proofs.Permutations.{Perm, chains, same, turned}
use Rattle.tac_syntax.specs.Contexts.{Ports}
use Rattle.tac_syntax.specs.Forms.{AreApart}
use Rattle.tac_syntax.specs.Valid.{WithFields}
use Rattle.plan_trees.specs.Plans.{PlanTree, both}
use Rattle.pact_operators.specs.declared.operators.Op.{Op}
use Rattle.pact_operators.specs.Allowed.{Allows, Bag}
use Rattle.pact_bag.specs.Pairs.{crossed}
use Rattle.pact_operators.specs.PlanOps.{PlanOps}
use Rattle.pact_operators.specs.Programs.{HasAttribute, Owns}
use Rattle.pact_operators.specs.SoundOps.{AreOpsOf}
use Rattle.pact_operators.proofs.LawfulBags.{lawful_bags}
use Rattle.pact_operators.proofs.WithinFields.{all_within_larger}
use Rattle.pact_operators.proofs.PermutedPairs.{pairs_perm}
use Rattle.reorder_pair.proofs.CallsInEitherOrder.{AreExchangeable}
use Rattle.reorder_pair.proofs.CrossedBags.{rotated_bags}
use Rattle.reorder_pair.proofs.FunctionForms.{Row}
use Rattle.reorder_pair.proofs.Pairs.{bag_of_pair, pair_bag, pair_fits, pair_form, pair_of}
use Rattle.reorder_pair.proofs.PermittedExchanges.{PermitsRotate, joint, used_touched}
use Rattle.reorder_pair.proofs.SidesApart.{apart_before_after, apart_either, apart_turned}

module _ (fields : ℕ) (v : List WithFields) (ops : List Op) (o : PlanOps) (good : AreOpsOf fields v ops o) where
  module _ (h g : ℕ) (t u w : PlanTree) (x : PermitsRotate fields v ops o h g t u w) (apart : AreApart (HasAttribute v ops t) (HasAttribute v ops u))
      (outer_apart : AreApart (HasAttribute v ops t) (HasAttribute v ops w)) (inner_apart : AreApart (HasAttribute v ops u) (HasAttribute v ops w)) where
    -- the contexts that the two may be called in, before and after
    abbrev ch : Ports
    ch = joint v ops o h (both h (both g t u) w) (both h u w)

    abbrev cg : Ports
    cg = joint v ops o g (both g t u) (both g t (both h u w))

    -- what they emit for a pair
    abbrev hs : Row → Row → Bag
    hs = pair_of o (o.kind h) h

    abbrev gs : Row → Row → Bag
    gs = pair_of o (o.kind g) g

    g_sides : AreApart cg.left cg.right
    g_sides =
        let A = HasAttribute v ops t in
        let B = HasAttribute v ops u in
        let C = HasAttribute v ops w in
        let own = Owns v ops h in
        let first = apart_turned A B apart in
        let owned = λ (k : ℕ) (o : own k) (a : A k). x.side k (x.found.upper_sets.owned k o) a in
        apart_turned cg.right cg.left
        (apart_before_after B (λ k. own k ⊎ B k ⊎ C k) A first (apart_either own (λ k. B k ⊎ C k) A owned (apart_either B C A first (apart_turned A C outer_apart))))

    h_sides : AreApart ch.left ch.right
    h_sides =
        let A = HasAttribute v ops t in
        let B = HasAttribute v ops u in
        let C = HasAttribute v ops w in
        let own = Owns v ops g in
        let owned = λ (k : ℕ) (o : own k) (c : C k). x.other_side k (x.found.lower_sets.owned k o) c in
        apart_before_after (λ k. own k ⊎ A k ⊎ B k) B C (apart_either own (λ k. A k ⊎ B k) C owned (apart_either A B C outer_apart inner_apart)) inner_apart

    rotate_exchangeable : AreExchangeable fields (HasAttribute v ops t) (HasAttribute v ops u) (HasAttribute v ops w) cg.left cg.right ch.left ch.right x.lower x.upper gs hs
    rotate_exchangeable =
        let A = HasAttribute v ops t in
        let B = HasAttribute v ops u in
        let C = HasAttribute v ops w in
        record {
          form_g = pair_form fields v ops o good g cg x.lower x.lower_kind g_sides x.found.lower_sets;
          form_h = pair_form fields v ops o good h ch x.upper x.upper_kind h_sides x.found.upper_sets;
          no_conflict = x.found.no_conflict;
          side = λ i used a. x.side i (used_touched x.found.upper_sets i used) a;
          other_side = λ i used c. x.other_side i (used_touched x.found.lower_sets i used) c;
          left = λ k out a. out (inl a);
          middle_g = λ k out b. out (inl b);
          middle_h = λ k out b. out (inr b);
          right = λ k out c. out (inl c);
          out_g = λ l m fl fm. all_within_larger fields (λ k. Owns v ops g k ⊎ A k ⊎ B k) ch.left (gs l m) (λ k out a. out (inl a)) (pair_fits fields v ops o good g A B x.lower_kind l m fl fm);
          out_h = λ m r fm fr. all_within_larger fields (λ k. Owns v ops h k ⊎ B k ⊎ C k) cg.right (hs m r) (λ k out a. out (inr a)) (pair_fits fields v ops o good h B C x.upper_kind m r fm fr);
        }

    rotate_bags : (ls ms rs : Bag) → Allows o t ls → Allows o u ms → Allows o w rs → Perm (crossed hs (crossed gs ls ms) rs) (crossed gs ls (crossed hs ms rs))
    rotate_bags ls ms rs p q r =
        rotated_bags fields (HasAttribute v ops t) (HasAttribute v ops u) (HasAttribute v ops w) cg.left cg.right ch.left ch.right x.lower x.upper gs hs rotate_exchangeable
        ms rs (lawful_bags fields v ops o good u ms q) (lawful_bags fields v ops o good w rs r) ls (lawful_bags fields v ops o good t ls p)

    pub rotate : (bag : Bag) → Allows o (both h (both g t u) w) bag → Allows o (both g t (both h u w)) bag
    rotate bag k =
        let m = pair_bag o h (both g t u) w bag x.upper_kind k in
        let n = pair_bag o g t u m.left_rows x.lower_kind m.left_below in
        let now = crossed hs n.right_rows m.right_rows in
        bag_of_pair o g t (both h u w) n.left_rows now bag x.lower_kind n.left_below (bag_of_pair o h u w n.right_rows m.right_rows now x.upper_kind n.right_below m.right_below (same now))
        (chains (turned (rotate_bags n.left_rows n.right_rows m.right_rows n.left_below n.right_below m.right_below)) (chains (pairs_perm hs n.perm (same m.right_rows)) m.perm))

    pub rotate_up : (bag : Bag) → Allows o (both g t (both h u w)) bag → Allows o (both h (both g t u) w) bag
    rotate_up bag k =
        let m = pair_bag o g t (both h u w) bag x.lower_kind k in
        let n = pair_bag o h u w m.right_rows x.upper_kind m.right_below in
        let now = crossed gs m.left_rows n.left_rows in
        bag_of_pair o h (both g t u) w now n.right_rows bag x.upper_kind (bag_of_pair o g t u m.left_rows n.left_rows now x.lower_kind m.left_below n.left_below (same now)) n.right_below
        (chains (rotate_bags m.left_rows n.left_rows n.right_rows m.left_below n.left_below n.right_below) (chains (pairs_perm gs (same m.left_rows) n.perm) m.perm))
