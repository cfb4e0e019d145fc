-- A Map over a Map and the two the other way round allow the same bags.
use Rattle.std.proofs.Common.{◌⊎◌, inl, inr, ℕ, List}
use Rattle.std.specs.Prelude.{flat_map}
use Rattle.pact_record.proofs.Permutations.{Perm, chains, flat_map_perm, same, turned}
use Rattle.tac_syntax.specs.Contexts.{Ports}
use Rattle.tac_syntax.specs.Valid.{WithFields}
use Rattle.plan_trees.specs.Plans.{PlanTree, over}
use Rattle.pact_operators.specs.declared.operators.Op.{Op}
use Rattle.pact_operators.specs.Allowed.{Allows, Bag}
use Rattle.pact_operators.specs.PlanOps.{PlanOps}
use Rattle.pact_operators.specs.Programs.{HasAttribute, Owns}
use Rattle.pact_operators.specs.SoundOps.{AreOpsOf}
use Rattle.pact_operators.proofs.LawfulBags.{lawful_bags, map_fits}
use Rattle.pact_operators.proofs.WithinFields.{all_within_larger}
use Rattle.reorder_pair.proofs.CallsInEitherOrder.{AreExchangeable}
use Rattle.reorder_pair.proofs.CrossedBags.{map_map_bags}
use Rattle.reorder_pair.proofs.FunctionForms.{left_form, none, on_left_alone, on_right_alone, right_form}
use Rattle.reorder_pair.proofs.Maps.{bag_of_map, map_bag, map_form_in}
use Rattle.reorder_pair.proofs.PermittedExchanges.{PermitsMaps, joint}

module _ (fields : ℕ) (v : List WithFields) (ops : List Op) (o : PlanOps) (good : AreOpsOf fields v ops o) where
  module _ (f g : ℕ) (t : PlanTree) (x : PermitsMaps fields v ops o f g t) where
    -- the contexts that the two may be called in, before and after
    abbrev cf : Ports
    cf = joint v ops o f (over f (over g t)) (over f t)

    abbrev cg : Ports
    cg = joint v ops o g (over g t) (over g (over f t))

    maps_exchangeable : AreExchangeable fields none (HasAttribute v ops t) none none cg.left cf.left none x.lower x.upper (on_right_alone (o.of_record g)) (on_left_alone (o.of_record f))
    maps_exchangeable =
        let A = HasAttribute v ops t in
        record {
          form_g = right_form fields cg.left x.lower.reads x.lower.writes (o.of_record g) (map_form_in fields v ops o good g t (over f t) x.lower x.lower_kind x.found.lower_sets);
          form_h = left_form fields cf.left x.upper.reads x.upper.writes (o.of_record f) (map_form_in fields v ops o good f (over g t) t x.upper x.upper_kind x.found.upper_sets);
          no_conflict = x.found.no_conflict;
          side = λ i used a. a;
          other_side = λ i used a. a;
          left = λ k out a. a;
          middle_g = λ k out a. out (inl a);
          middle_h = λ k out a. out (inr a);
          right = λ k out a. a;
          out_g = λ l m fl fm. all_within_larger fields (λ k. Owns v ops g k ⊎ A k) cf.left (o.of_record g m) (λ k out a. out (inl a)) (map_fits fields v ops o good g A x.lower_kind m fm);
          out_h = λ m r fm fr. all_within_larger fields (λ k. Owns v ops f k ⊎ A k) cg.left (o.of_record f m) (λ k out a. out (inr a)) (map_fits fields v ops o good f A x.upper_kind m fm);
        }

    maps_bags : (ls : Bag) → Allows o t ls → Perm (flat_map (o.of_record f) (flat_map (o.of_record g) ls)) (flat_map (o.of_record g) (flat_map (o.of_record f) ls))
    maps_bags ls h = map_map_bags fields (HasAttribute v ops t) cg.left cf.left x.lower x.upper (o.of_record g) (o.of_record f) maps_exchangeable ls (lawful_bags fields v ops o good t ls h)

    pub map_map : (bag : Bag) → Allows o (over f (over g t)) bag → Allows o (over g (over f t)) bag
    map_map bag h =
        let m = map_bag o f (over g t) bag x.upper_kind h in
        let n = map_bag o g t m.rows x.lower_kind m.below in
        let now = flat_map (o.of_record f) n.rows in
        bag_of_map o g (over f t) now bag x.lower_kind (bag_of_map o f t n.rows now x.upper_kind n.below (same now))
        (chains (turned (maps_bags n.rows n.below)) (chains (flat_map_perm (o.of_record f) n.perm) m.perm))

    pub map_map_back : (bag : Bag) → Allows o (over g (over f t)) bag → Allows o (over f (over g t)) bag
    map_map_back bag h =
        let m = map_bag o g (over f t) bag x.lower_kind h in
        let n = map_bag o f t m.rows x.upper_kind m.below in
        let now = flat_map (o.of_record g) n.rows in
        bag_of_map o f (over g t) now bag x.upper_kind (bag_of_map o g t n.rows now x.lower_kind n.below (same now))
        (chains (maps_bags n.rows n.below) (chains (flat_map_perm (o.of_record g) n.perm) m.perm))
