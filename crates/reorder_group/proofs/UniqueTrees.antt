-- If a tree is unique by key fields, no bag that it allows has two records with the same values of them.
use Rattle.std.proofs.Common.{◌≡◌, ◌≤◌, ◌<◌, ◌⊎◌, inl, inr, ℕ, true, false, List, [], ◌∷◌, length, slice_get, refl, sym, subst, arith}
use Rattle.std.specs.List.{AllByRecursion, AllZip}
use Rattle.pact_record.specs.FieldSets.{has_field}
use Rattle.pact_record.specs.Record.{key_of}
use Rattle.pact_record.proofs.Lists.{AllByRecursion-filter}
use Rattle.pact_record.proofs.Permutations.{each_perm, length-perm}
use Rattle.pact_bag.specs.Groups.{is_same_key}
use Rattle.pact_bag.proofs.KeyGroups.{group_keys, occurs}
use Rattle.pact_bag.proofs.KeyLists.{Key}
use Rattle.pact_bag.proofs.KeysOfBags.{keys_alone}
use Rattle.tac_syntax.specs.declared.contexts.Side.TheVariants.{Left as on_left}
use Rattle.tac_syntax.specs.declared.functions.Kind.TheVariants as kinds
use Rattle.tac_syntax.specs.Call.{of_group, of_record}
use Rattle.tac_syntax.specs.Contexts.{FieldSet, Ports}
use Rattle.tac_syntax.specs.Forms.{AreAnchored, HasForm, IsLawful, IsWithin}
use Rattle.tac_syntax.specs.Valid.{WithFields}
use Rattle.tac_flow.specs.Results.{IsAnchoredOn}
use Rattle.tac_flow.specs.Views.{found_of}
use Rattle.tac_syntax.specs.declared.declarations.OpKind.{OpKind}
use Rattle.tac_syntax.specs.declared.declarations.OpKind.TheVariants.{Source, Map, Reduce}
use Rattle.plan_trees.specs.Plans.{PlanTree, leaf, over, both}
use Rattle.plan_trees.proofs.SubtreesOfPlans.{subtree_of-root}
use Rattle.pact_operators.specs.Allowed.{Allows, Bag, keys_in}
use Rattle.pact_operators.specs.PlanOps.{PlanOps, kind_at, left_keys_in, plan_ops}
use Rattle.pact_operators.specs.Programs.{HasAttribute, IsProgram, ProgramData}
use Rattle.pact_operators.specs.SoundOps.{AreOpsOf, called, function_kind}
use Rattle.pact_operators.proofs.ChosenForKeys.{IsGivenFor, of_one_side}
use Rattle.pact_operators.proofs.LawfulBags.{lawful_bags}
use Rattle.pact_operators.proofs.SoundPrograms.{are_ops}
use Rattle.pact_operators.proofs.WithinFields.{agree_self, all_within_larger, within_larger}
use Rattle.reorder_pair.specs.declared.finding.Found.{Found}
use Rattle.reorder_pair.specs.declared.rules.Role.TheVariants.{Grouping, Mapping}
use Rattle.reorder_pair.specs.Unique.{AreAmong, AreNoneOf, GivesEachOnce, IsUniqueTree}
use Rattle.reorder_pair.proofs.FoundOperators.{IsFoundIn, found_in, sets_found, used_in}
use Rattle.reorder_pair.proofs.FunctionForms.{Row}
use Rattle.reorder_pair.proofs.Maps.{map_bag, map_form_in}
use Rattle.reorder_pair.proofs.PermittedExchanges.{AreSetsOf, joint}
use Rattle.reorder_pair.proofs.PlacesOfRules.{plays-operator}
use Rattle.reorder_group.proofs.GroupBags.{reduce_bag}
use Rattle.reorder_group.specs.UniqueRows.{AllowsEachOnce, HaveEachOnce}
use Rattle.reorder_group.proofs.EmittedByOperators.{few_emitted}
use Rattle.reorder_group.proofs.KeptKeys.{fewer_keys, kept_keys, outputs_keyed, unwritten_keys}
use Rattle.reorder_group.proofs.UniqueGroups.{IsOneOf, chosen_once}
use Rattle.reorder_group.proofs.UniqueRows.{HaveEachOnce-flat_map, HaveEachOnce-more, HaveEachOnce-perm}

-- each output of a Map has the record's key values
map_keyed : (keys : List ℕ) (W : FieldSet) (r : Row) → AllByRecursion (λ k. W k ≡ false) keys → (os qs : Bag) → AllZip (AreAnchored W r r) os qs → AllByRecursion (λ o. key_of keys o ≡ key_of keys r) os
map_keyed keys W r off [] qs h = tt
map_keyed keys W r off (o ∷ os) [] h = absurd h
map_keyed keys W r off (o ∷ os) (q ∷ qs) h = (kept_keys keys W r r o q off h.0, map_keyed keys W r off os qs h.1)

module _ (p : ProgramData) (program : IsProgram p) (inputs : List Bag) (good : AreOpsOf p.fields p.functions p.ops (plan_ops p inputs)) where
  abbrev F : ℕ
  F = p.fields

  abbrev v : List WithFields
  v = p.functions

  abbrev O : PlanOps
  O = plan_ops p inputs

  module _ (n : ℕ) (t : PlanTree) (keys : List ℕ) (s : Found) (h : IsFoundIn p n (over n t) (over n t) s) where
    abbrev own : List ℕ
    own = left_keys_in (slice_get p.ops n)

    abbrev c : Ports
    c = joint v p.ops O n (over n t) (over n t)

    abbrev W : FieldSet
    W = has_field s.sets.writes

    abbrev A : ℕ → Type 0
    A = HasAttribute v p.ops t

    -- a Map and a Reduce have an anchor
    anchored_by : (q : OpKind) (s : Found) → kind_at p.ops n ≡ q → IsAnchoredOn (function_kind q) on_left (found_of s.sets) → IsAnchoredOn (function_kind (kind_at p.ops n)) on_left (found_of s.sets)
    anchored_by q s e on = subst (λ (k : OpKind). IsAnchoredOn (function_kind k) on_left (found_of s.sets)) (sym e) on

    -- ---- a Reduce

    module _ (kind : kind_at p.ops n ≡ Reduce) where
      operator_here : kind_at p.ops n ≡ Source → ⊥
      operator_here = plays-operator Grouping (kind_at p.ops n) kind

      sets_here : AreSetsOf F v p.ops O n c on_left (used_in s)
      sets_here = sets_found p program n (over n t) (over n t) s h inputs on_left operator_here (anchored_by Reduce s kind tt)

      form_here : HasForm kinds.Reduce F c (has_field s.sets.reads) W on_left (called O n)
      form_here = subst (λ (q : OpKind). HasForm (function_kind q) F c (has_field s.sets.reads) W on_left (called O n)) kind sets_here.form

      none_apart : (k : ℕ) → c.left k → ⊥ ⊎ ⊥ → ⊥
      none_apart k l r = elim r as (λ _. ⊥) [ inl a ↦ a | inr b ↦ b ]

      one_for_key : s.hi ≤ 1 → AreNoneOf own W → (rows : Bag) → AllByRecursion (IsWithin F A) rows → (k : Key) → occurs k (keys_in own rows) ≡ true → (out : Bag)
          → IsGivenFor (of_one_side (O.of_group n)) own [] rows [] k out → IsOneOf own k out
      one_for_key few none rows fit k o out g =
          let xs = g.0 in
          let some : 0 < length xs = omega (arith, ((keys_alone own rows).occur k).0 o, length-perm g.2) in
          let keyed = each_perm (λ r. key_of own r ≡ k) g.2 (group_keys own rows k) in
          let within = each_perm (IsWithin F A) g.2 (AllByRecursion-filter (IsWithin F A) (λ r. is_same_key (key_of own r) k) rows fit) in
          let lawful : IsLawful kinds.Reduce F c (of_group k xs) = record {
            apart = none_apart;
            called = tt;
            some = some;
            keyed = keyed;
            left = all_within_larger F A c.left xs (λ i out_of a. out_of (inl a)) within;
            right = tt;
          } in
          let on = form_here (of_group k xs) (of_group k xs) lawful lawful (record { left = agree_self (has_field s.sets.reads) xs; right = tt }) in
          let gives = O.of_group n k xs in
          record {
            few = subst (λ (l : Bag). length l ≤ 1) (sym g.4) (few_emitted p program n (over n t) (over n t) s h operator_here few (of_group k xs));
            keyed = subst (AllByRecursion (λ r. key_of own r ≡ k)) (sym g.4) (outputs_keyed own W k xs xs keyed (unwritten_keys own W none) on.0 gives gives on.1);
          }

      reduce_once : s.hi ≤ 1 → AreAmong own keys → AreNoneOf own W → (bag : Bag) → Allows O (over n t) bag → HaveEachOnce keys bag
      reduce_once few among none bag allowed =
          let a = reduce_bag O n t bag kind allowed in
          let fit = lawful_bags F v p.ops O good t a.rows a.below in
          let ks = keys_in own a.rows in
          let once = chosen_once own (IsGivenFor (of_one_side (O.of_group n)) own [] a.rows []) ks (one_for_key few none a.rows fit) ks (λ k is. is) (keys_alone own a.rows).once a.out a.given in
          HaveEachOnce-perm keys a.perm (HaveEachOnce-more own keys (fewer_keys own keys among) a.out once)

    -- ---- a Map

    module _ (kind : kind_at p.ops n ≡ Map) where
      map_operator : kind_at p.ops n ≡ Source → ⊥
      map_operator = plays-operator Mapping (kind_at p.ops n) kind

      map_sets : AreSetsOf F v p.ops O n c on_left (used_in s)
      map_sets = sets_found p program n (over n t) (over n t) s h inputs on_left map_operator (anchored_by Map s kind tt)

      map_once : s.hi ≤ 1 → AreNoneOf keys W → ((rows : Bag) → Allows O t rows → HaveEachOnce keys rows) → (bag : Bag) → Allows O (over n t) bag → HaveEachOnce keys bag
      map_once few none below bag allowed =
          let m = map_bag O n t bag kind allowed in
          let fit = lawful_bags F v p.ops O good t m.rows m.below in
          let form = map_form_in F v p.ops O good n t t (used_in s) kind map_sets in
          let keyed = λ (r : Row) (fr : IsWithin F A r).
          let fits = within_larger F A c.left r (λ k out a. out (inl a)) fr in
          map_keyed keys W r (unwritten_keys keys W none) (O.of_record n r) (O.of_record n r) (form.outputs r r fits fits (λ i is. refl)) in
          HaveEachOnce-perm keys m.perm
          (HaveEachOnce-flat_map (IsWithin F A) keys (O.of_record n) (λ r fr. few_emitted p program n (over n t) (over n t) s h map_operator few (of_record r)) keyed m.rows fit (below m.rows m.below))

  once_by : (keys : List ℕ) (n : ℕ) (t : PlanTree) (s : Found) → IsFoundIn p n (over n t) (over n t) s → (below : Type 0) → (q : OpKind) → kind_at p.ops n ≡ q
      → GivesEachOnce q (left_keys_in (slice_get p.ops n)) keys s below → (below → (rows : Bag) → Allows O t rows → HaveEachOnce keys rows) → (bag : Bag) → Allows O (over n t) bag → HaveEachOnce keys bag
  once_by keys n t s h below Source e g rest bag a = absurd g
  once_by keys n t s h below Map e g rest bag a = map_once n t keys s h e g.0 g.1 (rest g.2) bag a
  once_by keys n t s h below Reduce e g rest bag a = reduce_once n t keys s h e g.0 g.1 g.2 bag a
  once_by keys n t s h below q e g rest bag a = absurd g

  pub unique_rows : (keys : List ℕ) (t : PlanTree) → IsUniqueTree p keys t → (bag : Bag) → Allows O t bag → HaveEachOnce keys bag
  unique_rows keys (leaf n) u bag a = absurd u
  unique_rows keys (both n t w) u bag a = absurd u
  unique_rows keys (over n t) u bag a =
      let same = subtree_of-root (over n t) in
      once_by keys n t u.0 (found_in p n (over n t) (over n t) (over n t) (over n t) u.0 same same u.1) (IsUniqueTree p keys t) (kind_at p.ops n) refl u.2 (λ below rows b. unique_rows keys t below rows b) bag a

pub unique-AllowsEachOnce : (p : ProgramData) → IsProgram p → (keys : List ℕ) (t : PlanTree) → IsUniqueTree p keys t → AllowsEachOnce p t keys
unique-AllowsEachOnce p program keys t u inputs of_inputs bag a = unique_rows p program inputs (are_ops p inputs program of_inputs) keys t u bag a
