-- The theorem for one combined Reduce of a program.
use Rattle.std.proofs.Common.{◌≡◌, ◌≢◌, ◌<◌, ◌⊎◌, ℕ, Bool, true, false, inl, inr, List, [], ◌∷◌, Option, Some, None, length, refl, sym, ap, subst, ◌∙◌, arith, length-append}
use Rattle.std.specs.List.{AllByRecursion}
use Rattle.std.proofs.lemmas.Bool.{false_from_ne_true}
use Rattle.pact_record.proofs.Lists.{AllByRecursion-weaker}
use Rattle.pact_record.specs.Keys.{is_listed}
use Rattle.plan_trees.specs.declared.physicals.Ship.{Ship}
use Rattle.plan_trees.specs.Physicals.{PhysicalData, IsPhysical, ship_of}
use Rattle.plan_trees.specs.Plans.{PlanTree, leaf, over, both, has, nodes, root_of, subtree_of}
use Rattle.plan_trees.proofs.EverySubtree.{AllBelow, all_below-at}
use Rattle.plan_trees.proofs.NodesOfTrees.{nodes-has, has-nodes}
use Rattle.plan_trees.proofs.Ships.{below_limit}
use Rattle.tac_syntax.specs.declared.statements.LoopList.TheVariants.{Group}
use Rattle.tac_syntax.specs.declared.declarations.OpKind.{OpKind}
use Rattle.tac_syntax.specs.declared.declarations.OpKind.TheVariants.{Source, Reduce}
use Rattle.tac_syntax.specs.Bounded.{Names}
use Rattle.tac_syntax.specs.Code.{Code, each}
use Rattle.tac_syntax.specs.Valid.{WithFields}
use Rattle.pact_operators.specs.declared.operators.Op.{Op}
use Rattle.pact_operators.specs.Allowed.{Bag, Counted}
use Rattle.pact_operators.specs.Inputs.{AreInputsOf}
use Rattle.pact_operators.specs.PlanOps.{plan_ops, kind_in, left_keys_in}
use Rattle.pact_operators.specs.Programs.{HasAttribute, HasKeyLists, IsPlanOf, IsProgram, ProgramData}
use Rattle.ship_strategy.specs.Facts.{NodeFacts, Facts}
use Rattle.ship_strategy.specs.PlanFacts.{attribute, facts_at, facts_of}
use Rattle.ship_strategy.specs.Ships.{AllowsOver, IsLegal, IsLegalOver, LegalShip, placement, edge_placement, is_broadcast}
use Rattle.ship_strategy.proofs.FactsBelow.{facts_below}
use Rattle.ship_strategy.proofs.PlanAttributes.{left_true}
use Rattle.plan_trees.specs.Distinct.{AreDifferent}
use Rattle.pact_operators.specs.Divided.{IsDivided}
use Rattle.ship_strategy.proofs.DividedRuns.{divided_counted}
use Rattle.flow_instance.proofs.DividedRuns.{divided}
use Rattle.flow_instance.specs.Spots.{setting}
use Rattle.flow_instance.specs.Spread.{Spread}
use Rattle.combine_rule.specs.Pieces.{front_of, loop_of, rest_of}
use Rattle.combine_rule.specs.declared.slots.Slot.{Slot}
use Rattle.combine_rule.specs.Slots.{slots_of}
use Rattle.combine_rule.specs.Halves.{gathering, merger_of}
use Rattle.plan_trees.specs.Inserted.{inserted}
use Rattle.pact_operators.specs.Insertions.{CanInsert, CanReplace, inserted_into}
use Rattle.combine_rule.specs.CombinedPrograms.{Planned, CanCombine, combined_at, sender_op, sender_for, merger_for}
use Rattle.combine_rule.proofs.PiecesOfBodies.{ArePieces}
use Rattle.combine_rule.proofs.CombinedStep.{called, valid, step_divided}
use Rattle.pact_operators.proofs.InsertedPrograms.{slice_get-more, absent, inserted_plan, inserted_program, replaced_plan, replaced_program}
use Rattle.combine_rule.proofs.NamesOfJoined.{names-joined, joined-names}
use Rattle.plan_trees.proofs.DifferentNumbers.{IsIn}
use Rattle.plan_trees.proofs.InsertedTrees.{has_new}
use Rattle.combine_rule.proofs.PiecesOfBodies.{pieces}
use Rattle.combine_rule.proofs.ReadOnce.{inside, input_subtree, not_root, read_by}
use Rattle.tac_syntax.specs.declared.functions.Kind.{Kind}
use Rattle.tac_syntax.specs.WellFormed.{IsWellFormed}
use Rattle.tac_syntax.proofs.WellFormed.{valid_is_well_formed}

-- ---- the fields that a merger names

gathering_names : (F k t : ℕ) (slots : List Slot) → Names F k (gathering t slots) → ⊥
gathering_names F k t [] h = h
gathering_names F k t (x ∷ xs) (inl h) = h
gathering_names F k t (x ∷ xs) (inr (inl h)) = h
gathering_names F k t (x ∷ xs) (inr (inr h)) = gathering_names F k t xs h

merger_names : (F : ℕ) (c : Code) (t : ℕ) (slots : List Slot) → ArePieces F c → (k : ℕ) → Names F k (merger_of c t slots) → Names F k c
merger_names F c t slots p k h = subst (Names F k) (sym p.whole) (joined-names F k (front_of c) (each 1 Group (loop_of c) (rest_of c))
    (elim (names-joined F k (front_of c) (each 1 Group (gathering t slots) (rest_of c)) h) as (λ _. Names F k (front_of c) ⊎ Names F k (each 1 Group (loop_of c) (rest_of c))) [
      | inl l ↦ inl l
      | inr (inl g) ↦ absurd (gathering_names F k t slots g)
      | inr (inr r) ↦ inr (inr r)
    ]))

-- ---- what legal shipping says about the Reduce's edge

no_leaf : (n m : ℕ) (t : PlanTree) → leaf n ≡ over m t → ⊥
no_leaf n m t e = cc

no_both : (n m : ℕ) (t u v : PlanTree) → both n t u ≡ over m v → ⊥
no_both n m t u v e = cc

legal_below : (f : Facts) (q : PhysicalData) (t : PlanTree) → IsLegal f q t → AllBelow (λ s. IsLegal f q s) t
legal_below f q (leaf n) h = tt
legal_below f q (over n t) h = (h, legal_below f q t h.1)
legal_below f q (both n t u) h = (h, legal_below f q t h.1, legal_below f q u h.2)

pub within_keys : (kind : OpKind) (keys fields : List ℕ) (all : Bool) (edge : Option (List ℕ)) → kind ≡ Reduce → edge ≡ Some fields
    → IsLegalOver kind keys all edge → AllByRecursion (λ k. is_listed keys k ≡ true) fields
within_keys kind keys fields all edge e g h =
    let r = subst (λ (k : OpKind). IsLegalOver k keys all edge) e h in
    subst (AllByRecursion (λ k. is_listed keys k ≡ true)) (same_fields (sym r.1 ∙ g)) r.2
  where
    fields_or : Option (List ℕ) → List ℕ
    fields_or None = []
    fields_or (Some x) = x

    same_fields : {x y : List ℕ} → Some x ≡ Some y → x ≡ y
    same_fields z = ap fields_or z

module _ (s : Planned) (at : ℕ) (c : CanCombine s at) (program : IsProgram s.program) (inputs : List Bag) (plan : IsPlanOf s.program.functions s.program.ops s.physical.tree) where
  abbrev P : ProgramData
  P = s.program

  abbrev D : PhysicalData
  D = s.physical

  abbrev new : ℕ
  new = length P.ops

  abbrev below : ℕ
  below = root_of c.input

  abbrev S : WithFields
  S = sender_for s at c

  abbrev M : WithFields
  M = merger_for s at c

  abbrev N : Op
  N = sender_op new c.op

  abbrev set_of : ℕ → Bool
  set_of = attribute P c.input

  pub below_there : has below D.tree ≡ true
  below_there = has-nodes below D.tree (inside below at c.input refl D.tree c.there c.reads)

  pub not_top : root_of D.tree ≢ below
  not_top = not_root below at c.input refl D.tree plan.different c.there c.reads

  input_is : subtree_of below D.tree ≡ c.input
  input_is = input_subtree below at c.input refl D.tree plan.different c.there c.reads

  to_attribute : (k : ℕ) → set_of k ≡ true → HasAttribute P.functions P.ops (subtree_of below D.tree) k
  to_attribute k e = subst (λ (t : PlanTree). HasAttribute P.functions P.ops t k) (sym input_is) ((left_true P (over at c.input) k).0 e)

  well : ArePieces P.fields c.called.function.body
  well = pieces P.fields c.called.function.body (subst (λ (k : Kind). IsWellFormed k P.fields 0 c.called.function.body) c.combinable.kind (valid_is_well_formed c.called.function P.fields (valid s at c program inputs))) c.combinable.one_loop

  -- `insert` may be called for the sender
  pub can_insert : CanInsert P D.tree below N S
  can_insert = record {
    plan = plan;
    there = below_there;
    not_root = not_top;
    kind = inr refl;
    called = c.combinable.kind;
    keys = ((subst (λ (k : OpKind). HasKeyLists k c.called.function.keys c.op.left_keys c.op.right_keys) c.kind (called s at c program inputs).keys).0, refl);
    no_columns = refl;
    fields = refl;
    keys_inside = AllByRecursion-weaker (λ k. set_of k ≡ true) (HasAttribute P.functions P.ops (subtree_of below D.tree)) c.op.left_keys to_attribute c.combinable.keys_inside;
    named_inside = λ k h. to_attribute k (c.combinable.named_inside k h);
    room = c.room;
    function_room = let r = c.function_room in omega (arith, r);
  }

  abbrev U : ProgramData
  U = inserted_into P N S (inserted below new D.tree)

  not_source : c.op.kind ≡ Source → ⊥
  not_source e = let z : Source ≡ Reduce = sym e ∙ c.kind in cc

  -- `replace` may be called for the merger after that
  pub can_replace : CanReplace U at M
  can_replace = record {
    op = c.op;
    found = slice_get-more P.ops (record N { function = length P.functions } ∷ []) at c.op c.found;
    operator = not_source;
    old = c.called;
    function = slice_get-more P.functions (S ∷ []) c.op.function c.called c.function;
    kind = refl;
    keys = refl;
    fields = refl;
    named = λ k h. merger_names P.fields c.called.function.body c.combinable.register (slots_of (loop_of c.called.function.body) P.fields c.op.left_keys set_of) well k h;
    function_room = let r = c.function_room in omega (arith, r, length-append P.functions (S ∷ []));
  }

  inserted_is : IsProgram U
  inserted_is = inserted_program P program D.tree below N S c.combinable.sender_valid can_insert

  -- the combined program is valid, and its plan is one of its plans
  pub combined_plan : IsPlanOf (combined_at s at c).program.functions (combined_at s at c).program.ops (combined_at s at c).physical.tree
  combined_plan = replaced_plan U inserted_is at M c.combinable.merger_valid can_replace (inserted below new D.tree) (inserted_plan P program D.tree below N S c.combinable.sender_valid can_insert)

  pub combined_program : IsProgram (combined_at s at c).program
  combined_program = replaced_program U inserted_is at M c.combinable.merger_valid can_replace

  pub no_new : has new D.tree ≡ false
  no_new = false_from_ne_true (has new D.tree) (λ h. absent P program D.tree below N S c.combinable.sender_valid can_insert (nodes-has new D.tree h))

  -- the fields of the Partition are among the keys
  pub inside_keys : LegalShip (facts_of P D.tree) D → AllByRecursion (λ k. is_listed c.op.left_keys k ≡ true) c.fields
  inside_keys legal =
      let f = facts_of P D.tree in
      let h : IsLegal f D (over at c.input) = subst (IsLegal f D) c.reads (all_below-at (λ t. IsLegal f D t) at D.tree (legal_below f D D.tree legal) c.there) in
      let facts : f at ≡ facts_at P (over at c.input) = subst (λ (t : PlanTree). f (root_of t) ≡ facts_at P t) c.reads (all_below-at (λ t. f (root_of t) ≡ facts_at P t) at D.tree (facts_below P D.tree plan.different) c.there) in
      let allowed : AllowsOver (facts_at P (over at c.input)) (ship_of D c.input) (placement f D c.input) = subst (λ (x : NodeFacts). AllowsOver x (ship_of D c.input) (placement f D c.input)) facts h.0 in
      let kind : (facts_at P (over at c.input)).kind ≡ Reduce = ap kind_in c.found ∙ c.kind in
      let r = within_keys (facts_at P (over at c.input)).kind (facts_at P (over at c.input)).left_keys c.fields (is_broadcast (ship_of D c.input)) (edge_placement (ship_of D c.input) (placement f D c.input)) kind
      (ap (λ (x : Ship). edge_placement x (placement f D c.input)) c.ship) allowed in
      subst (λ (ks : List ℕ). AllByRecursion (λ k. is_listed ks k ≡ true) c.fields) (ap left_keys_in c.found) r

  -- if the output is divided among the instances of the combined plan, it is divided among those of the plan
  pub combined_divided : AllByRecursion (λ k. is_listed c.op.left_keys k ≡ true) c.fields → new < length D.ships → below < length D.ships
      → AreDifferent (nodes (combined_at s at c).physical.tree) → (rows : Bag) (counts : List ℕ)
      → IsDivided (plan_ops (combined_at s at c).program inputs) (combined_at s at c).physical rows counts → IsDivided (plan_ops P inputs) D rows counts
  combined_divided inside_them new_in below_in different rows counts d =
      step_divided s at c program inputs new_in below_in (λ e. absent P program D.tree below N S c.combinable.sender_valid can_insert (subst (λ (k : ℕ). IsIn k (nodes D.tree)) (sym e) (nodes-has below D.tree below_there))) inside_them
      (read_by below at c.input refl D.tree plan.different c.there c.reads) not_top no_new different rows counts d

  -- The theorem: the result of a run of the combined plan is counted for the plan before it was combined.
  pub combined_counted : AreInputsOf P inputs → IsPhysical D → LegalShip (facts_of P D.tree) D → IsPhysical (combined_at s at c).physical → (rows : Bag) (counts : List ℕ)
      → Spread (setting (combined_at s at c).program inputs (combined_at s at c).physical) rows counts → Counted (plan_ops P inputs) D.tree rows counts
  combined_counted of_inputs physical legal end_physical rows counts run =
      let new_in = below_limit new (inserted below new D.tree) end_physical.plan (has_new below new D.tree below_there) in
      let below_in = below_limit below D.tree physical.plan below_there in
      let long = physical.long in
      divided_counted P program inputs of_inputs D physical plan legal rows counts
      (combined_divided (inside_keys legal) (omega (arith, new_in, long)) (omega (arith, below_in, long)) end_physical.plan.different rows counts
      (divided (combined_at s at c).program inputs (combined_at s at c).physical rows counts end_physical combined_plan run))
