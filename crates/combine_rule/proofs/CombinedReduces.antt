-- A Reduce that may be combined, as it is found, and the operator and functions that are made for it.
use Rattle.std.proofs.Common.{◌≡◌, ◌<◌, ◌↔◌, IsTrue, ℕ, Bool, true, if◌then◌else◌, List, [], Option, Some, None, get_or, length, slice_get, refl, sym, ap, subst, ◌∙◌}
use Rattle.std.specs.Cmp.{both_ways}
use Rattle.std.proofs.lemmas.Option.{same_Some, slice_get_within}
use Rattle.tac_syntax.specs.declared.declarations.OpKind.TheVariants.{Source, Reduce}
use Rattle.tac_syntax.specs.Valid.{WithFields}
use Rattle.plan_trees.specs.declared.physicals.Ship.{Ship}
use Rattle.plan_trees.specs.declared.physicals.Ship.TheVariants.{Forward, Partition}
use Rattle.plan_trees.specs.declared.plans.Parts.TheVariants.{OverOne}
use Rattle.plan_trees.specs.Inserted.{inserted, inserted_above}
use Rattle.plan_trees.specs.Physicals.{PhysicalData, has_edge, ship_at}
use Rattle.plan_trees.specs.PlanParts.{parts_of}
use Rattle.plan_trees.specs.Plans.{PlanTree, over, has, input_of, node_limit, root_input_of, root_of, subtree_of}
use Rattle.plan_trees.proofs.NodesOfTrees.{has-nodes}
use Rattle.plan_trees.proofs.RootParts.{is_over}
use Rattle.plan_trees.proofs.Ships.{is_edge}
use Rattle.plan_trees.proofs.SubtreesOfPlans.{root_of-subtree}
use Rattle.pact_operators.specs.declared.operators.Op.{Op}
use Rattle.pact_operators.specs.Insertions.{CanInsert, CanReplace, inserted_into, replaced_in}
use Rattle.pact_operators.specs.PlanOps.{function_in, kind_at, kind_in}
use Rattle.pact_operators.specs.Programs.{HasLeftAttribute, IsPlanOf, IsProgram, ProgramData, is_operator_kind, times_of_kind}
use Rattle.pact_operators.proofs.NumbersInPlans.{next_below}
use Rattle.ship_strategy.specs.PlanFacts.{attribute}
use Rattle.ship_strategy.proofs.PlanAttributes.{left_true}
use Rattle.combine_rule.specs.Combinable.{IsCombinable, sender_with, merger_with}
use Rattle.combine_rule.specs.CombinedPrograms.{CanCombine, Planned, combined_at, merger_for, planned, sender_for, sender_op}
use Rattle.combine_rule.specs.Partials.{ArePartials}
use Rattle.combine_rule.specs.Slots.{spare_register}
use Rattle.combine_rule.proofs.CombinedTheorem.{can_insert, can_replace}
use Rattle.combine_rule.proofs.ReadOnce.{inside, not_root, over_same}

-- ---- as it is found

pub reads_input : (tree s : PlanTree) (at n : ℕ) (input : PlanTree) → has at tree ≡ true → s ≡ subtree_of at tree → parts_of s ≡ OverOne n input
    → subtree_of at tree ≡ over at input
reads_input tree s at n input there e parts =
    let is = is_over s input n (sym parts) in
    let root : n ≡ at = ap root_of (sym is ∙ e) ∙ root_of-subtree at tree there in
    sym e ∙ is ∙ ap (λ (k : ℕ). over k input) root

pub set_is : (set : ℕ → Bool) (p : ProgramData) (tree : PlanTree) (at : ℕ) (input : PlanTree)
    → ((k : ℕ) → IsTrue (set k) ↔ HasLeftAttribute p.functions p.ops (subtree_of at tree) k) → subtree_of at tree ≡ over at input
    → set ≡ attribute p input
set_is set p tree at input h reads = λ i k.
    both_ways (set k) (attribute p input k)
    (λ e. (left_true p (over at input) k).1 (subst (λ (t : PlanTree). HasLeftAttribute p.functions p.ops t k) reads ((h k).0 e)))
    (λ e. (h k).1 (subst (λ (t : PlanTree). HasLeftAttribute p.functions p.ops t k) (sym reads) ((left_true p (over at input) k).0 e)))
    i

module _ (q : PhysicalData) (at : ℕ) (input : PlanTree) (there : has at q.tree ≡ true) (reads : subtree_of at q.tree ≡ over at input) where
  pub input_there : has (root_of input) q.tree ≡ true
  input_there = has-nodes (root_of input) q.tree (inside (root_of input) at input refl q.tree there reads)

  edge_from : (b : Bool) → b ≡ true → (ship : Ship) → (if b then Some ship else None) ≡ Some ship
  edge_from b e ship = rw e refl

  pub ship_there : (valids : List WithFields) (ops : List Op) → IsPlanOf valids ops q.tree → ship_at q (root_of input) ≡ Some (get_or q.ships (root_of input) Forward)
  ship_there valids ops plan =
      edge_from (has_edge (root_of input) q.tree) (is_edge (root_of input) q.tree input_there (λ e. not_root (root_of input) at input refl q.tree plan.different there reads (sym e))) (get_or q.ships (root_of input) Forward)

  module _ (p : ProgramData) (k : CanCombine (planned p q) at) where
    pub same_input : k.input ≡ input
    same_input = over_same at at k.input input (sym k.reads ∙ reads)

    pub same_ship : get_or q.ships (root_of input) Forward ≡ Partition k.fields
    same_ship = ap (λ (t : PlanTree). get_or q.ships (root_of t) Forward) (sym same_input) ∙ k.ship

-- ---- its function, its keys, and the attributes of its input

pub record IsFound (p : ProgramData) (q : PhysicalData) (at : ℕ) (k : CanCombine (planned p q) at) (f : WithFields) (keys : List ℕ) (set : ℕ → Bool) : Type 0 where
  pub function : f ≡ k.called
  pub fields : f.fields ≡ p.fields
  pub keys_are : keys ≡ k.op.left_keys
  pub attributes : set ≡ attribute p k.input

pub found : (p : ProgramData) (q : PhysicalData) (at : ℕ) (k : CanCombine (planned p q) at) (f : WithFields) (o : Op) (set : ℕ → Bool)
    → slice_get p.functions (function_in (slice_get p.ops at)) ≡ Some f → f.fields ≡ p.fields → slice_get p.ops at ≡ Some o
    → ((j : ℕ) → IsTrue (set j) ↔ HasLeftAttribute p.functions p.ops (subtree_of at q.tree) j) → IsFound p q at k f o.left_keys set
found p q at k f o set of_function of_fields of_op of_set = record {
  function = same_Some f k.called (sym of_function ∙ ap (λ (g : Option Op). slice_get p.functions (function_in g)) k.found ∙ k.function);
  fields = of_fields;
  keys_are = ap (λ (x : Op). x.left_keys) (same_Some o k.op (sym of_op ∙ k.found));
  attributes = set_is set p q.tree at k.input of_set k.reads;
}

pub asked : (p : ProgramData) (q : PhysicalData) (at : ℕ) (k : CanCombine (planned p q) at) (f : WithFields) (keys : List ℕ) (set : ℕ → Bool)
    → IsFound p q at k f keys set → IsCombinable f.function f.fields keys set
asked p q at k f keys set h =
    subst (λ (g : WithFields). IsCombinable g.function f.fields keys set) (sym h.function)
    (subst (λ (n : ℕ). IsCombinable k.called.function n keys set) (sym h.fields)
    (subst (λ (l : List ℕ). IsCombinable k.called.function p.fields l set) (sym h.keys_are)
    (subst (λ (s : ℕ → Bool). IsCombinable k.called.function p.fields k.op.left_keys s) (sym h.attributes) k.combinable)))

pub may_be : (p : ProgramData) (q : PhysicalData) (at : ℕ) (o : Op) (input : PlanTree) (fields : List ℕ) (f : WithFields) (set : ℕ → Bool)
    → slice_get p.ops at ≡ Some o → o.kind ≡ Reduce → has at q.tree ≡ true → subtree_of at q.tree ≡ over at input
    → get_or q.ships (root_of input) Forward ≡ Partition fields → slice_get p.functions (function_in (slice_get p.ops at)) ≡ Some f → f.fields ≡ p.fields
    → ((j : ℕ) → IsTrue (set j) ↔ HasLeftAttribute p.functions p.ops (subtree_of at q.tree) j) → IsCombinable f.function f.fields o.left_keys set
    → times_of_kind is_operator_kind p.ops < 16 → length p.functions < 63 → CanCombine (planned p q) at
may_be p q at o input fields f set of_op kind there reads ship of_function of_fields of_set h room function_room = record {
  op = o;
  found = of_op;
  kind = kind;
  input = input;
  there = there;
  reads = reads;
  fields = fields;
  ship = ship;
  called = f;
  function = ap (λ (g : Option Op). slice_get p.functions (function_in g)) (sym of_op) ∙ of_function;
  combinable = subst (λ (n : ℕ). IsCombinable f.function n o.left_keys (attribute p input)) of_fields (subst (IsCombinable f.function f.fields o.left_keys) (set_is set p q.tree at input of_set reads) h);
  room = room;
  function_room = function_room;
}

pub not_source : (ops : List Op) (at : ℕ) (o : Op) → slice_get ops at ≡ Some o → o.kind ≡ Reduce → kind_at ops at ≡ Source → ⊥
not_source ops at o e kind source = let bad : Source ≡ Reduce = sym source ∙ ap kind_in e ∙ kind in cc

-- ---- the operator that is inserted for it

module _ (p : ProgramData) (q : PhysicalData) (at : ℕ) (k : CanCombine (planned p q) at) (program : IsProgram p) (plan : IsPlanOf p.functions p.ops q.tree) where
  abbrev s : Planned
  s = planned p q

  pub small : length p.ops < node_limit
  small = next_below p.functions p.ops q.tree plan k.room

  pub at_inside : at < length p.ops
  at_inside = slice_get_within p.ops at k.op k.found

  pub below_is : (below : ℕ) → input_of at 0 q.tree ≡ Some below → below ≡ root_of k.input
  below_is below e = same_Some below (root_of k.input) (sym e ∙ ap (root_input_of 0) k.reads)

  -- the operator, the sender and the merger
  pub record AreMade (below new : ℕ) (op : Op) (sender merger : WithFields) : Type 0 where
    pub below_it : below ≡ root_of k.input
    pub new_is : new ≡ length p.ops
    pub op_is : op ≡ sender_op new k.op
    pub sender_is : sender ≡ sender_for s at k
    pub merger_is : merger ≡ merger_for s at k

  pub made : (below new : ℕ) (op : Op) (sender merger : WithFields) (f : WithFields) (keys : List ℕ) (set : ℕ → Bool) → IsFound p q at k f keys set
      → ArePartials f.function f.fields keys set sender merger
      → input_of at 0 q.tree ≡ Some below → new ≡ length p.ops → op ≡ sender_op new (record k.op { left_keys = keys }) → AreMade below new op sender merger
  made below new op sender merger f keys set h halves of_below of_new of_op =
      let register : halves.register ≡ k.combinable.register =
      same_Some halves.register k.combinable.register (sym halves.is_spare ∙ ap (λ (g : WithFields). spare_register g.function.body) h.function ∙ k.combinable.is_spare) in
      record {
        below_it = below_is below of_below;
        new_is = of_new;
        op_is = of_op ∙ ap (λ (l : List ℕ). sender_op new (record k.op { left_keys = l })) h.keys_are;
        sender_is = halves.sender_is ∙ (λ i. record { function = sender_with (h.function i).function (h.fields i) (register i) (h.keys_are i) (h.attributes i); fields = h.fields i });
        merger_is = halves.merger_is ∙ (λ i. record { function = merger_with (h.function i).function (h.fields i) (register i) (h.keys_are i) (h.attributes i); fields = h.fields i });
      }

  module _ (below new : ℕ) (op : Op) (sender merger : WithFields) (h : AreMade below new op sender merger) where
    op_there : op ≡ sender_op (length p.ops) k.op
    op_there = h.op_is ∙ ap (λ (n : ℕ). sender_op n k.op) h.new_is

    pub insert_asked : CanInsert p q.tree below op sender
    insert_asked =
        subst (λ (n : ℕ). CanInsert p q.tree n op sender) (sym h.below_it)
        (subst (λ (o : Op). CanInsert p q.tree (root_of k.input) o sender) (sym op_there)
        (subst (CanInsert p q.tree (root_of k.input) (sender_op (length p.ops) k.op)) (sym h.sender_is) (can_insert s at k program [] plan)))

    -- the program with the inserted operator and its function
    pub grown_is : inserted_into p op sender (inserted below (length p.ops) q.tree) ≡ inserted_into p (sender_op (length p.ops) k.op) (sender_for s at k) (inserted (root_of k.input) (length p.ops) q.tree)
    grown_is = λ i. inserted_into p (op_there i) (h.sender_is i) (inserted (h.below_it i) (length p.ops) q.tree)

    pub replace_asked : (grown : ProgramData) → grown ≡ inserted_into p op sender (inserted below (length p.ops) q.tree) → CanReplace grown at merger
    replace_asked grown e =
        subst (λ (g : ProgramData). CanReplace g at merger) (sym (e ∙ grown_is))
        (subst (CanReplace (inserted_into p (sender_op (length p.ops) k.op) (sender_for s at k) (inserted (root_of k.input) (length p.ops) q.tree)) at) (sym h.merger_is) (can_replace s at k program [] plan))

    pub combined_is : (grown changed : ProgramData) (moved : PhysicalData) → grown ≡ inserted_into p op sender (inserted below (length p.ops) q.tree)
        → moved ≡ inserted_above below (length p.ops) q → changed ≡ replaced_in grown at merger
        → planned changed moved ≡ combined_at s at k
    combined_is grown changed moved of_grown of_moved of_changed =
        let program_is = of_changed ∙ (λ i. replaced_in ((of_grown ∙ grown_is) i) at (h.merger_is i)) in
        let physical_is = of_moved ∙ ap (λ (n : ℕ). inserted_above n (length p.ops) q) h.below_it in
        λ i. planned (program_is i) (physical_is i)
