-- Each operator calls a function of its kind, with keys that are fields of the program.
use Rattle.std.proofs.Common.{◌≡◌, ◌<◌, ◌==◌, not, inl, inr, ℕ, zero, suc, true, false, Option, Some, None, List, [], ◌∷◌, bytes_eq, length, map, slice_get, refl, ap, subst, sym, ◌∙◌, arith}
use Rattle.std.specs.List.{AllByRecursion}
use Rattle.std.proofs.lemmas.Option.{slice_get_within}
use Rattle.std.proofs.lemmas.Bool.{and_parts, both_ways, cases_Bool, cases_lt, eqb-true, false_from_ne_true, not-false, or_parts}
use Rattle.tac_syntax.specs.declared.functions.Function.{Function}
use Rattle.tac_syntax.specs.declared.functions.Kind.{Kind}
use Rattle.tac_syntax.specs.declared.functions.Kind.TheVariants as kinds
use Rattle.tac_syntax.specs.Valid.{WithFields}
use Rattle.tac_syntax.specs.declared.declarations.OpKind.{OpKind}
use Rattle.tac_syntax.specs.declared.declarations.OpKind.TheVariants.{Source as SourceKind, Map, Reduce, Match, Cross, CoGroup}
use Rattle.tac_syntax.specs.declared.declarations.Decl.{Decl}
use Rattle.tac_syntax.specs.declared.declarations.Decl.TheVariants.{Source, Function as FunctionDecl, Op as OpDecl, Sink}
use Rattle.program_check.specs.declared.program_rules.ProgramRule.TheVariants.{Undeclared, DeclaredTwice, OtherKind, OtherKeyCount, NoAttribute}
use Rattle.tac_syntax.specs.Declarations.{HasInputs}
use Rattle.tac_syntax.specs.Drafts.{DraftData}
use Rattle.plan_trees.specs.Plans.{PlanTree, leaf, over, both, root_of, subtree_of}
use Rattle.program_check.specs.ProgramRules.{LacksKey, NoneBreaks, SidesLackKey, are_key_counts, function_named, is_function_for, is_of_kind, some_missing}
use Rattle.pact_operators.specs.Programs.{AreValidated, Follows, HasAttribute, HasKeyLists, IsKindFor, IsOperatorOf, IsWrittenPlan, source_fields}
use Rattle.pact_operators.specs.Resolved.{Inputs, no_input, one_input, two_inputs, function_names, inputs_of, inputs_read, is_among, names_read, node_names, ops_of, place_among}
use Rattle.program_check.proofs.PlanOfProgram.{at_place, subtree-follows}
use Rattle.pact_operators.proofs.BelowFields.{AreOf, attribute-below}
use Rattle.program_check.proofs.EachDecl.{none-at}

-- ---- the function that is called

-- A function with the name is at the name's place.
named_place : (functions : List Function) (name : List ℕ) → is_among name (function_names functions) ≡ true
    → (f : Function) × (function_named functions name ≡ Some f) × (slice_get functions (place_among name (function_names functions)) ≡ Some f)
named_place [] name h = absurd (both_ways false refl h)
named_place (f ∷ functions) name h =
    elim (cases_Bool (bytes_eq name f.name)) as (λ _. (g : Function) × (function_named (f ∷ functions) name ≡ Some g) × (slice_get (f ∷ functions) (place_among name (function_names (f ∷ functions))) ≡ Some g)) [
      | inl e ↦ (f, rw e refl, rw e refl)
      | inr e ↦
          let later : is_among name (function_names functions) ≡ true = simp e at h in
          let r = named_place functions name later in
          let next : place_among name (function_names (f ∷ functions)) ≡ suc (place_among name (function_names functions)) = rw e (omega arith) in
          (r.0, rw e r.1, rw next r.2)
    ]

-- The valid function of that number is the same function.
valid_at : (v : List WithFields) (n : ℕ) (f : Function) → slice_get (map (λ v. v.function) v) n ≡ Some f → (w : WithFields) × (slice_get v n ≡ Some w) × (w.function ≡ f)
valid_at [] n f e = let bad : None ≡ Some f = e in absurd cc
valid_at (w ∷ v) zero f e = let same : w.function ≡ f = cc in (w, refl, same)
valid_at (w ∷ v) (suc n) f e = valid_at v n f e

kind_is : (kind : OpKind) (k : Kind) → is_of_kind kind k ≡ true → IsKindFor kind k
kind_is Map kinds.Map h = refl
kind_is Reduce kinds.Reduce h = refl
kind_is Match kinds.Match h = refl
kind_is Cross kinds.Cross h = refl
kind_is CoGroup kinds.CoGroup h = refl
kind_is kind k h = absurd (both_ways false refl h)

-- ---- its lists of keys

keys_are : (kind : OpKind) (f : Function) (right left_keys right_keys : List ℕ) → HasInputs kind right left_keys right_keys
    → are_key_counts kind (Some f) (length left_keys) (length right_keys) ≡ true → HasKeyLists kind f.keys left_keys right_keys
keys_are SourceKind f right left_keys right_keys h k = absurd h
keys_are Map f right left_keys right_keys h k = (h.1, h.2)
keys_are Reduce f right left_keys right_keys h k = (sym (eqb-true f.keys (length left_keys) k), h.2)
keys_are Match f right left_keys right_keys h k = (h.1.some, eqb-true (length left_keys) (length right_keys) k)
keys_are Cross f right left_keys right_keys h k = (h.1, h.2)
keys_are CoGroup f right left_keys right_keys h k =
    let parts = and_parts (f.keys == length left_keys) (f.keys == length right_keys) k in
    (sym (eqb-true f.keys (length left_keys) parts.0), sym (eqb-true f.keys (length right_keys) parts.1))

-- ---- its keys

-- A property of all attributes holds for each key.
all_so : (d : DraftData) (v : List WithFields) (t : PlanTree) (P : ℕ → Type 0) (keys : List ℕ) → ((k : ℕ) → (¬ ¬ HasAttribute v (ops_of (function_names d.functions) d.decls) t k) → P k)
    → ¬ LacksKey d v t keys → AllByRecursion P keys
all_so d v t P [] h k = tt
all_so d v t P (key ∷ keys) h k = (h key (λ absent. k (inl absent)), all_so d v t P keys h (λ later. k (inr later)))

-- the keys of both sides
abbrev Both : (ℕ → Type 0) → List ℕ → List ℕ → Type 0
Both P left_keys right_keys = AllByRecursion P left_keys × AllByRecursion P right_keys

none : (P : ℕ → Type 0) (keys : List ℕ) → keys ≡ [] → AllByRecursion P keys
none P keys e = subst (AllByRecursion P) (sym e) tt

one_sided : (d : DraftData) (v : List WithFields) (inputs : List Inputs) (s : PlanTree) (a : ℕ) (P : ℕ → Type 0) (left_keys right_keys : List ℕ) → Follows inputs s
    → slice_get inputs (root_of s) ≡ Some (one_input a) → ((t : PlanTree) (k : ℕ) → (¬ ¬ HasAttribute v (ops_of (function_names d.functions) d.decls) t k) → P k)
    → ¬ SidesLackKey d v s left_keys right_keys → AllByRecursion P left_keys
one_sided d v inputs (leaf n) a P left_keys right_keys f e h k = let bad : Some no_input ≡ Some (one_input a) = sym f ∙ e in absurd cc
one_sided d v inputs (over n t) a P left_keys right_keys f e h k = all_so d v t P left_keys (h t) k
one_sided d v inputs (both n t u) a P left_keys right_keys f e h k = let bad : Some (two_inputs (root_of t) (root_of u)) ≡ Some (one_input a) = sym f.0 ∙ e in absurd cc

two_sided : (d : DraftData) (v : List WithFields) (inputs : List Inputs) (s : PlanTree) (a b : ℕ) (P : ℕ → Type 0) (left_keys right_keys : List ℕ) → Follows inputs s
    → slice_get inputs (root_of s) ≡ Some (two_inputs a b) → ((t : PlanTree) (k : ℕ) → (¬ ¬ HasAttribute v (ops_of (function_names d.functions) d.decls) t k) → P k)
    → ¬ SidesLackKey d v s left_keys right_keys → Both P left_keys right_keys
two_sided d v inputs (leaf n) a b P left_keys right_keys f e h k = let bad : Some no_input ≡ Some (two_inputs a b) = sym f ∙ e in absurd cc
two_sided d v inputs (over n t) a b P left_keys right_keys f e h k = let bad : Some (one_input (root_of t)) ≡ Some (two_inputs a b) = sym f.0 ∙ e in absurd cc
two_sided d v inputs (both n t u) a b P left_keys right_keys f e h k = (all_so d v t P left_keys (h t) (λ l. k (inl l)), all_so d v u P right_keys (h u) (λ l. k (inr l)))

sided : (kind : OpKind) (d : DraftData) (v : List WithFields) (names : List (List ℕ)) (inputs : List Inputs) (s : PlanTree) (P : ℕ → Type 0) (left right left_keys right_keys : List ℕ)
    → HasInputs kind right left_keys right_keys → Follows inputs s → slice_get inputs (root_of s) ≡ Some (inputs_read names kind left right)
    → ((t : PlanTree) (k : ℕ) → (¬ ¬ HasAttribute v (ops_of (function_names d.functions) d.decls) t k) → P k) → ¬ SidesLackKey d v s left_keys right_keys → Both P left_keys right_keys
sided SourceKind d v names inputs s P left right left_keys right_keys i f e h k = absurd i
sided Map d v names inputs s P left right left_keys right_keys i f e h k = (none P left_keys i.1, none P right_keys i.2)
sided Reduce d v names inputs s P left right left_keys right_keys i f e h k = (one_sided d v inputs s (place_among left names) P left_keys right_keys f e h k, none P right_keys i.2)
sided Match d v names inputs s P left right left_keys right_keys i f e h k = two_sided d v inputs s (place_among left names) (place_among right names) P left_keys right_keys f e h k
sided Cross d v names inputs s P left right left_keys right_keys i f e h k = (none P left_keys i.1, none P right_keys i.2)
sided CoGroup d v names inputs s P left right left_keys right_keys i f e h k = two_sided d v inputs s (place_among left names) (place_among right names) P left_keys right_keys f e h k

-- ---- the number of an operator

op_node : (names : List (List ℕ)) (decls : List Decl) (m : ℕ) (name : List ℕ) (kind : OpKind) (function left right left_keys right_keys : List ℕ)
    → slice_get decls m ≡ Some (OpDecl name kind function left right left_keys right_keys)
    → (p : ℕ) × (slice_get (node_names decls) p ≡ Some name) × (slice_get (inputs_of names decls) p ≡ Some (inputs_read names kind left right))
op_node names [] m name kind function left right left_keys right_keys e = let bad : None ≡ Some (OpDecl name kind function left right left_keys right_keys) = e in absurd cc
op_node names (Source own file columns ∷ decls) zero name kind function left right left_keys right_keys e =
    let bad : Some (Source own file columns) ≡ Some (OpDecl name kind function left right left_keys right_keys) = e in absurd cc
op_node names (Source own file columns ∷ decls) (suc m) name kind function left right left_keys right_keys e =
    let r = op_node names decls m name kind function left right left_keys right_keys e in (suc r.0, r.1, r.2)
op_node names (FunctionDecl number ∷ decls) zero name kind function left right left_keys right_keys e =
    let bad : Some (FunctionDecl number) ≡ Some (OpDecl name kind function left right left_keys right_keys) = e in absurd cc
op_node names (FunctionDecl number ∷ decls) (suc m) name kind function left right left_keys right_keys e = op_node names decls m name kind function left right left_keys right_keys e
op_node names (OpDecl own k f l r lk rk ∷ decls) zero name kind function left right left_keys right_keys e =
    let here : Some (OpDecl own k f l r lk rk) ≡ Some (OpDecl name kind function left right left_keys right_keys) = e in
    let same : own ≡ name = cc in
    let same_kind : k ≡ kind = cc in
    let same_left : l ≡ left = cc in
    let same_right : r ≡ right = cc in
    (zero, ap (λ (x : List ℕ). Some x) same, λ i. Some (inputs_read names (same_kind i) (same_left i) (same_right i)))
op_node names (OpDecl own k f l r lk rk ∷ decls) (suc m) name kind function left right left_keys right_keys e =
    let r = op_node names decls m name kind function left right left_keys right_keys e in (suc r.0, r.1, r.2)
op_node names (Sink input fields ∷ decls) zero name kind function left right left_keys right_keys e =
    let bad : Some (Sink input fields) ≡ Some (OpDecl name kind function left right left_keys right_keys) = e in absurd cc
op_node names (Sink input fields ∷ decls) (suc m) name kind function left right left_keys right_keys e = op_node names decls m name kind function left right left_keys right_keys e

-- ---- all of it

-- the rules that an operator's facts rest on
pub record KeepsOpRules (d : DraftData) (v : List WithFields) : Type 0 where
  pub declared : NoneBreaks Undeclared d v [] d.decls
  pub once : NoneBreaks DeclaredTwice d v [] d.decls
  pub kinds_are : NoneBreaks OtherKind d v [] d.decls
  pub counts_are : NoneBreaks OtherKeyCount d v [] d.decls
  pub attributes : NoneBreaks NoAttribute d v [] d.decls

below_twice : (k bound : ℕ) → (¬ ¬ (k < bound)) → k < bound
below_twice k bound h = elim (cases_lt k bound) as (λ _. k < bound) [
  | inl lt ↦ lt
  | inr le ↦ absurd (h (λ (lt : k < bound). omega (arith, lt, le)))
]

pub operator-is : (d : DraftData) (v : List WithFields) (tree : PlanTree) (m : ℕ) (name : List ℕ) (kind : OpKind) (function left right left_keys right_keys : List ℕ) → KeepsOpRules d v → IsWrittenPlan d tree
    → AreValidated d v → AllByRecursion (λ k. k < d.fields) (source_fields (ops_of (function_names d.functions) d.decls)) → HasInputs kind right left_keys right_keys
    → slice_get d.decls m ≡ Some (OpDecl name kind function left right left_keys right_keys)
    → IsOperatorOf d.fields v (record { name = name; kind = kind; function = place_among function (function_names d.functions); left_keys = left_keys; right_keys = right_keys; file = []; columns = [] })
operator-is d v tree m name kind function left right left_keys right_keys h w valid columns inputs at =
    let decl = OpDecl name kind function left right left_keys right_keys in
    let names = node_names d.decls in
    let declared = none-at Undeclared d v [] d.decls m decl h.declared at in
    let known = not-false _ (or_parts (not (is_among function (function_names d.functions))) (some_missing (names_read kind left right) names) (false_from_ne_true _ declared.1)).0 in
    let named = named_place d.functions function known in
    let called = valid_at v (place_among function (function_names d.functions)) named.0 (ap (λ (fs : List Function). slice_get fs (place_among function (function_names d.functions))) valid.functions ∙ named.2) in
    let kind_rule = none-at OtherKind d v [] d.decls m decl h.kinds_are at in
    let kind_told : is_of_kind kind named.0.kind ≡ true = ap (is_function_for kind) (sym named.1) ∙ not-false _ (false_from_ne_true _ kind_rule.1) in
    let count_rule = none-at OtherKeyCount d v [] d.decls m decl h.counts_are at in
    let counts : are_key_counts kind (Some named.0) (length left_keys) (length right_keys) ≡ true =
    ap (λ (f : Option Function). are_key_counts kind f (length left_keys) (length right_keys)) (sym named.1) ∙ not-false _ (false_from_ne_true _ count_rule.1) in
    let node = op_node names d.decls m name kind function left right left_keys right_keys at in
    let place = at_place d v m node.0 name kind function left right left_keys right_keys h.once at node.1 in
    let there = w.all (place_among name names) (subst (λ (k : ℕ). k < length names) (sym place) (slice_get_within names node.0 name node.1)) in
    let sub = subtree-follows (inputs_of names d.decls) (place_among name names) tree w.follows there in
    let reads : slice_get (inputs_of names d.decls) (root_of (subtree_of (place_among name names) tree)) ≡ Some (inputs_read names kind left right) =
    subst (λ (k : ℕ). slice_get (inputs_of names d.decls) k ≡ Some (inputs_read names kind left right)) (sym (sub.0 ∙ place)) node.2 in
    let attributes = none-at NoAttribute d v [] d.decls m decl h.attributes at in
    let of : AreOf d.fields v = record { same = valid.fields; valid = valid.valid } in
    let below : (t : PlanTree) (k : ℕ) → (¬ ¬ HasAttribute v (ops_of (function_names d.functions) d.decls) t k) → k < d.fields =
    λ t k twice. below_twice k d.fields (λ not_below. twice (λ has. not_below (attribute-below d.fields v (ops_of (function_names d.functions) d.decls) t k of columns has))) in
    let keys = sided kind d v names (inputs_of names d.decls) (subtree_of (place_among name names) tree) (λ k. k < d.fields) left right left_keys right_keys inputs sub.1 reads below
    (λ lacks. attributes.1 (tree, w, lacks)) in
    record {
      called = called.0;
      function = called.1;
      kind = subst (λ (f : Function). IsKindFor kind f.kind) (sym called.2) (kind_is kind named.0.kind kind_told);
      keys = subst (λ (f : Function). HasKeyLists kind f.keys left_keys right_keys) (sym called.2) (keys_are kind named.0 right left_keys right_keys inputs counts);
      left_below = keys.0;
      right_below = keys.1;
    }
