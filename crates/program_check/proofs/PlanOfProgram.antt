-- The plan as written is a plan of the sources and operators.
use Rattle.std.proofs.Common.{◌≡◌, ◌<◌, ◌==◌, inl, inr, ℕ, zero, suc, true, Some, None, Option, List, [], ◌∷◌, length, slice_get, refl, ap, subst, sym, ◌∙◌, arith}
use Rattle.std.proofs.lemmas.Bool.{cases_Bool, eqb-true, false_from_ne_true, leb-false}
use Rattle.tac_syntax.specs.Valid.{WithFields}
use Rattle.tac_syntax.specs.declared.declarations.OpKind.{OpKind}
use Rattle.tac_syntax.specs.declared.declarations.OpKind.TheVariants.{Source as SourceKind, Map, Reduce, Match, Cross, CoGroup}
use Rattle.tac_syntax.specs.declared.declarations.Decl.{Decl}
use Rattle.tac_syntax.specs.declared.declarations.Decl.TheVariants.{Source, Function as FunctionDecl, Op as OpDecl, Sink}
use Rattle.pact_operators.specs.declared.operators.Op.{Op}
use Rattle.program_check.specs.declared.program_rules.ProgramRule.TheVariants.{DeclaredTwice, SharedAttribute}
use Rattle.tac_syntax.specs.Drafts.{DraftData}
use Rattle.plan_trees.specs.Plans.{PlanTree, leaf, over, both, has, root_of, subtree_of}
use Rattle.program_check.specs.ProgramRules.{NoneBreaks, SidesShare}
use Rattle.pact_operators.specs.Programs.{AreSidesApart, Follows, HasArity, IsPlanOf, IsWrittenPlan, Takes, takes}
use Rattle.pact_operators.specs.Resolved.{Inputs, no_input, one_input, two_inputs, function_names, inputs_of, inputs_read, node_names, ops_of, place_among, times_among}
use Rattle.program_check.proofs.FewDeclarations.{length-ops_of}
use Rattle.program_check.proofs.EachDecl.{none-at}
use Rattle.plan_trees.proofs.EverySubtree.{AllBelow, all_below}
use Rattle.pact_operators.proofs.OnePlan.{root_within}
use Rattle.program_check.proofs.NamedInputs.{length-inputs_of, only_place}

-- ---- each node has the inputs of its kind

abbrev arity : Inputs → ℕ
arity no_input = 0
arity (one_input a) = 1
arity (two_inputs a b) = 2

reads-arity : (names : List (List ℕ)) (kind : OpKind) (left right : List ℕ) → takes kind ≡ arity (inputs_read names kind left right)
reads-arity names SourceKind left right = refl
reads-arity names Map left right = refl
reads-arity names Reduce left right = refl
reads-arity names Match left right = refl
reads-arity names Cross left right = refl
reads-arity names CoGroup left right = refl

takes_at : (names functions : List (List ℕ)) (decls : List Decl) (n : ℕ) (x : Inputs) → slice_get (inputs_of names decls) n ≡ Some x → Takes (ops_of functions decls) n (arity x)
takes_at names functions [] n x e = let bad : None ≡ Some x = e in absurd cc
takes_at names functions (Source name file columns ∷ decls) zero x e =
    let same : no_input ≡ x = cc in
    (record { name = name; kind = SourceKind; function = 0; left_keys = []; right_keys = []; file = file; columns = columns }, refl, ap arity same)
takes_at names functions (Source name file columns ∷ decls) (suc n) x e = takes_at names functions decls n x e
takes_at names functions (FunctionDecl number ∷ decls) n x e = takes_at names functions decls n x e
takes_at names functions (OpDecl name kind function left right left_keys right_keys ∷ decls) zero x e =
    let same : inputs_read names kind left right ≡ x = cc in (
      record { name = name; kind = kind; function = place_among function functions; left_keys = left_keys; right_keys = right_keys; file = []; columns = [] },
      refl,
      reads-arity names kind left right ∙ ap arity same,
    )
takes_at names functions (OpDecl name kind function left right left_keys right_keys ∷ decls) (suc n) x e = takes_at names functions decls n x e
takes_at names functions (Sink input fields ∷ decls) n x e = takes_at names functions decls n x e

pub has-arity : (names functions : List (List ℕ)) (decls : List Decl) (t : PlanTree) → Follows (inputs_of names decls) t → HasArity (ops_of functions decls) t
has-arity names functions decls (leaf n) f = takes_at names functions decls n no_input f
has-arity names functions decls (over n t) f = (takes_at names functions decls n (one_input (root_of t)) f.0, has-arity names functions decls t f.1)
has-arity names functions decls (both n t u) f =
    (takes_at names functions decls n (two_inputs (root_of t) (root_of u)) f.0, has-arity names functions decls t f.1, has-arity names functions decls u f.2)

-- ---- subtrees

-- A subtree begins with its number, and follows the inputs.
pub subtree-follows : (inputs : List Inputs) (n : ℕ) (t : PlanTree) → Follows inputs t → has n t ≡ true → (root_of (subtree_of n t) ≡ n) × Follows inputs (subtree_of n t)
subtree-follows inputs n (leaf m) f h = (sym (eqb-true n m h), f)
subtree-follows inputs n (over m t) f h = elim (cases_Bool (n == m)) as (λ _. (root_of (subtree_of n (over m t)) ≡ n) × Follows inputs (subtree_of n (over m t))) [
  | inl e ↦ rw e (sym (eqb-true n m e), f)
  | inr e ↦ rw e (subtree-follows inputs n t f.1 (simp e at h))
]
subtree-follows inputs n (both m t u) f h = elim (cases_Bool (n == m)) as (λ _. (root_of (subtree_of n (both m t u)) ≡ n) × Follows inputs (subtree_of n (both m t u))) [
  | inl e ↦ rw e (sym (eqb-true n m e), f)
  | inr e ↦ elim (cases_Bool (has n t)) as (λ _. (root_of (subtree_of n (both m t u)) ≡ n) × Follows inputs (subtree_of n (both m t u))) [
    | inl l ↦ rw (e, l) (subtree-follows inputs n t f.1 l)
    | inr l ↦ rw (e, l) (subtree-follows inputs n u f.2 (simp (e, l) at h))
  ]
]

-- ---- the sides of each operator share nothing

-- the declaration of a number's source or operator
abbrev IsNode : List (List ℕ) → Decl → Option (List ℕ) → Option Inputs → Type 0
IsNode names (Source own file columns) name x = (name ≡ Some own) × (x ≡ Some no_input)
IsNode names (FunctionDecl number) name x = ⊥
IsNode names (OpDecl own kind function left right left_keys right_keys) name x = (name ≡ Some own) × (x ≡ Some (inputs_read names kind left right))
IsNode names (Sink input fields) name x = ⊥

node_at : (names : List (List ℕ)) (decls : List Decl) (n : ℕ) → n < length (node_names decls)
    → (m : ℕ) × (decl : Decl) × (slice_get decls m ≡ Some decl) × IsNode names decl (slice_get (node_names decls) n) (slice_get (inputs_of names decls) n)
node_at names [] n lt = absurd (omega (arith, lt))
node_at names (Source own file columns ∷ decls) zero lt = (zero, Source own file columns, refl, (refl, refl))
node_at names (Source own file columns ∷ decls) (suc n) lt = let r = node_at names decls n (omega (arith, lt)) in (suc r.0, r.1, r.2, r.3)
node_at names (FunctionDecl number ∷ decls) n lt = let r = node_at names decls n lt in (suc r.0, r.1, r.2, r.3)
node_at names (OpDecl own kind function left right left_keys right_keys ∷ decls) zero lt = (zero, OpDecl own kind function left right left_keys right_keys, refl, (refl, refl))
node_at names (OpDecl own kind function left right left_keys right_keys ∷ decls) (suc n) lt = let r = node_at names decls n (omega (arith, lt)) in (suc r.0, r.1, r.2, r.3)
node_at names (Sink input fields ∷ decls) n lt = let r = node_at names decls n lt in (suc r.0, r.1, r.2, r.3)

-- a source has no sides
source_shares : (inputs : List Inputs) (v : List WithFields) (ops : List Op) (s : PlanTree) → Follows inputs s → slice_get inputs (root_of s) ≡ Some no_input → SidesShare v ops s → ⊥
source_shares inputs v ops (leaf n) f e s = s
source_shares inputs v ops (over n t) f e s = s
source_shares inputs v ops (both n t u) f e s = let bad : Some (two_inputs (root_of t) (root_of u)) ≡ Some no_input = sym f.0 ∙ e in cc

-- a name that is declared once is at its place
pub at_place : (d : DraftData) (v : List WithFields) (m n : ℕ) (name : List ℕ) (kind : OpKind) (function left right left_keys right_keys : List ℕ) → NoneBreaks DeclaredTwice d v [] d.decls
    → slice_get d.decls m ≡ Some (OpDecl name kind function left right left_keys right_keys) → slice_get (node_names d.decls) n ≡ Some name → place_among name (node_names d.decls) ≡ n
at_place d v m n name kind function left right left_keys right_keys once at e =
    let told = none-at DeclaredTwice d v [] d.decls m (OpDecl name kind function left right left_keys right_keys) once at in
    let few = leb-false 2 (times_among name (node_names d.decls)) (false_from_ne_true _ told.1) in
    only_place name (node_names d.decls) n (omega (arith, few)) e

no_share : (d : DraftData) (v : List WithFields) (tree : PlanTree) (n m : ℕ) (decl : Decl) → IsWrittenPlan d tree → NoneBreaks DeclaredTwice d v [] d.decls → NoneBreaks SharedAttribute d v [] d.decls
    → has n tree ≡ true → slice_get d.decls m ≡ Some decl
    → IsNode (node_names d.decls) decl (slice_get (node_names d.decls) n) (slice_get (inputs_of (node_names d.decls) d.decls) n)
    → SidesShare v (ops_of (function_names d.functions) d.decls) (subtree_of n tree) → ⊥
no_share d v tree n m (Source own file columns) w once shared there at node s =
    let inputs = inputs_of (node_names d.decls) d.decls in
    let sub = subtree-follows inputs n tree w.follows there in
    source_shares inputs v (ops_of (function_names d.functions) d.decls) (subtree_of n tree) sub.1 (subst (λ (k : ℕ). slice_get inputs k ≡ Some no_input) (sym sub.0) node.1) s
no_share d v tree n m (FunctionDecl number) w once shared there at node s = node
no_share d v tree n m (OpDecl own kind function left right left_keys right_keys) w once shared there at node s =
    let place = at_place d v m n own kind function left right left_keys right_keys once at node.0 in
    let told = none-at SharedAttribute d v [] d.decls m (OpDecl own kind function left right left_keys right_keys) shared at in
    told.1 (tree, w, subst (λ (k : ℕ). SidesShare v (ops_of (function_names d.functions) d.decls) (subtree_of k tree)) (sym place) s)
no_share d v tree n m (Sink input fields) w once shared there at node s = node

apart_from : (v : List WithFields) (ops : List Op) (t : PlanTree) → AllBelow (λ s. ¬ SidesShare v ops s) t → AreSidesApart v ops t
apart_from v ops (leaf n) h = tt
apart_from v ops (over n t) h = apart_from v ops t h.1
apart_from v ops (both n t u) h = ((λ k left right. h.0 (k, left, right)), apart_from v ops t h.1, apart_from v ops u h.2)

pub apart : (d : DraftData) (v : List WithFields) (tree : PlanTree) → IsWrittenPlan d tree → NoneBreaks DeclaredTwice d v [] d.decls → NoneBreaks SharedAttribute d v [] d.decls
    → AreSidesApart v (ops_of (function_names d.functions) d.decls) tree
apart d v tree w once shared =
    let names = node_names d.decls in
    let inputs = inputs_of names d.decls in
    apart_from v (ops_of (function_names d.functions) d.decls) tree (all_below (λ s. ¬ SidesShare v (ops_of (function_names d.functions) d.decls) s) tree w.different (λ n there s.
    let sub = subtree-follows inputs n tree w.follows there in
    let within : n < length names = omega (arith, root_within inputs (subtree_of n tree) sub.1, sub.0, length-inputs_of names d.decls) in
    let node = node_at names d.decls n within in
    no_share d v tree n node.0 node.1 w once shared there node.2 node.3 s))

pub plan-of : (d : DraftData) (v : List WithFields) (tree : PlanTree) → IsWrittenPlan d tree → NoneBreaks DeclaredTwice d v [] d.decls → NoneBreaks SharedAttribute d v [] d.decls
    → IsPlanOf v (ops_of (function_names d.functions) d.decls) tree
plan-of d v tree w once shared = record {
  different = w.different;
  all = λ n lt. w.all n (omega (arith, lt, length-ops_of (function_names d.functions) d.decls));
  arity = has-arity (node_names d.decls) (function_names d.functions) d.decls tree w.follows;
  apart = apart d v tree w once shared;
}
