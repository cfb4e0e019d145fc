-- A program with an inserted operator, or with another function for an operator, keeps what every program keeps.
use Rattle.std.proofs.Common.{◌≡◌, ◌≢◌, ◌<◌, ◌≤◌, ◌+◌, ◌==◌, ◌⊎◌, ℕ, zero, suc, Bool, true, false, cond, inl, inr, if◌then◌else◌, List, [], ◌∷◌, ◌++◌, Option, Some, None, length, slice_get, refl, sym, ap, subst, ◌∙◌, arith, length-append, append-nil}
use Rattle.std.specs.Prelude.{filter}
use Rattle.std.specs.List.{AllByRecursion}
use Rattle.std.proofs.lemmas.Bool.{cases_Bool, eqb-true, eqb-false}
use Rattle.std.proofs.lemmas.List.Elements.{filter-append}
use Rattle.std.proofs.lemmas.Option.{same_Some, slice_get_within}
use Rattle.pact_record.proofs.Lists.{AllByRecursion-append, AllByRecursion-slice_get, AllByRecursion-weaker}
use Rattle.pact_record.proofs.Permutations.{flat_map-append}
use Rattle.plan_trees.specs.Distinct.{AreDifferent, IsAbsent}
use Rattle.plan_trees.specs.Plans.{PlanTree, leaf, over, both, has, nodes, root_of, subtree_of}
use Rattle.plan_trees.proofs.DifferentNumbers.{IsIn, IsIn-parts, IsAbsent-from}
use Rattle.plan_trees.proofs.EverySubtree.{AllBelow, all_below}
use Rattle.plan_trees.proofs.SubtreesOfPlans.{root_of-subtree}
use Rattle.tac_syntax.specs.declared.declarations.OpKind.{OpKind}
use Rattle.tac_syntax.specs.declared.declarations.OpKind.TheVariants.{Source, Map, Reduce, Match, Cross, CoGroup}
use Rattle.tac_syntax.specs.Bounded.{Names}
use Rattle.tac_syntax.specs.Valid.{WithFields, IsValid}
use Rattle.pact_operators.specs.declared.operators.Op.{Op}
use Rattle.pact_operators.specs.Programs.{ProgramData, IsProgram, IsPlanOf, IsOpOf, IsOperatorOf, HasArity, HasAttribute, FunctionNames, HasKeyLists, AreSidesApart, IsKindFor, Owns, OwnsBy, Takes, takes, source_fields, fields_of, is_operator_kind, is_pair_kind, times_of_kind}
use Rattle.pact_operators.proofs.BelowFields.{attribute-below}
use Rattle.pact_operators.proofs.OwnFields.{names_of-some, none_owned, owned_at}
use Rattle.plan_trees.specs.Inserted.{wrapped, inserted}
use Rattle.pact_operators.specs.Insertions.{calling, inserted_into, replaced_in, CanInsert, CanReplace}
use Rattle.plan_trees.proofs.InsertedPlaces.{core, has-inserted, inserted-core, subtree-inserted}
use Rattle.plan_trees.proofs.InPlace.{GoesDown, down}
use Rattle.pact_operators.proofs.OneMore.{slice_get-last, slice_get-other, calling-other, calling-at}
use Rattle.plan_trees.proofs.InsertedTrees.{different_inserted, has_new}

-- ---- functions and operators by number

pub slice_get-more : {A : Type 0} (xs ys : List A) (n : ℕ) (x : A) → slice_get xs n ≡ Some x → slice_get (xs ++ ys) n ≡ Some x
slice_get-more [] ys n x e = let bad : None ≡ Some x = e in absurd cc
slice_get-more (y ∷ xs) ys zero x e = e
slice_get-more (y ∷ xs) ys (suc n) x e = slice_get-more xs ys n x e

op_of-more : (F : ℕ) (fs gs : List WithFields) (op : Op) → IsOpOf F fs op → IsOpOf F (fs ++ gs) op
op_of-more F fs gs op (inl s) = inl s
op_of-more F fs gs op (inr h) = inr (record {
  called = h.called;
  function = slice_get-more fs gs op.function h.called h.function;
  kind = h.kind;
  keys = h.keys;
  left_below = h.left_below;
  right_below = h.right_below;
})

function_names-more : (fs gs : List WithFields) (n k : ℕ) → n < length fs → FunctionNames (fs ++ gs) n k → FunctionNames fs n k
function_names-more [] gs n k lt h = absurd (omega (arith, lt))
function_names-more (f ∷ fs) gs zero k lt h = h
function_names-more (f ∷ fs) gs (suc n) k lt h = function_names-more fs gs n k (omega (arith, lt)) h

function_names-fewer : (fs gs : List WithFields) (n k : ℕ) → n < length fs → FunctionNames fs n k → FunctionNames (fs ++ gs) n k
function_names-fewer [] gs n k lt h = absurd (omega (arith, lt))
function_names-fewer (f ∷ fs) gs zero k lt h = h
function_names-fewer (f ∷ fs) gs (suc n) k lt h = function_names-fewer fs gs n k (omega (arith, lt)) h

owns_by-more : (fs gs : List WithFields) (kind : OpKind) (op : Op) (k : ℕ) → ((kind ≡ Source → ⊥) → op.function < length fs) → OwnsBy kind (fs ++ gs) op k → OwnsBy kind fs op k
owns_by-more fs gs Source op k lt h = h
owns_by-more fs gs Map op k lt h = function_names-more fs gs op.function k (lt (λ e. cc)) h
owns_by-more fs gs Reduce op k lt h = function_names-more fs gs op.function k (lt (λ e. cc)) h
owns_by-more fs gs Match op k lt h = function_names-more fs gs op.function k (lt (λ e. cc)) h
owns_by-more fs gs Cross op k lt h = function_names-more fs gs op.function k (lt (λ e. cc)) h
owns_by-more fs gs CoGroup op k lt h = function_names-more fs gs op.function k (lt (λ e. cc)) h

owns_by-fewer : (fs gs : List WithFields) (kind : OpKind) (op : Op) (k : ℕ) → ((kind ≡ Source → ⊥) → op.function < length fs) → OwnsBy kind fs op k → OwnsBy kind (fs ++ gs) op k
owns_by-fewer fs gs Source op k lt h = h
owns_by-fewer fs gs Map op k lt h = function_names-fewer fs gs op.function k (lt (λ e. cc)) h
owns_by-fewer fs gs Reduce op k lt h = function_names-fewer fs gs op.function k (lt (λ e. cc)) h
owns_by-fewer fs gs Match op k lt h = function_names-fewer fs gs op.function k (lt (λ e. cc)) h
owns_by-fewer fs gs Cross op k lt h = function_names-fewer fs gs op.function k (lt (λ e. cc)) h
owns_by-fewer fs gs CoGroup op k lt h = function_names-fewer fs gs op.function k (lt (λ e. cc)) h

-- an operator owns the fields that its function names
owns_by-names : (fs : List WithFields) (kind : OpKind) (op : Op) (k : ℕ) → (kind ≡ Source → ⊥) → OwnsBy kind fs op k → FunctionNames fs op.function k
owns_by-names fs Source op k ne h = absurd (ne refl)
owns_by-names fs Map op k ne h = h
owns_by-names fs Reduce op k ne h = h
owns_by-names fs Match op k ne h = h
owns_by-names fs Cross op k ne h = h
owns_by-names fs CoGroup op k ne h = h

names-owns_by : (fs : List WithFields) (kind : OpKind) (op : Op) (k : ℕ) → (kind ≡ Source → ⊥) → FunctionNames fs op.function k → OwnsBy kind fs op k
names-owns_by fs Source op k ne h = absurd (ne refl)
names-owns_by fs Map op k ne h = h
names-owns_by fs Reduce op k ne h = h
names-owns_by fs Match op k ne h = h
names-owns_by fs Cross op k ne h = h
names-owns_by fs CoGroup op k ne h = h

function_in_range : (F : ℕ) (fs : List WithFields) (op : Op) → IsOpOf F fs op → (op.kind ≡ Source → ⊥) → op.function < length fs
function_in_range F fs op (inl s) ne = absurd (ne s)
function_in_range F fs op (inr h) ne = slice_get_within fs op.function h.called h.function

-- a number with the same operator as before owns the same fields
owns_same : (F : ℕ) (fs gs : List WithFields) (ops others : List Op) (n k : ℕ) → AllByRecursion (IsOpOf F fs) ops → slice_get others n ≡ slice_get ops n → Owns (fs ++ gs) others n k → Owns fs ops n k
owns_same F fs gs ops others n k all e h = by (slice_get ops n) refl where
  by : (g : Option Op) → slice_get ops n ≡ g → Owns fs ops n k
  by None q = absurd (none_owned (fs ++ gs) others n k (e ∙ q) h)
  by (Some op) q =
      (owned_at fs ops n k op q).1
      (owns_by-more fs gs op.kind op k (function_in_range F fs op (AllByRecursion-slice_get (IsOpOf F fs) ops n op all q)) ((owned_at (fs ++ gs) others n k op (e ∙ q)).0 h))

-- ---- counts of kinds

times-append : (test : OpKind → Bool) (ops : List Op) (op : Op) → times_of_kind test (ops ++ op ∷ []) ≡ times_of_kind test ops + length (cond (test op.kind) (op ∷ []) [])
times-append test ops op = ap length (filter-append (λ o. test o.kind) ops (op ∷ [])) ∙ length-append (filter (λ o. test o.kind) ops) (cond (test op.kind) (op ∷ []) [])

at_most_one : (b : Bool) (op : Op) → length (cond b (op ∷ []) []) ≤ 1
at_most_one true op = omega arith
at_most_one false op = omega arith

pub one_operator : (ops : List Op) (op : Op) → is_operator_kind op.kind ≡ true → times_of_kind is_operator_kind (ops ++ op ∷ []) ≡ times_of_kind is_operator_kind ops + 1
one_operator ops op e = times-append is_operator_kind ops op ∙ ap (λ (b : Bool). times_of_kind is_operator_kind ops + length (cond b (op ∷ []) [])) e

no_pair : (kind : OpKind) (op : Op) → (kind ≡ Map) ⊎ (kind ≡ Reduce) → length (cond (is_pair_kind kind) (op ∷ []) []) ≡ 0
no_pair kind op (inl e) = ap (λ (k : OpKind). length (cond (is_pair_kind k) (op ∷ []) [])) e
no_pair kind op (inr e) = ap (λ (k : OpKind). length (cond (is_pair_kind k) (op ∷ []) [])) e

-- ---- an inserted operator

module _ (p : ProgramData) (program : IsProgram p) (tree : PlanTree) (below : ℕ) (op : Op) (f : WithFields) (valid : IsValid f.function f.fields) (c : CanInsert p tree below op f) where
  abbrev plan : IsPlanOf p.functions p.ops tree
  plan = c.plan

  abbrev new : ℕ
  new = length p.ops

  abbrev own : Op
  own = record op { function = length p.functions }

  abbrev u : ProgramData
  u = inserted_into p op f (inserted below new tree)

  no_source : op.kind ≡ Source → ⊥
  no_source e = by op.kind c.kind e where
    by : (k : OpKind) → (k ≡ Map) ⊎ (k ≡ Reduce) → k ≡ Source → ⊥
    by k (inl a) b = let z : Map ≡ Source = sym a ∙ b in cc
    by k (inr a) b = let z : Reduce ≡ Source = sym a ∙ b in cc

  takes_one : takes op.kind ≡ 1
  takes_one = by op.kind c.kind where
    by : (k : OpKind) → (k ≡ Map) ⊎ (k ≡ Reduce) → takes k ≡ 1
    by k (inl e) = ap takes e
    by k (inr e) = ap takes e

  -- a number of the tree is one of the program's
  arity_in : (t : PlanTree) → HasArity p.ops t → (m : ℕ) → IsIn m (nodes t) → m < new
  arity_in (leaf n) h m (inl e) = subst (λ (j : ℕ). j < new) (sym e) (slice_get_within p.ops n h.0 h.1)
  arity_in (leaf n) h m (inr i) = elim i [ ]
  arity_in (over n t) h m (inl e) = subst (λ (j : ℕ). j < new) (sym e) (slice_get_within p.ops n h.0.0 h.0.1)
  arity_in (over n t) h m (inr i) = arity_in t h.1 m i
  arity_in (both n t v) h m (inl e) = subst (λ (j : ℕ). j < new) (sym e) (slice_get_within p.ops n h.0.0 h.0.1)
  arity_in (both n t v) h m (inr i) = elim (IsIn-parts m (nodes t) (nodes v) i) as (λ _. m < new) [
    | inl l ↦ arity_in t h.1 m l
    | inr r ↦ arity_in v h.2 m r
  ]

  pub absent : IsIn new (nodes tree) → ⊥
  absent i = let lt = arity_in tree plan.arity new i in omega (arith, lt)

  pub absent_new : IsAbsent new (nodes tree)
  absent_new = IsAbsent-from new (nodes tree) (λ m i e. absent (subst (λ (k : ℕ). IsIn k (nodes tree)) e i))

  -- ---- arity

  takes_still : (n k : ℕ) → Takes p.ops n k → Takes u.ops n k
  takes_still n k h = (h.0, slice_get-more p.ops (own ∷ []) n h.0 h.1, h.2)

  arity_wrapped : (n : ℕ) (t : PlanTree) → HasArity u.ops t → HasArity u.ops (wrapped below new n t)
  arity_wrapped n t h = by (below == n) where
    by : (b : Bool) → HasArity u.ops (if b then over new t else t)
    by true = ((own, slice_get-last p.ops own, takes_one), h)
    by false = h

  arity : (t : PlanTree) → HasArity p.ops t → HasArity u.ops (inserted below new t)
  arity (leaf n) h = arity_wrapped n (leaf n) (takes_still n 0 h)
  arity (over n t) h = arity_wrapped n (over n (inserted below new t)) (takes_still n 1 h.0, arity t h.1)
  arity (both n t v) h = arity_wrapped n (both n (inserted below new t) (inserted below new v)) (takes_still n 2 h.0, arity t h.1, arity v h.2)

  -- ---- attributes

  owns_new : (k : ℕ) → Owns u.functions u.ops new k → Names p.fields k f.function.body
  owns_new k h =
      let g = (owned_at u.functions u.ops new k own (slice_get-last p.ops own)).0 h in
      subst (λ (n : ℕ). Names n k f.function.body) c.fields
      ((names_of-some u.functions (length p.functions) k f (slice_get-last p.functions f)).0 (owns_by-names u.functions op.kind own k no_source g))

  owns_old : (n k : ℕ) → n < new → Owns u.functions u.ops n k → Owns p.functions p.ops n k
  owns_old n k lt h = owns_same p.fields p.functions (f ∷ []) p.ops u.ops n k program.ops (slice_get-other p.ops own n (λ e. omega (arith, lt, e))) h

  -- if the number is a tree's root, the new function names only attributes of this tree
  abbrev NamedIn : PlanTree → Type 0
  NamedIn t = root_of t ≡ below → (k : ℕ) → Names p.fields k f.function.body → HasAttribute p.functions p.ops t k

  named_below : AllBelow NamedIn tree
  named_below = all_below NamedIn tree plan.different (λ m there e k h.
      let is = sym (root_of-subtree m tree there) ∙ e in
      subst (λ (j : ℕ). HasAttribute p.functions p.ops (subtree_of j tree) k) (sym is) (c.named_inside k h))

  attributes_wrapped : (n k : ℕ) (t : PlanTree) → (A : Type 0) → (n ≡ below → Names p.fields k f.function.body → A) → (HasAttribute u.functions u.ops t k → A) → HasAttribute u.functions u.ops (wrapped below new n t) k → A
  attributes_wrapped n k t A named rest h = by (below == n) refl h where
    by : (b : Bool) → (below == n) ≡ b → HasAttribute u.functions u.ops (if b then over new t else t) k → A
    by true e (inl o) = named (sym (eqb-true below n e)) (owns_new k o)
    by true e (inr r) = rest r
    by false e r = rest r

  attributes : (t : PlanTree) → AllBelow NamedIn t → HasArity p.ops t → (k : ℕ) → HasAttribute u.functions u.ops (inserted below new t) k → HasAttribute p.functions p.ops t k
  attributes (leaf n) named a k h = attributes_wrapped n k (leaf n) (Owns p.functions p.ops n k) (λ e g. named e k g) (λ o. owns_old n k (arity_in (leaf n) a n (inl refl)) o) h
  attributes (over n t) named a k h =
      attributes_wrapped n k (over n (inserted below new t)) (HasAttribute p.functions p.ops (over n t) k) (λ e g. named.0 e k g) (λ o. elim o as (λ _. HasAttribute p.functions p.ops (over n t) k) [
        | inl x ↦ inl (owns_old n k (arity_in (over n t) a n (inl refl)) x)
        | inr x ↦ inr (attributes t named.1 a.1 k x)
      ]) h
  attributes (both n t v) named a k h =
      attributes_wrapped n k (both n (inserted below new t) (inserted below new v)) (HasAttribute p.functions p.ops (both n t v) k) (λ e g. named.0 e k g) (λ o. elim o as (λ _. HasAttribute p.functions p.ops (both n t v) k) [
        | inl x ↦ inl (owns_old n k (arity_in (both n t v) a n (inl refl)) x)
        | inr y ↦ elim y as (λ _. HasAttribute p.functions p.ops (both n t v) k) [
          | inl x ↦ inr (inl (attributes t named.1 a.1 k x))
          | inr x ↦ inr (inr (attributes v named.2 a.2 k x))
        ]
      ]) h

  apart_wrapped : (n : ℕ) (t : PlanTree) → AreSidesApart u.functions u.ops t → AreSidesApart u.functions u.ops (wrapped below new n t)
  apart_wrapped n t h = by (below == n) where
    by : (b : Bool) → AreSidesApart u.functions u.ops (if b then over new t else t)
    by true = h
    by false = h

  apart : (t : PlanTree) → AllBelow NamedIn t → HasArity p.ops t → AreSidesApart p.functions p.ops t → AreSidesApart u.functions u.ops (inserted below new t)
  apart (leaf n) named a h = apart_wrapped n (leaf n) tt
  apart (over n t) named a h = apart_wrapped n (over n (inserted below new t)) (apart t named.1 a.1 h)
  apart (both n t v) named a h =
      apart_wrapped n (both n (inserted below new t) (inserted below new v))
      ((λ k x y. h.0 k (attributes t named.1 a.1 k x) (attributes v named.2 a.2 k y)), apart t named.1 a.1 h.1, apart v named.2 a.2 h.2)

  -- ---- the plan

  has_each : (n : ℕ) → n < length u.ops → has n (inserted below new tree) ≡ true
  has_each n lt = elim (cases_Bool (n == new)) as (λ _. has n (inserted below new tree) ≡ true) [
    | inl e ↦ subst (λ (j : ℕ). has j (inserted below new tree) ≡ true) (sym (eqb-true n new e)) (has_new below new tree c.there)
    | inr e ↦ let ne = eqb-false n new e in has-inserted n below new tree (plan.all n (smaller n lt ne))
  ] where
    smaller : (n : ℕ) → n < length u.ops → n ≢ new → n < new
    smaller n lt ne = omega (arith, lt, ne, length-append p.ops (own ∷ []))

  pub inserted_plan : IsPlanOf u.functions u.ops u.plan
  inserted_plan = record {
    different = different_inserted below new tree plan.different absent;
    all = has_each;
    arity = arity tree plan.arity;
    apart = apart tree named_below plan.arity plan.apart;
  }

  -- ---- attributes stay the same at each earlier number

  owns_more : (n k : ℕ) → Owns p.functions p.ops n k → Owns u.functions u.ops n k
  owns_more n k h = by (slice_get p.ops n) refl where
    by : (g : Option Op) → slice_get p.ops n ≡ g → Owns u.functions u.ops n k
    by None q = absurd (none_owned p.functions p.ops n k q h)
    by (Some o) q =
        (owned_at u.functions u.ops n k o (slice_get-more p.ops (own ∷ []) n o q)).1
        (owns_by-fewer p.functions (f ∷ []) o.kind o k (function_in_range p.fields p.functions o (AllByRecursion-slice_get (IsOpOf p.fields p.functions) p.ops n o program.ops q)) ((owned_at p.functions p.ops n k o q).0 h))

  more_wrapped : (n k : ℕ) (t : PlanTree) → HasAttribute u.functions u.ops t k → HasAttribute u.functions u.ops (wrapped below new n t) k
  more_wrapped n k t h = by (below == n) where
    by : (b : Bool) → HasAttribute u.functions u.ops (if b then over new t else t) k
    by true = inr h
    by false = h

  more_inserted : (k : ℕ) (t : PlanTree) → HasAttribute p.functions p.ops t k → HasAttribute u.functions u.ops (inserted below new t) k
  more_inserted k (leaf n) h = more_wrapped n k (leaf n) (owns_more n k h)
  more_inserted k (over n t) (inl o) = more_wrapped n k (over n (inserted below new t)) (inl (owns_more n k o))
  more_inserted k (over n t) (inr h) = more_wrapped n k (over n (inserted below new t)) (inr (more_inserted k t h))
  more_inserted k (both n t v) (inl o) = more_wrapped n k (both n (inserted below new t) (inserted below new v)) (inl (owns_more n k o))
  more_inserted k (both n t v) (inr (inl h)) = more_wrapped n k (both n (inserted below new t) (inserted below new v)) (inr (inl (more_inserted k t h)))
  more_inserted k (both n t v) (inr (inr h)) = more_wrapped n k (both n (inserted below new t) (inserted below new v)) (inr (inr (more_inserted k v h)))

  more_core : (k : ℕ) (t : PlanTree) → HasAttribute p.functions p.ops t k → HasAttribute u.functions u.ops (core below new t) k
  more_core k (leaf n) h = owns_more n k h
  more_core k (over n t) (inl o) = inl (owns_more n k o)
  more_core k (over n t) (inr h) = inr (more_inserted k t h)
  more_core k (both n t v) (inl o) = inl (owns_more n k o)
  more_core k (both n t v) (inr (inl h)) = inr (inl (more_inserted k t h))
  more_core k (both n t v) (inr (inr h)) = inr (inr (more_inserted k v h))

  fewer_core : (k : ℕ) (t : PlanTree) → AllBelow NamedIn t → HasArity p.ops t → HasAttribute u.functions u.ops (core below new t) k → HasAttribute p.functions p.ops t k
  fewer_core k t named a h = attributes t named a k (subst (λ (s : PlanTree). HasAttribute u.functions u.ops s k) (sym (inserted-core below new t)) (more_wrapped (root_of t) k (core below new t) h))

  named_down : GoesDown (AllBelow NamedIn)
  named_down = record { of_one = λ n t h. h.1; of_left = λ n t v h. h.1; of_right = λ n t v h. h.2 }

  arity_down : GoesDown (HasArity p.ops)
  arity_down = record { of_one = λ n t h. h.1; of_left = λ n t v h. h.1; of_right = λ n t v h. h.2 }

  pub attributes_same : (at k : ℕ) → has at tree ≡ true
      → (HasAttribute u.functions u.ops (subtree_of at u.plan) k → HasAttribute p.functions p.ops (subtree_of at tree) k) × (HasAttribute p.functions p.ops (subtree_of at tree) k → HasAttribute u.functions u.ops (subtree_of at u.plan) k)
  attributes_same at k there =
      let is : subtree_of at (inserted below new tree) ≡ core below new (subtree_of at tree) = subtree-inserted below new at tree plan.different absent there in (
        (λ h. fewer_core k (subtree_of at tree) (down (AllBelow NamedIn) named_down at tree named_below) (down (HasArity p.ops) arity_down at tree plan.arity) (subst (λ (s : PlanTree). HasAttribute u.functions u.ops s k) is h)),
        (λ h. subst (λ (s : PlanTree). HasAttribute u.functions u.ops s k) (sym is) (more_core k (subtree_of at tree) h)),
      )

  -- ---- the program

  same_columns : source_fields u.ops ≡ source_fields p.ops
  same_columns =
      flat_map-append (λ (o : Op). fields_of o.columns) p.ops (own ∷ [])
      ∙ ap (λ (l : List ℕ). source_fields p.ops ++ l) (append-nil (fields_of op.columns) ∙ ap fields_of c.no_columns)
      ∙ append-nil (source_fields p.ops)

  keys_in_range : AllByRecursion (λ k. k < p.fields) op.left_keys
  keys_in_range = AllByRecursion-weaker (HasAttribute p.functions p.ops (subtree_of below tree)) (λ k. k < p.fields) op.left_keys
      (λ k h. attribute-below p.fields p.functions p.ops (subtree_of below tree) k (record { same = program.functions; valid = program.valid }) program.columns_below h) c.keys_inside

  no_right : AllByRecursion (λ k. k < p.fields) op.right_keys
  no_right = subst (AllByRecursion (λ k. k < p.fields)) (sym (by op.kind c.kind c.keys)) tt where
    by : (k : OpKind) → (k ≡ Map) ⊎ (k ≡ Reduce) → HasKeyLists k f.function.keys op.left_keys op.right_keys → op.right_keys ≡ []
    by k (inl e) h = (subst (λ (x : OpKind). HasKeyLists x f.function.keys op.left_keys op.right_keys) e h).1
    by k (inr e) h = (subst (λ (x : OpKind). HasKeyLists x f.function.keys op.left_keys op.right_keys) e h).1

  pub inserted_program : IsProgram u
  inserted_program =
      let one = at_most_one (is_operator_kind op.kind) own in
      record {
        few_functions = omega (arith, c.function_room, length-append p.functions (f ∷ []));
        few_operators = omega (arith, c.room, times-append is_operator_kind p.ops own, one);
        few_pairs = omega (arith, program.few_pairs, times-append is_pair_kind p.ops own, no_pair op.kind own c.kind);
        version = program.version;
        some_field = program.some_field;
        few_fields = program.few_fields;
        functions = AllByRecursion-append (λ v. v.fields ≡ p.fields) p.functions (f ∷ []) program.functions (c.fields, tt);
        valid = AllByRecursion-append (λ v. IsValid v.function v.fields) p.functions (f ∷ []) program.valid (valid, tt);
        ops = AllByRecursion-append (IsOpOf p.fields u.functions) p.ops (own ∷ []) (AllByRecursion-weaker (IsOpOf p.fields p.functions) (IsOpOf p.fields u.functions) p.ops (λ o h. op_of-more p.fields p.functions (f ∷ []) o h) program.ops)
            (inr (record { called = f; function = slice_get-last p.functions f; kind = c.called; keys = c.keys; left_below = keys_in_range; right_below = no_right }), tt);
        plan = inserted_plan;
        columns_different = subst AreDifferent (sym same_columns) program.columns_different;
        columns_below = subst (AllByRecursion (λ k. k < p.fields)) (sym same_columns) program.columns_below;
        sink = program.sink;
      }

-- ---- another function for an operator

calling-in : (P : Op → Type 0) (at k : ℕ) (ops : List Op) → AllByRecursion P ops → ((op : Op) → slice_get ops at ≡ Some op → P (record op { function = k })) → AllByRecursion P (calling at k ops)
calling-in P at k [] h g = tt
calling-in P zero k (op ∷ ops) h g = (g op refl, h.1)
calling-in P (suc at) k (op ∷ ops) h g = (h.0, calling-in P at k ops h.1 g)

calling-columns : (at k : ℕ) (ops : List Op) → source_fields (calling at k ops) ≡ source_fields ops
calling-columns at k [] = refl
calling-columns zero k (op ∷ ops) = refl
calling-columns (suc at) k (op ∷ ops) = ap (λ (l : List ℕ). fields_of op.columns ++ l) (calling-columns at k ops)

counted : Bool → ℕ → ℕ
counted true n = suc n
counted false n = n

counted-cons : (test : OpKind → Bool) (op : Op) (ops : List Op) → times_of_kind test (op ∷ ops) ≡ counted (test op.kind) (times_of_kind test ops)
unfolding counted
counted-cons test op ops = by (test op.kind) where
  by : (b : Bool) → length (cond b (op ∷ filter (λ o. test o.kind) ops) (filter (λ o. test o.kind) ops)) ≡ counted b (times_of_kind test ops)
  by true = refl
  by false = refl

calling-times : (test : OpKind → Bool) (at k : ℕ) (ops : List Op) → times_of_kind test (calling at k ops) ≡ times_of_kind test ops
calling-times test at k [] = refl
calling-times test zero k (op ∷ ops) = counted-cons test (record op { function = k }) ops ∙ sym (counted-cons test op ops)
calling-times test (suc at) k (op ∷ ops) = counted-cons test op (calling at k ops) ∙ ap (counted (test op.kind)) (calling-times test at k ops) ∙ sym (counted-cons test op ops)

calling-length : (at k : ℕ) (ops : List Op) → length (calling at k ops) ≡ length ops
calling-length at k [] = refl
calling-length zero k (op ∷ ops) = refl
calling-length (suc at) k (op ∷ ops) = ap suc (calling-length at k ops)

module _ (p : ProgramData) (program : IsProgram p) (at : ℕ) (f : WithFields) (valid : IsValid f.function f.fields) (c : CanReplace p at f) where
  abbrev w : ProgramData
  w = replaced_in p at f

  abbrev now : Op
  now = record c.op { function = length p.functions }

  operator_is : IsOperatorOf p.fields p.functions c.op
  operator_is = elim (AllByRecursion-slice_get (IsOpOf p.fields p.functions) p.ops at c.op program.ops c.found) as (λ _. IsOperatorOf p.fields p.functions c.op) [
    | inl s ↦ absurd (c.operator s)
    | inr h ↦ h
  ]

  same_called : operator_is.called ≡ c.old
  same_called = same_Some operator_is.called c.old (sym operator_is.function ∙ c.function)

  -- the operator, with its new function
  now_is : IsOpOf p.fields w.functions now
  now_is = inr (record {
    called = f;
    function = slice_get-last p.functions f;
    kind = subst (IsKindFor c.op.kind) (ap (λ (v : WithFields). v.function.kind) same_called ∙ sym c.kind) operator_is.kind;
    keys = subst (λ (n : ℕ). HasKeyLists c.op.kind n c.op.left_keys c.op.right_keys) (ap (λ (v : WithFields). v.function.keys) same_called ∙ sym c.keys) operator_is.keys;
    left_below = operator_is.left_below;
    right_below = operator_is.right_below;
  })

  takes_kept : (n k : ℕ) → Takes p.ops n k → Takes w.ops n k
  takes_kept n k h = elim (cases_Bool (n == at)) as (λ _. Takes w.ops n k) [
    | inl e ↦
        let is = eqb-true n at e in
        let same = same_Some h.0 c.op (sym h.1 ∙ ap (slice_get p.ops) is ∙ c.found) in
        (now, ap (slice_get w.ops) is ∙ calling-at at (length p.functions) p.ops c.op c.found, ap (λ (o : Op). takes o.kind) (sym same) ∙ h.2)
    | inr e ↦ (h.0, calling-other at (length p.functions) p.ops n (eqb-false n at e) ∙ h.1, h.2)
  ]

  arity_kept : (t : PlanTree) → HasArity p.ops t → HasArity w.ops t
  arity_kept (leaf n) h = takes_kept n 0 h
  arity_kept (over n t) h = (takes_kept n 1 h.0, arity_kept t h.1)
  arity_kept (both n t v) h = (takes_kept n 2 h.0, arity_kept t h.1, arity_kept v h.2)

  owns_kept : (n k : ℕ) → Owns w.functions w.ops n k → Owns p.functions p.ops n k
  owns_kept n k h = elim (cases_Bool (n == at)) as (λ _. Owns p.functions p.ops n k) [
    | inl e ↦
        let is = eqb-true n at e in
        let g = (owned_at w.functions w.ops at k now (calling-at at (length p.functions) p.ops c.op c.found)).0 (subst (λ (j : ℕ). Owns w.functions w.ops j k) is h) in
        let of_last = (names_of-some w.functions (length p.functions) k f (slice_get-last p.functions f)).0 (owns_by-names w.functions c.op.kind now k c.operator g) in
        let named = c.named k (subst (λ (n : ℕ). Names n k f.function.body) c.fields of_last) in
        let old_fields = AllByRecursion-slice_get (λ v. v.fields ≡ p.fields) p.functions c.op.function c.old program.functions c.function in
        subst (λ (j : ℕ). Owns p.functions p.ops j k) (sym is) ((owned_at p.functions p.ops at k c.op c.found).1
        (names-owns_by p.functions c.op.kind c.op k c.operator
        ((names_of-some p.functions c.op.function k c.old c.function).1 (subst (λ (n : ℕ). Names n k c.old.function.body) (sym old_fields) named))))
    | inr e ↦ owns_same p.fields p.functions (f ∷ []) p.ops w.ops n k program.ops (calling-other at (length p.functions) p.ops n (eqb-false n at e)) h
  ]

  attributes_kept : (t : PlanTree) (k : ℕ) → HasAttribute w.functions w.ops t k → HasAttribute p.functions p.ops t k
  attributes_kept (leaf n) k h = owns_kept n k h
  attributes_kept (over n t) k (inl o) = inl (owns_kept n k o)
  attributes_kept (over n t) k (inr h) = inr (attributes_kept t k h)
  attributes_kept (both n t v) k (inl o) = inl (owns_kept n k o)
  attributes_kept (both n t v) k (inr (inl h)) = inr (inl (attributes_kept t k h))
  attributes_kept (both n t v) k (inr (inr h)) = inr (inr (attributes_kept v k h))

  sides_kept : (t : PlanTree) → AreSidesApart p.functions p.ops t → AreSidesApart w.functions w.ops t
  sides_kept (leaf n) h = tt
  sides_kept (over n t) h = sides_kept t h
  sides_kept (both n t v) h = ((λ k x y. h.0 k (attributes_kept t k x) (attributes_kept v k y)), sides_kept t h.1, sides_kept v h.2)

  -- a plan of the program stays one
  pub replaced_plan : (tree : PlanTree) → IsPlanOf p.functions p.ops tree → IsPlanOf w.functions w.ops tree
  replaced_plan tree plan = record {
    different = plan.different;
    all = λ n lt. plan.all n (omega (arith, lt, calling-length at (length p.functions) p.ops));
    arity = arity_kept tree plan.arity;
    apart = sides_kept tree plan.apart;
  }

  pub replaced_program : IsProgram w
  replaced_program =
      let columns = calling-columns at (length p.functions) p.ops in
      record {
        few_functions = omega (arith, c.function_room, length-append p.functions (f ∷ []));
        few_operators = omega (arith, program.few_operators, calling-times is_operator_kind at (length p.functions) p.ops);
        few_pairs = omega (arith, program.few_pairs, calling-times is_pair_kind at (length p.functions) p.ops);
        version = program.version;
        some_field = program.some_field;
        few_fields = program.few_fields;
        functions = AllByRecursion-append (λ v. v.fields ≡ p.fields) p.functions (f ∷ []) program.functions (c.fields, tt);
        valid = AllByRecursion-append (λ v. IsValid v.function v.fields) p.functions (f ∷ []) program.valid (valid, tt);
        ops = calling-in (IsOpOf p.fields w.functions) at (length p.functions) p.ops
            (AllByRecursion-weaker (IsOpOf p.fields p.functions) (IsOpOf p.fields w.functions) p.ops (λ o h. op_of-more p.fields p.functions (f ∷ []) o h) program.ops)
            (λ o e. subst (λ (x : Op). IsOpOf p.fields w.functions (record x { function = length p.functions })) (same_Some c.op o (sym c.found ∙ e)) now_is);
        plan = replaced_plan p.plan program.plan;
        columns_different = subst AreDifferent (sym columns) program.columns_different;
        columns_below = subst (AllByRecursion (λ k. k < p.fields)) (sym columns) program.columns_below;
        sink = program.sink;
      }
