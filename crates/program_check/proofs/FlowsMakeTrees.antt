-- Sources and operators make a tree if each is read once and reached from the root.
use Rattle.std.proofs.Common.{◌≡◌, ◌≤◌, ◌<◌, ◌+◌, ◌⊎◌, inl, inr, ℕ, zero, suc, true, Option, Some, None, List, [], ◌∷◌, ◌++◌, length, slice_get, refl, ap, sym, subst, ◌∙◌, arith, length-append}
use Rattle.plan_trees.proofs.DifferentNumbers.{AreDifferent-append, AreDifferent-parts, IsAbsent-append, IsAbsent-from, IsAbsent-not, IsIn, IsIn-left, IsIn-parts, IsIn-right, length-le_from_different}
use Rattle.plan_trees.proofs.NodesOfTrees.{has-nodes, root-nodes}
use Rattle.plan_trees.specs.Distinct.{IsAbsent, AreDifferent}
use Rattle.plan_trees.specs.Plans.{PlanTree, leaf, over, both, root_of, nodes, has}
use Rattle.plan_trees.specs.Sending.{workers_below as numbers_below}
use Rattle.pact_operators.specs.Programs.{Follows}
use Rattle.pact_operators.specs.Resolved.{Inputs, no_input, one_input, two_inputs}

abbrev pub IsInput : Option Inputs → ℕ → Type 0
IsInput None m = ⊥
IsInput (Some no_input) m = ⊥
IsInput (Some (one_input a)) m = m ≡ a
IsInput (Some (two_inputs a b)) m = (m ≡ a) ⊎ (m ≡ b)

-- Number p reads number m.
abbrev pub Reads : List Inputs → ℕ → ℕ → Type 0
Reads inputs p m = IsInput (slice_get inputs p) m

-- The last number is this many levels below the root.
abbrev pub At : List Inputs → ℕ → ℕ → ℕ → Type 0
At inputs root zero m = m ≡ root
At inputs root (suc j) m = (p : ℕ) × Reads inputs p m × At inputs root j p

-- The last number is this many levels below number n.
abbrev pub Below : List Inputs → ℕ → ℕ → ℕ → Type 0
Below inputs n zero m = m ≡ n
Below inputs n (suc t) m = (p : ℕ) × Reads inputs p m × Below inputs n t p

pub record IsFlow (inputs : List Inputs) (root depth : ℕ) : Type 0 where
  pub single : (p q m : ℕ) → Reads inputs p m → Reads inputs q m → p ≡ q
  pub root_unread : (p : ℕ) → Reads inputs p root → ⊥
  pub not_twice : (p a : ℕ) → slice_get inputs p ≡ Some (two_inputs a a) → ⊥
  pub within : (p m : ℕ) → Reads inputs p m → m < length inputs
  pub root_within : root < length inputs
  pub reached : (m : ℕ) → m < length inputs → (j : ℕ) × (j ≤ depth) × At inputs root j m

-- ---- levels

At-unique : (inputs : List Inputs) (root depth i j m : ℕ) → IsFlow inputs root depth → At inputs root i m → At inputs root j m → i ≡ j
At-unique inputs root depth zero zero m h p q = refl
At-unique inputs root depth zero (suc j) m h p q = absurd (h.root_unread q.0 (subst (Reads inputs q.0) p q.1))
At-unique inputs root depth (suc i) zero m h p q = absurd (h.root_unread p.0 (subst (Reads inputs p.0) q p.1))
At-unique inputs root depth (suc i) (suc j) m h p q =
    let same = h.single p.0 q.0 m p.1 q.1 in
    ap suc (At-unique inputs root depth i j q.0 h (subst (At inputs root i) same p.2) q.2)

At-within : (inputs : List Inputs) (root depth j m : ℕ) → IsFlow inputs root depth → At inputs root j m → m < length inputs
At-within inputs root depth zero m h p = subst (λ (x : ℕ). x < length inputs) (sym p) h.root_within
At-within inputs root depth (suc j) m h p = h.within p.0 m p.1

-- the level of a number that is t levels below another
At-below : (inputs : List Inputs) (root j n t m : ℕ) → At inputs root j n → Below inputs n t m → (i : ℕ) × (i ≡ t + j) × At inputs root i m
At-below inputs root j n zero m p q = (j, omega arith, subst (At inputs root j) (sym q) p)
At-below inputs root j n (suc t) m p q =
    let r = At-below inputs root j n t q.0 p q.2 in
    (suc r.0, omega (arith, r.1), (q.0, q.1, r.2))

Below-top : (inputs : List Inputs) (n a t m : ℕ) → Reads inputs n a → Below inputs a t m → Below inputs n (suc t) m
Below-top inputs n a zero m r q = (n, subst (Reads inputs n) (sym q) r, refl)
Below-top inputs n a (suc t) m r q = (q.0, q.1, Below-top inputs n a t q.0 r q.2)

Below-unique : (inputs : List Inputs) (root depth n k t m : ℕ) → IsFlow inputs root depth → Below inputs n t m → Below inputs k t m → n ≡ k
Below-unique inputs root depth n k zero m h p q = sym p ∙ q
Below-unique inputs root depth n k (suc t) m h p q =
    let same = h.single p.0 q.0 m p.1 q.1 in
    Below-unique inputs root depth n k t q.0 h (subst (Below inputs n t) same p.2) q.2

-- ---- the tree

abbrev tree_with : Option Inputs → ℕ → (ℕ → PlanTree) → PlanTree
tree_with None n more = leaf n
tree_with (Some no_input) n more = leaf n
tree_with (Some (one_input a)) n more = over n (more a)
tree_with (Some (two_inputs a b)) n more = both n (more a) (more b)

abbrev pub tree : List Inputs → ℕ → ℕ → PlanTree
tree inputs zero n = leaf n
tree inputs (suc k) n = tree_with (slice_get inputs n) n (tree inputs k)

tree_with-root : (x : Option Inputs) (n : ℕ) (more : ℕ → PlanTree) → root_of (tree_with x n more) ≡ n
tree_with-root None n more = refl
tree_with-root (Some no_input) n more = refl
tree_with-root (Some (one_input a)) n more = refl
tree_with-root (Some (two_inputs a b)) n more = refl

pub tree-root : (inputs : List Inputs) (k n : ℕ) → root_of (tree inputs k n) ≡ n
tree-root inputs zero n = refl
tree-root inputs (suc k) n = tree_with-root (slice_get inputs n) n (tree inputs k)

too_deep : (inputs : List Inputs) (root depth j m : ℕ) → IsFlow inputs root depth → depth < j → At inputs root j m → ⊥
too_deep inputs root depth j m h deep p =
    let r = h.reached m (At-within inputs root depth j m h p) in
    let same = At-unique inputs root depth r.0 j m h r.2 p in
    omega (arith, deep, r.1, same)

some_input : (inputs : List Inputs) (n : ℕ) → n < length inputs → slice_get inputs n ≡ None → ⊥
some_input [] n lt e = omega (arith, lt)
some_input (x ∷ inputs) zero lt e = let bad : Some x ≡ None = e in absurd cc
some_input (x ∷ inputs) (suc n) lt e = some_input inputs n (omega (arith, lt)) e

follows_by : (inputs : List Inputs) (root depth k j n : ℕ) → IsFlow inputs root depth → At inputs root j n
    → ((a : ℕ) → At inputs root (suc j) a → Follows inputs (tree inputs k a)) → (x : Option Inputs) → slice_get inputs n ≡ x → Follows inputs (tree_with x n (tree inputs k))
follows_by inputs root depth k j n h p more None e = absurd (some_input inputs n (At-within inputs root depth j n h p) e)
follows_by inputs root depth k j n h p more (Some no_input) e = e
follows_by inputs root depth k j n h p more (Some (one_input a)) e =
    (e ∙ ap (λ (r : ℕ). Some (one_input r)) (sym (tree-root inputs k a)), more a (n, rw e refl, p))
follows_by inputs root depth k j n h p more (Some (two_inputs a b)) e = (
  e ∙ ap (λ (r : ℕ). Some (two_inputs r b)) (sym (tree-root inputs k a)) ∙ ap (λ (r : ℕ). Some (two_inputs (root_of (tree inputs k a)) r)) (sym (tree-root inputs k b)),
  more a (n, rw e (inl refl), p),
  more b (n, rw e (inr refl), p),
)

pub tree-follows : (inputs : List Inputs) (root depth k j n : ℕ) → IsFlow inputs root depth → At inputs root j n → depth < j + k → Follows inputs (tree inputs k n)
tree-follows inputs root depth zero j n h p deep = absurd (too_deep inputs root depth j n h (omega (arith, deep)) p)
tree-follows inputs root depth (suc k) j n h p deep =
    follows_by inputs root depth k j n h p (λ a below. tree-follows inputs root depth k (suc j) a h below (omega (arith, deep))) (slice_get inputs n) refl

-- ---- its numbers

-- Each number of the tree is some levels below its root.
in_tree : (inputs : List Inputs) (k n m : ℕ) → IsIn m (nodes (tree inputs k n)) → (t : ℕ) × Below inputs n t m
in_tree inputs zero n m (inl e) = (zero, e)
in_tree inputs zero n m (inr none) = absurd none
in_tree inputs (suc k) n m h = in_by inputs k n m (λ a i. in_tree inputs k a m i) (slice_get inputs n) refl h
  where
    in_by : (inputs : List Inputs) (k n m : ℕ) → ((a : ℕ) → IsIn m (nodes (tree inputs k a)) → (t : ℕ) × Below inputs a t m) → (x : Option Inputs) → slice_get inputs n ≡ x
        → IsIn m (nodes (tree_with x n (tree inputs k))) → (t : ℕ) × Below inputs n t m
    in_by inputs k n m more None e (inl i) = (zero, i)
    in_by inputs k n m more None e (inr i) = absurd i
    in_by inputs k n m more (Some no_input) e (inl i) = (zero, i)
    in_by inputs k n m more (Some no_input) e (inr i) = absurd i
    in_by inputs k n m more (Some (one_input a)) e (inl i) = (zero, i)
    in_by inputs k n m more (Some (one_input a)) e (inr i) = let r = more a i in (suc r.0, Below-top inputs n a r.0 m (rw e refl) r.1)
    in_by inputs k n m more (Some (two_inputs a b)) e (inl i) = (zero, i)
    in_by inputs k n m more (Some (two_inputs a b)) e (inr i) = elim (IsIn-parts m (nodes (tree inputs k a)) (nodes (tree inputs k b)) i) [
      | inl p ↦ let r = more a p in (suc r.0, Below-top inputs n a r.0 m (rw e (inl refl)) r.1)
      | inr p ↦ let r = more b p in (suc r.0, Below-top inputs n b r.0 m (rw e (inr refl)) r.1)
    ]

-- What is below an input of a number isn't the number.
not_itself : (inputs : List Inputs) (root depth j n a t : ℕ) → IsFlow inputs root depth → At inputs root j n → At inputs root (suc j) a → Below inputs a t n → ⊥
not_itself inputs root depth j n a t h p q r =
    let at = At-below inputs root (suc j) a t n q r in
    let same = At-unique inputs root depth at.0 j n h at.2 p in
    omega (arith, at.1, same)

-- nothing is below both inputs of a number
not_both : (inputs : List Inputs) (root depth j n a b t s m : ℕ) → IsFlow inputs root depth → slice_get inputs n ≡ Some (two_inputs a b) → At inputs root (suc j) a → At inputs root (suc j) b
    → Below inputs a t m → Below inputs b s m → ⊥
not_both inputs root depth j n a b t s m h e p q r u =
    let left = At-below inputs root (suc j) a t m p r in
    let right = At-below inputs root (suc j) b s m q u in
    let same = At-unique inputs root depth left.0 right.0 m h left.2 right.2 in
    let level : t ≡ s = omega (arith, left.1, right.1, same) in
    let one = Below-unique inputs root depth a b s m h (subst (λ (x : ℕ). Below inputs a x m) level r) u in
    h.not_twice n a (e ∙ ap (λ (x : ℕ). Some (two_inputs a x)) (sym one))

different_by : (inputs : List Inputs) (root depth k j n : ℕ) → IsFlow inputs root depth → At inputs root j n
    → ((a : ℕ) → At inputs root (suc j) a → AreDifferent (nodes (tree inputs k a))) → (x : Option Inputs) → slice_get inputs n ≡ x → AreDifferent (nodes (tree_with x n (tree inputs k)))
different_by inputs root depth k j n h p more None e = (tt, tt)
different_by inputs root depth k j n h p more (Some no_input) e = (tt, tt)
different_by inputs root depth k j n h p more (Some (one_input a)) e =
    let below : At inputs root (suc j) a = (n, rw e refl, p) in (
      IsAbsent-from n (nodes (tree inputs k a)) (λ m i same. let r = in_tree inputs k a m i in not_itself inputs root depth j n a r.0 h p below (subst (Below inputs a r.0) same r.1)),
      more a below,
    )
different_by inputs root depth k j n h p more (Some (two_inputs a b)) e =
    let left : At inputs root (suc j) a = (n, rw e (inl refl), p) in
    let right : At inputs root (suc j) b = (n, rw e (inr refl), p) in (
      IsAbsent-append n (nodes (tree inputs k a)) (nodes (tree inputs k b))
          (IsAbsent-from n (nodes (tree inputs k a)) (λ m i same. let r = in_tree inputs k a m i in not_itself inputs root depth j n a r.0 h p left (subst (Below inputs a r.0) same r.1)))
          (IsAbsent-from n (nodes (tree inputs k b)) (λ m i same. let r = in_tree inputs k b m i in not_itself inputs root depth j n b r.0 h p right (subst (Below inputs b r.0) same r.1))),
      AreDifferent-append (nodes (tree inputs k a)) (nodes (tree inputs k b)) (more a left) (more b right)
          (λ m i u. let r = in_tree inputs k a m i in let s = in_tree inputs k b m u in not_both inputs root depth j n a b r.0 s.0 m h e left right r.1 s.1),
    )

pub tree-different : (inputs : List Inputs) (root depth k j n : ℕ) → IsFlow inputs root depth → At inputs root j n → AreDifferent (nodes (tree inputs k n))
tree-different inputs root depth zero j n h p = (tt, tt)
tree-different inputs root depth (suc k) j n h p =
    different_by inputs root depth k j n h p (λ a below. tree-different inputs root depth k (suc j) a h below) (slice_get inputs n) refl

-- ---- all numbers are in it

input_of_root : (inputs : List Inputs) (n m : ℕ) (x : Inputs) → slice_get inputs n ≡ Some x → Reads inputs n m → IsInput (Some x) m
input_of_root inputs n m x e r = subst (λ (o : Option Inputs). IsInput o m) e r

-- If a number is in the tree, what it reads is too.
input-IsIn : (inputs : List Inputs) (p m : ℕ) (t : PlanTree) → Follows inputs t → IsIn p (nodes t) → Reads inputs p m → IsIn m (nodes t)
input-IsIn inputs p m (leaf n) f (inl e) r = absurd (input_of_root inputs n m no_input f (subst (λ (x : ℕ). Reads inputs x m) e r))
input-IsIn inputs p m (leaf n) f (inr i) r = absurd i
input-IsIn inputs p m (over n t) f (inl e) r =
    let same = input_of_root inputs n m (one_input (root_of t)) f.0 (subst (λ (x : ℕ). Reads inputs x m) e r) in
    inr (subst (λ (x : ℕ). IsIn x (nodes t)) (sym same) (root-nodes t))
input-IsIn inputs p m (over n t) f (inr i) r = inr (input-IsIn inputs p m t f.1 i r)
input-IsIn inputs p m (both n t u) f (inl e) r =
    elim (input_of_root inputs n m (two_inputs (root_of t) (root_of u)) f.0 (subst (λ (x : ℕ). Reads inputs x m) e r)) as (λ _. IsIn m (nodes (both n t u))) [
      | inl same ↦ inr (IsIn-left m (nodes t) (nodes u) (subst (λ (x : ℕ). IsIn x (nodes t)) (sym same) (root-nodes t)))
      | inr same ↦ inr (IsIn-right m (nodes t) (nodes u) (subst (λ (x : ℕ). IsIn x (nodes u)) (sym same) (root-nodes u)))
    ]
input-IsIn inputs p m (both n t u) f (inr i) r = elim (IsIn-parts p (nodes t) (nodes u) i) as (λ _. IsIn m (nodes (both n t u))) [
  | inl k ↦ inr (IsIn-left m (nodes t) (nodes u) (input-IsIn inputs p m t f.1 k r))
  | inr k ↦ inr (IsIn-right m (nodes t) (nodes u) (input-IsIn inputs p m u f.2 k r))
]

at-IsIn : (inputs : List Inputs) (root j m : ℕ) (t : PlanTree) → root_of t ≡ root → Follows inputs t → At inputs root j m → IsIn m (nodes t)
at-IsIn inputs root zero m t e f p = subst (λ (x : ℕ). IsIn x (nodes t)) (e ∙ sym p) (root-nodes t)
at-IsIn inputs root (suc j) m t e f p = input-IsIn inputs p.0 m t f (at-IsIn inputs root j p.0 t e f p.2) p.1

-- ---- how many they are

numbers_below-lt : (n m : ℕ) → IsIn m (numbers_below n) → m < n
numbers_below-lt zero m i = absurd i
numbers_below-lt (suc n) m (inl e) = omega (arith, e)
numbers_below-lt (suc n) m (inr i) = omega (arith, numbers_below-lt n m i)

numbers_below-different : (n : ℕ) → AreDifferent (numbers_below n)
numbers_below-different zero = tt
numbers_below-different (suc n) = (IsAbsent-from n (numbers_below n) (λ m i e. omega (arith, numbers_below-lt n m i, e)), numbers_below-different n)

length-numbers_below : (n : ℕ) → length (numbers_below n) ≡ n
length-numbers_below zero = refl
length-numbers_below (suc n) = ap suc (length-numbers_below n)

-- the operators of a tree
abbrev inner : PlanTree → List ℕ
inner (leaf n) = []
inner (over n t) = n ∷ inner t
inner (both n t u) = n ∷ (inner t ++ inner u)

inner-in : (m : ℕ) (t : PlanTree) → IsIn m (inner t) → IsIn m (nodes t)
inner-in m (leaf n) i = absurd i
inner-in m (over n t) (inl e) = inl e
inner-in m (over n t) (inr i) = inr (inner-in m t i)
inner-in m (both n t u) (inl e) = inl e
inner-in m (both n t u) (inr i) = elim (IsIn-parts m (inner t) (inner u) i) as (λ _. IsIn m (nodes (both n t u))) [
  | inl k ↦ inr (IsIn-left m (nodes t) (nodes u) (inner-in m t k))
  | inr k ↦ inr (IsIn-right m (nodes t) (nodes u) (inner-in m u k))
]

IsAbsent-inner : (n : ℕ) (t : PlanTree) (ms : List ℕ) → ((m : ℕ) → IsIn m (inner t) → IsIn m ms) → IsAbsent n ms → IsAbsent n (inner t)
IsAbsent-inner n t ms h a = IsAbsent-from n (inner t) (λ m i e. IsAbsent-not n ms a (subst (λ (k : ℕ). IsIn k ms) e (h m i)))

inner-different : (t : PlanTree) → AreDifferent (nodes t) → AreDifferent (inner t)
inner-different (leaf n) d = tt
inner-different (over n t) d = (IsAbsent-inner n t (nodes t) (λ m i. inner-in m t i) d.0, inner-different t d.1)
inner-different (both n t u) d =
    let parts = AreDifferent-parts (nodes t) (nodes u) d.1 in (
      IsAbsent-append n (inner t) (inner u)
          (IsAbsent-inner n t (nodes t ++ nodes u) (λ m i. IsIn-left m (nodes t) (nodes u) (inner-in m t i)) d.0)
          (IsAbsent-inner n u (nodes t ++ nodes u) (λ m i. IsIn-right m (nodes t) (nodes u) (inner-in m u i)) d.0),
      AreDifferent-append (inner t) (inner u) (inner-different t parts.0) (inner-different u parts.1) (λ m i k. parts.2 m (inner-in m t i) (inner-in m u k)),
    )

-- a tree has at most one more leaf than operators
few_leaves : (t : PlanTree) → length (nodes t) ≤ length (inner t) + length (inner t) + 1
few_leaves (leaf n) = omega arith
few_leaves (over n t) = omega (arith, few_leaves t)
few_leaves (both n t u) =
    omega (arith, few_leaves t, few_leaves u, length-append (nodes t) (nodes u), length-append (inner t) (inner u))

-- the numbers that read something, counted from n
abbrev pub readers_from : ℕ → List Inputs → List ℕ
readers_from n [] = []
readers_from n (no_input ∷ inputs) = readers_from (suc n) inputs
readers_from n (one_input a ∷ inputs) = n ∷ readers_from (suc n) inputs
readers_from n (two_inputs a b ∷ inputs) = n ∷ readers_from (suc n) inputs

abbrev IsReader : Option Inputs → Type 0
IsReader None = ⊥
IsReader (Some no_input) = ⊥
IsReader (Some (one_input a)) = Unit {0}
IsReader (Some (two_inputs a b)) = Unit {0}

reader_in : (n k m : ℕ) (inputs : List Inputs) → m ≡ n + k → IsReader (slice_get inputs k) → IsIn m (readers_from n inputs)
reader_in n k m [] e r = absurd r
reader_in n zero m (no_input ∷ inputs) e r = absurd r
reader_in n zero m (one_input a ∷ inputs) e r = inl (omega (arith, e))
reader_in n zero m (two_inputs a b ∷ inputs) e r = inl (omega (arith, e))
reader_in n (suc k) m (no_input ∷ inputs) e r = reader_in (suc n) k m inputs (omega (arith, e)) r
reader_in n (suc k) m (one_input a ∷ inputs) e r = inr (reader_in (suc n) k m inputs (omega (arith, e)) r)
reader_in n (suc k) m (two_inputs a b ∷ inputs) e r = inr (reader_in (suc n) k m inputs (omega (arith, e)) r)

inner_reads : (inputs : List Inputs) (m : ℕ) (t : PlanTree) → Follows inputs t → IsIn m (inner t) → IsReader (slice_get inputs m)
inner_reads inputs m (leaf n) f i = absurd i
inner_reads inputs m (over n t) f (inl e) = rw (e, f.0) tt
inner_reads inputs m (over n t) f (inr i) = inner_reads inputs m t f.1 i
inner_reads inputs m (both n t u) f (inl e) = rw (e, f.0) tt
inner_reads inputs m (both n t u) f (inr i) = elim (IsIn-parts m (inner t) (inner u) i) as (λ _. IsReader (slice_get inputs m)) [
  | inl k ↦ inner_reads inputs m t f.1 k
  | inr k ↦ inner_reads inputs m u f.2 k
]

-- ---- the whole

-- the tree that follows the inputs, with every number once
pub record IsWhole (inputs : List Inputs) (root : ℕ) (t : PlanTree) : Type 0 where
  pub rooted : root_of t ≡ root
  pub follows : Follows inputs t
  pub different : AreDifferent (nodes t)
  pub all : (m : ℕ) → m < length inputs → has m t ≡ true
  pub within : (m : ℕ) → IsIn m (nodes t) → m < length inputs
  pub few : length inputs ≤ length (readers_from 0 inputs) + length (readers_from 0 inputs) + 1

pub whole_tree : (inputs : List Inputs) (root depth : ℕ) → IsFlow inputs root depth → (t : PlanTree) × IsWhole inputs root t
whole_tree inputs root depth h =
    let t = tree inputs (suc depth) root in
    let top : At inputs root zero root = refl in
    let follows = tree-follows inputs root depth (suc depth) zero root h top (omega arith) in
    let different = tree-different inputs root depth (suc depth) zero root h top in
    let is_in : (m : ℕ) → m < length inputs → IsIn m (nodes t) = λ m lt. let r = h.reached m lt in at-IsIn inputs root r.0 m t (tree-root inputs (suc depth) root) follows r.2 in
    let enough = length-le_from_different (numbers_below (length inputs)) (nodes t) (numbers_below-different (length inputs)) (λ m i. is_in m (numbers_below-lt (length inputs) m i)) in
    let operators = length-le_from_different (inner t) (readers_from 0 inputs) (inner-different t different) (λ m i. reader_in 0 m m inputs (omega arith) (inner_reads inputs m t follows i)) in (
      t,
      record {
        rooted = tree-root inputs (suc depth) root;
        follows = follows;
        different = different;
        all = λ m lt. has-nodes m t (is_in m lt);
        within = λ m i. let r = in_tree inputs (suc depth) root m i in let at = At-below inputs root zero root r.0 m top r.1 in At-within inputs root depth at.0 m h at.2;
        few = omega (arith, enough, operators, few_leaves t, length-numbers_below (length inputs));
      },
    )
