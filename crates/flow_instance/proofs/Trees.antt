-- Properties of each subtree.
use Rattle.std.proofs.Common.{◌≡◌, ◌++◌, ◌||◌, ◌==◌, inl, inr, ℕ, true, false, Some, None, Option, refl, subst, sym}
use Rattle.std.proofs.lemmas.Bool.{eq-eqb, eqb-true, false_from_ne_true, or_cases, or_left, or_right, or_parts}
use Rattle.plan_trees.specs.Distinct.{AreDifferent}
use Rattle.plan_trees.specs.Plans.{PlanTree, leaf, over, both, has, nodes, root_of}
use Rattle.plan_trees.specs.Physicals.{has_edge}
use Rattle.plan_trees.proofs.DifferentNumbers.{AreDifferent-parts, IsIn-left, IsIn-right}
use Rattle.plan_trees.proofs.EverySubtree.{AllBelow, other_than}
use Rattle.plan_trees.proofs.NodesOfTrees.{nodes-has}
use Rattle.plan_trees.proofs.SubtreesOfPlans.{has-root}
use Rattle.flow_instance.specs.Worlds.{reader_of}

-- a property of the root of each subtree holds for each number
pub each_below : (P : ℕ → Type 0) (t : PlanTree) → AllBelow (λ s. P (root_of s)) t → (m : ℕ) → has m t ≡ true → P m
each_below P (leaf n) h m there = subst P (sym (eqb-true m n there)) h
each_below P (over n t) h m there = elim (or_cases (m == n) (has m t) there) as (λ _. P m) [
  | inl e ↦ subst P (sym (eqb-true m n e)) h.0
  | inr below ↦ each_below P t h.1 m below
]
each_below P (both n t u) h m there = elim (or_cases (m == n) (has m t || has m u) there) as (λ _. P m) [
  | inl e ↦ subst P (sym (eqb-true m n e)) h.0
  | inr below ↦ elim (or_cases (has m t) (has m u) below) as (λ _. P m) [
    | inl left ↦ each_below P t h.1 m left
    | inr right ↦ each_below P u h.2 m right
  ]
]

pub not_root : (e : ℕ) (t : PlanTree) → has e t ≡ false → (e == root_of t) ≡ false
not_root e (leaf n) h = h
not_root e (over n t) h = (or_parts (e == n) (has e t) h).0
not_root e (both n t u) h = (or_parts (e == n) (has e t || has e u) h).0

-- ---- who reads an edge

abbrev pub Reads : (ℕ → Option (ℕ × ℕ)) → PlanTree → Type 0
Reads reader (leaf n) = Unit {0}
Reads reader (over n t) = reader (root_of t) ≡ Some (n, 0)
Reads reader (both n t u) = (reader (root_of t) ≡ Some (n, 0)) × (reader (root_of u) ≡ Some (n, 1))

-- the second function gives the same reader as the first for every edge inside the tree
abbrev Carries : (ℕ → Option (ℕ × ℕ)) → (ℕ → Option (ℕ × ℕ)) → PlanTree → Type 0
Carries f h t = (e : ℕ) (x : ℕ × ℕ) → has e t ≡ true → (e == root_of t) ≡ false → f e ≡ Some x → h e ≡ Some x

carried : (f h : ℕ → Option (ℕ × ℕ)) (t : PlanTree) → AreDifferent (nodes t) → Carries f h t → AllBelow (Reads f) t → AllBelow (Reads h) t
carried f h (leaf n) d c r = tt
carried f h (over n t) d c r =
    let inside : (e : ℕ) → has e t ≡ true → (e == n) ≡ false = λ e there. other_than n e (nodes t) d.0 (nodes-has e t there) in (
      c (root_of t) (n, 0) (or_right (root_of t == n) (has (root_of t) t) (has-root t)) (inside (root_of t) (has-root t)) r.0,
      carried f h t d.1 (λ e x there other s. c e x (or_right (e == n) (has e t) there) (inside e there) s) r.1,
    )
carried f h (both n t u) d c r =
    let parts = AreDifferent-parts (nodes t) (nodes u) d.1 in
    let left : (e : ℕ) → has e t ≡ true → (e == n) ≡ false = λ e there. other_than n e (nodes t ++ nodes u) d.0 (IsIn-left e (nodes t) (nodes u) (nodes-has e t there)) in
    let right : (e : ℕ) → has e u ≡ true → (e == n) ≡ false = λ e there. other_than n e (nodes t ++ nodes u) d.0 (IsIn-right e (nodes t) (nodes u) (nodes-has e u there)) in
    let in_left : (e : ℕ) → has e t ≡ true → has e (both n t u) ≡ true = λ e there. or_right (e == n) (has e t || has e u) (or_left (has e t) (has e u) there) in
    let in_right : (e : ℕ) → has e u ≡ true → has e (both n t u) ≡ true = λ e there. or_right (e == n) (has e t || has e u) (or_right (has e t) (has e u) there) in (
      (
        c (root_of t) (n, 0) (in_left (root_of t) (has-root t)) (left (root_of t) (has-root t)) r.0.0,
        c (root_of u) (n, 1) (in_right (root_of u) (has-root u)) (right (root_of u) (has-root u)) r.0.1,
      ),
      carried f h t parts.0 (λ e x there other s. c e x (in_left e there) (left e there) s) r.1,
      carried f h u parts.1 (λ e x there other s. c e x (in_right e there) (right e there) s) r.2,
    )

-- an edge that doesn't exist has no reader
pub no_reader : (e : ℕ) (t : PlanTree) → has e t ≡ false → reader_of e t ≡ None
no_reader e (leaf n) h = refl
no_reader e (over n t) h =
    let other : has e t ≡ false = (or_parts (e == n) (has e t) h).1 in
    let top : (e == root_of t) ≡ false = not_root e t other in
    rw top (no_reader e t other)
no_reader e (both n t u) h =
    let others = or_parts (has e t) (has e u) (or_parts (e == n) (has e t || has e u) h).1 in
    rw (not_root e t others.0, not_root e u others.1, no_reader e t others.0) (no_reader e u others.1)

pub read : (t : PlanTree) → AreDifferent (nodes t) → AllBelow (Reads (λ e. reader_of e t)) t
read (leaf n) d = tt
read (over n t) d = (
  rw (eq-eqb (root_of t) (root_of t) refl) refl,
  carried (λ e. reader_of e t) (λ e. reader_of e (over n t)) t d.1 (λ e x there other s. rw other s) (read t d.1),
)
read (both n t u) d =
    let parts = AreDifferent-parts (nodes t) (nodes u) d.1 in
    let apart : (e : ℕ) → has e u ≡ true → has e t ≡ false = λ e there. false_from_ne_true (has e t) (λ (left : has e t ≡ true). parts.2 e (nodes-has e t left) (nodes-has e u there)) in
    let apart_too : (e : ℕ) → has e t ≡ true → has e u ≡ false = λ e there. false_from_ne_true (has e u) (λ (right : has e u ≡ true). parts.2 e (nodes-has e t there) (nodes-has e u right)) in (
      (
        rw (eq-eqb (root_of t) (root_of t) refl) refl,
        rw (not_root (root_of u) t (apart (root_of u) (has-root u)), eq-eqb (root_of u) (root_of u) refl) refl,
      ),
      carried (λ e. reader_of e t) (λ e. reader_of e (both n t u)) t parts.0 (λ e x there other s. rw (other, not_root e u (apart_too e there), s) refl) (read t parts.0),
      carried (λ e. reader_of e u) (λ e. reader_of e (both n t u)) u parts.1
          (λ e x there other s. rw (not_root e t (apart e there), other, no_reader e t (apart e there)) s) (read u parts.1),
    )

-- ---- all but the root have an edge

pub within : (P : ℕ → Type 0) (t : PlanTree) → ((m : ℕ) → has m t ≡ true → P m) → AllBelow (λ s. P (root_of s)) t
within P (leaf n) h = h n (eq-eqb n n refl)
within P (over n t) h = (h n (has-root (over n t)), within P t (λ m there. h m (or_right (m == n) (has m t) there)))
within P (both n t u) h = (
  h n (has-root (both n t u)),
  within P t (λ m there. h m (or_right (m == n) (has m t || has m u) (or_left (has m t) (has m u) there))),
  within P u (λ m there. h m (or_right (m == n) (has m t || has m u) (or_right (has m t) (has m u) there))),
)

-- a property of the trees below a tree, without the tree itself
abbrev pub Inside : (PlanTree → Type 0) → PlanTree → Type 0
Inside P (leaf n) = Unit {0}
Inside P (over n t) = AllBelow P t
Inside P (both n t u) = AllBelow P t × AllBelow P u

pub inside_of : (P : PlanTree → Type 0) (t : PlanTree) → AllBelow P t → Inside P t
inside_of P (leaf n) h = tt
inside_of P (over n t) h = h.1
inside_of P (both n t u) h = (h.1, h.2)

abbrev pub HasEdge : PlanTree → PlanTree → Type 0
HasEdge tree s = has_edge (root_of s) tree ≡ true

pub edges : (t : PlanTree) → AreDifferent (nodes t) → Inside (HasEdge t) t
edges (leaf n) d = tt
edges (over n t) d = within (λ m. has_edge m (over n t) ≡ true) t (λ m there.
    let other : (m == n) ≡ false = other_than n m (nodes t) d.0 (nodes-has m t there) in
    rw (other, there) refl)
edges (both n t u) d = (
  within (λ m. has_edge m (both n t u) ≡ true) t (λ m there.
      let other : (m == n) ≡ false = other_than n m (nodes t ++ nodes u) d.0 (IsIn-left m (nodes t) (nodes u) (nodes-has m t there)) in
      rw (other, there) refl),
  within (λ m. has_edge m (both n t u) ≡ true) u (λ m there.
      let other : (m == n) ≡ false = other_than n m (nodes t ++ nodes u) d.0 (IsIn-right m (nodes t) (nodes u) (nodes-has m u there)) in
      rw (other, there, or_right (has m t) true refl) refl),
)
