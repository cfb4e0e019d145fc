-- Each edge has one reader and one port.
use Rattle.std.proofs.Common.{◌≡◌, ◌++◌, ◌||◌, ◌==◌, inl, inr, ℕ, zero, suc, true, Some, None, Option, slice_get, get_or, refl, ap, subst, sym, ◌∙◌}
use Rattle.std.proofs.lemmas.Bool.{cases_Bool, eq-eqb, false_from_ne_true, eqb-true, or_left, or_right}
use Rattle.plan_trees.specs.Distinct.{AreDifferent}
use Rattle.plan_trees.specs.Plans.{PlanTree, leaf, over, both, has, nodes, root_of, subtree_of}
use Rattle.plan_trees.specs.declared.physicals.Ship.TheVariants.{Forward}
use Rattle.plan_trees.proofs.DifferentNumbers.{AreDifferent-parts, IsIn-left, IsIn-right}
use Rattle.plan_trees.proofs.NodesOfTrees.{nodes-has}
use Rattle.plan_trees.proofs.SubtreesOfPlans.{has-root, root_of-subtree}
use Rattle.flow_instance.specs.Spots.{Port, Setting, port_from, ports_of}
use Rattle.flow_instance.specs.Worlds.{reader_of, first_of}
use Rattle.plan_trees.proofs.EverySubtree.{all_below-at, other_than}
use Rattle.flow_instance.proofs.Trees.{Reads, read}

abbrev pub port_for : Setting → ℕ → Port
port_for g e = record { edge = e; ship = get_or g.physical.ships e Forward }

-- ---- from a port to its reader

port_read : (g : Setting) (f : ℕ → Option (ℕ × ℕ)) (t : PlanTree) (port : ℕ) (q : Port) → Reads f t → slice_get (ports_of g.physical t) port ≡ Some q → f q.edge ≡ Some (root_of t, port)
port_read g f (leaf n) port q r e = absurd (let none : None ≡ Some q = e in cc)
port_read g f (over n t) zero q r e = let same : port_from g.physical t ≡ q = cc in subst (λ (x : Port). f x.edge ≡ Some (n, 0)) same r
port_read g f (over n t) (suc port) q r e = absurd (let none : None ≡ Some q = e in cc)
port_read g f (both n t u) zero q r e = let same : port_from g.physical t ≡ q = cc in subst (λ (x : Port). f x.edge ≡ Some (n, 0)) same r.0
port_read g f (both n t u) (suc zero) q r e = let same : port_from g.physical u ≡ q = cc in subst (λ (x : Port). f x.edge ≡ Some (n, 1)) same r.1
port_read g f (both n t u) (suc (suc port)) q r e = absurd (let none : None ≡ Some q = e in cc)

pub reader_at : (g : Setting) (tree : PlanTree) (at port : ℕ) (q : Port) → AreDifferent (nodes tree) → has at tree ≡ true → slice_get (ports_of g.physical (subtree_of at tree)) port ≡ Some q
    → reader_of q.edge tree ≡ Some (at, port)
reader_at g tree at port q d there e =
    port_read g (λ x. reader_of x tree) (subtree_of at tree) port q (all_below-at (Reads (λ x. reader_of x tree)) at tree (read tree d) there) e
    ∙ ap (λ (n : ℕ). Some (n, port)) (root_of-subtree at tree there)

pub some_first : (a b i j : ℕ) → ◌≡◌ {A = Option (ℕ × ℕ)} (Some (a, i)) (Some (b, j)) → a ≡ b
some_first a b i j e = let same : ◌≡◌ {A = ℕ × ℕ} (a, i) (b, j) = cc in ap (λ (x : ℕ × ℕ). x.0) same

pub some_second : (a b i j : ℕ) → ◌≡◌ {A = Option (ℕ × ℕ)} (Some (a, i)) (Some (b, j)) → i ≡ j
some_second a b i j e = let same : ◌≡◌ {A = ℕ × ℕ} (a, i) (b, j) = cc in ap (λ (x : ℕ × ℕ). x.1) same

-- two ports that read the same edge are the same port
pub one_reader : (g : Setting) (tree : PlanTree) (a b i j : ℕ) (p q : Port) → AreDifferent (nodes tree) → has a tree ≡ true → has b tree ≡ true
    → slice_get (ports_of g.physical (subtree_of a tree)) i ≡ Some p → slice_get (ports_of g.physical (subtree_of b tree)) j ≡ Some q → p.edge ≡ q.edge → (a ≡ b) × (i ≡ j)
one_reader g tree a b i j p q d at_a at_b e f same =
    let both_ways : ◌≡◌ {A = Option (ℕ × ℕ)} (Some (a, i)) (Some (b, j)) = sym (reader_at g tree a i p d at_a e) ∙ ap (λ (x : ℕ). reader_of x tree) same ∙ reader_at g tree b j q d at_b f in
    (some_first a b i j both_ways, some_second a b i j both_ways)

-- ---- from a reader to its port

pub record IsFound (g : Setting) (tree : PlanTree) (edge at port : ℕ) : Type 0 where
  pub has_edge : has edge tree ≡ true
  pub has_reader : has at tree ≡ true
  pub port_is : slice_get (ports_of g.physical (subtree_of at tree)) port ≡ Some (port_for g edge)

top_subtree : (at : ℕ) (t : PlanTree) → at ≡ root_of t → subtree_of at t ≡ t
top_subtree at (leaf n) e = refl
top_subtree at (over n t) e = rw (eq-eqb at n e) refl
top_subtree at (both n t u) e = rw (eq-eqb at n e) refl

-- a port at the root of the tree
at_root : (g : Setting) (tree : PlanTree) (edge at port n i e : ℕ) → n ≡ at → i ≡ port → edge ≡ e → root_of tree ≡ n → slice_get (ports_of g.physical tree) i ≡ Some (port_for g e) → has e tree ≡ true
    → IsFound g tree edge at port
at_root g tree edge at port n i e n_is i_is e_is root port_is there =
    let top : subtree_of at tree ≡ tree = top_subtree at tree (sym n_is ∙ sym root) in
    record {
      has_edge = subst (λ (x : ℕ). has x tree ≡ true) (sym e_is) there;
      has_reader = subst (λ (x : ℕ). has x tree ≡ true) (root ∙ n_is) (has-root tree);
      port_is = ap (λ (t : PlanTree). slice_get (ports_of g.physical t) port) top ∙ ap (slice_get (ports_of g.physical tree)) (sym i_is) ∙ port_is ∙ ap (λ (x : ℕ). Some (port_for g x)) (sym e_is);
    }

-- a port below the root
below : (g : Setting) (edge at port n : ℕ) (t u : PlanTree) → AreDifferent (nodes (both n t u)) → (o : Option (ℕ × ℕ)) → o ≡ reader_of edge t → first_of o (reader_of edge u) ≡ Some (at, port)
    → (reader_of edge t ≡ Some (at, port) → IsFound g t edge at port) → (reader_of edge u ≡ Some (at, port) → IsFound g u edge at port) → IsFound g (both n t u) edge at port
below g edge at port n t u d (Some x) is e left right =
    let f = left (sym is ∙ e) in
    let not_n = other_than n at (nodes t ++ nodes u) d.0 (IsIn-left at (nodes t) (nodes u) (nodes-has at t f.has_reader)) in
    record {
      has_edge = or_right (edge == n) (has edge t || has edge u) (or_left (has edge t) (has edge u) f.has_edge);
      has_reader = or_right (at == n) (has at t || has at u) (or_left (has at t) (has at u) f.has_reader);
      port_is = rw (not_n, f.has_reader) f.port_is;
    }
below g edge at port n t u d None is e left right =
    let f = right e in
    let not_n = other_than n at (nodes t ++ nodes u) d.0 (IsIn-right at (nodes t) (nodes u) (nodes-has at u f.has_reader)) in
    let elsewhere = false_from_ne_true (has at t) (λ (l : has at t ≡ true). (AreDifferent-parts (nodes t) (nodes u) d.1).2 at (nodes-has at t l) (nodes-has at u f.has_reader)) in
    record {
      has_edge = or_right (edge == n) (has edge t || has edge u) (or_right (has edge t) (has edge u) f.has_edge);
      has_reader = or_right (at == n) (has at t || has at u) (or_right (has at t) (has at u) f.has_reader);
      port_is = rw (not_n, elsewhere) f.port_is;
    }

pub found : (g : Setting) (edge at port : ℕ) (t : PlanTree) → AreDifferent (nodes t) → reader_of edge t ≡ Some (at, port) → IsFound g t edge at port
found g edge at port (leaf n) d e = absurd (let none : ◌≡◌ {A = Option (ℕ × ℕ)} None (Some (at, port)) = e in cc)
found g edge at port (over n t) d e = elim (cases_Bool (edge == root_of t)) as (λ _. IsFound g (over n t) edge at port) [
  | inl here ↦
      let is : ◌≡◌ {A = Option (ℕ × ℕ)} (Some (n, 0)) (Some (at, port)) = sym (rw here refl) ∙ e in
      let edge_is = eqb-true edge (root_of t) here in
      at_root g (over n t) edge at port n 0 (root_of t) (some_first n at 0 port is) (some_second n at 0 port is) edge_is refl refl (or_right (root_of t == n) (has (root_of t) t) (has-root t))
  | inr other ↦
      let f = found g edge at port t d.1 (simp other at e) in
      let not_n = other_than n at (nodes t) d.0 (nodes-has at t f.has_reader) in
      record {
        has_edge = or_right (edge == n) (has edge t) f.has_edge;
        has_reader = or_right (at == n) (has at t) f.has_reader;
        port_is = rw not_n f.port_is;
      }
]
found g edge at port (both n t u) d e = elim (cases_Bool (edge == root_of t)) as (λ _. IsFound g (both n t u) edge at port) [
  | inl here ↦
      let is : ◌≡◌ {A = Option (ℕ × ℕ)} (Some (n, 0)) (Some (at, port)) = sym (rw here refl) ∙ e in
      at_root g (both n t u) edge at port n 0 (root_of t) (some_first n at 0 port is) (some_second n at 0 port is) (eqb-true edge (root_of t) here) refl refl
      (or_right (root_of t == n) (has (root_of t) t || has (root_of t) u) (or_left (has (root_of t) t) (has (root_of t) u) (has-root t)))
  | inr other ↦ elim (cases_Bool (edge == root_of u)) as (λ _. IsFound g (both n t u) edge at port) [
    | inl here ↦
        let is : ◌≡◌ {A = Option (ℕ × ℕ)} (Some (n, 1)) (Some (at, port)) = sym (rw (other, here) refl) ∙ e in
        at_root g (both n t u) edge at port n 1 (root_of u) (some_first n at 1 port is) (some_second n at 1 port is) (eqb-true edge (root_of u) here) refl refl
        (or_right (root_of u == n) (has (root_of u) t || has (root_of u) u) (or_right (has (root_of u) t) (has (root_of u) u) (has-root u)))
    | inr other_too ↦ below g edge at port n t u d (reader_of edge t) refl (simp (other, other_too) at e)
        (λ f. found g edge at port t (AreDifferent-parts (nodes t) (nodes u) d.1).0 f) (λ f. found g edge at port u (AreDifferent-parts (nodes t) (nodes u) d.1).1 f)
  ]
]

-- ---- an edge that is read exists

input_of_root : (g : Setting) (t : PlanTree) (port : ℕ) (q : Port) → slice_get (ports_of g.physical t) port ≡ Some q → has q.edge t ≡ true
input_of_root g (leaf n) port q e = absurd (let none : None ≡ Some q = e in cc)
input_of_root g (over n t) zero q e = let same : port_from g.physical t ≡ q = cc in subst (λ (x : Port). has x.edge (over n t) ≡ true) same (or_right (root_of t == n) (has (root_of t) t) (has-root t))
input_of_root g (over n t) (suc port) q e = absurd (let none : None ≡ Some q = e in cc)
input_of_root g (both n t u) zero q e = let same : port_from g.physical t ≡ q = cc in
    subst (λ (x : Port). has x.edge (both n t u) ≡ true) same (or_right (root_of t == n) (has (root_of t) t || has (root_of t) u) (or_left (has (root_of t) t) (has (root_of t) u) (has-root t)))
input_of_root g (both n t u) (suc zero) q e = let same : port_from g.physical u ≡ q = cc in
    subst (λ (x : Port). has x.edge (both n t u) ≡ true) same (or_right (root_of u == n) (has (root_of u) t || has (root_of u) u) (or_right (has (root_of u) t) (has (root_of u) u) (has-root u)))
input_of_root g (both n t u) (suc (suc port)) q e = absurd (let none : None ≡ Some q = e in cc)

subtree_has : (at e : ℕ) (t : PlanTree) → has at t ≡ true → has e (subtree_of at t) ≡ true → has e t ≡ true
subtree_has at e (leaf n) h i = i
subtree_has at e (over n t) h i = elim (cases_Bool (at == n)) as (λ _. has e (over n t) ≡ true) [
  | inl x ↦ simp x at i
  | inr x ↦ or_right (e == n) (has e t) (subtree_has at e t (simp x at h) (simp x at i))
]
subtree_has at e (both n t u) h i = elim (cases_Bool (at == n)) as (λ _. has e (both n t u) ≡ true) [
  | inl x ↦ simp x at i
  | inr x ↦ elim (cases_Bool (has at t)) as (λ _. has e (both n t u) ≡ true) [
    | inl l ↦ or_right (e == n) (has e t || has e u) (or_left (has e t) (has e u) (subtree_has at e t l (simp (x, l) at i)))
    | inr l ↦ or_right (e == n) (has e t || has e u) (or_right (has e t) (has e u) (subtree_has at e u (simp (x, l) at h) (simp (x, l) at i)))
  ]
]

pub input_there : (g : Setting) (tree : PlanTree) (at port : ℕ) (q : Port) → has at tree ≡ true → slice_get (ports_of g.physical (subtree_of at tree)) port ≡ Some q → has q.edge tree ≡ true
input_there g tree at port q there e = subtree_has at q.edge tree there (input_of_root g (subtree_of at tree) port q e)
