-- Which plan a list of nodes represents, and which parts of the list represent the plans of its inputs.
use Rattle.std.proofs.Common.{◌≡◌, ◌≢◌, ◌≤◌, ◌+◌, ◌-◌, ◌++◌, ℕ, List, [], ◌∷◌, length, refl, ap, sym, ◌∙◌, subst, take, drop, arith, length-append, append-nil}
use Rattle.std.specs.Prelude.{slice_get, slice_range, Some}
use Rattle.std.proofs.lemmas.List.{take_at, drop_at, take_all}
use Rattle.plan_trees.specs.declared.preorders.Node.{Node}
use Rattle.plan_trees.specs.Plans.{PlanTree, leaf, over, both, node_limit, root_of, IsPlan}
use Rattle.plan_trees.specs.PlanCode.{some_node, tree_of-preorder_of}
use Rattle.plan_trees.specs.Preorders.{count_of, preorder_of, tree_of, ShowsPlan}
use Rattle.plan_trees.proofs.BelowRoot.{input_plan, left_plan, right_plan}
use Rattle.plan_trees.proofs.FewNodes.{few_nodes}

pub length-preorder_of : (t : PlanTree) → length (preorder_of t) ≡ count_of t
length-preorder_of (leaf n) = refl
length-preorder_of (over n t) = omega (arith, length-preorder_of t)
length-preorder_of (both n t u) = omega (arith, length-preorder_of t, length-preorder_of u, length-append (preorder_of t) (preorder_of u))

-- ---- the nodes of a plan

-- these are the nodes of that plan
pub record Shows (xs : List Node) (t : PlanTree) : Type 0 where
  pub nodes : xs ≡ preorder_of t
  pub plan : IsPlan t
  pub length : length xs ≡ count_of t
  pub few : count_of t ≤ node_limit

pub shows : (xs : List Node) (t : PlanTree) → xs ≡ preorder_of t → IsPlan t → Shows xs t
shows xs t e h = record { nodes = e; plan = h; length = ap length e ∙ length-preorder_of t; few = few_nodes t h }

pub told : (xs : List Node) (t : PlanTree) → ShowsPlan xs → tree_of xs ≡ t → Shows xs t
told xs t h e = shows xs t (sym h.shown ∙ ap preorder_of e) (subst IsPlan e h.plan)

pub tree_is : (xs : List Node) (t : PlanTree) → Shows xs t → tree_of xs ≡ t
tree_is xs t h = ap tree_of h.nodes ∙ tree_of-preorder_of t

pub shows_plan : (xs : List Node) (t : PlanTree) → Shows xs t → ShowsPlan xs
shows_plan xs t h =
    let e = tree_is xs t h in
    record { shown = ap preorder_of e ∙ sym h.nodes; plan = subst IsPlan (sym e) h.plan }

pub moved : {xs ys : List Node} {t : PlanTree} → xs ≡ ys → Shows ys t → Shows xs t
moved {xs = xs} {t = t} e h = shows xs t (e ∙ h.nodes) h.plan

-- ---- plans made of others

-- one node before those of the input
pub over_shown : (xs ys zs : List Node) (t : PlanTree) (n k : ℕ) → Shows xs t → k ≡ length xs → ys ≡ record { at = n; count = 1 + k } ∷ [] → zs ≡ ys ++ xs → IsPlan (over n t) → Shows zs (over n t)
over_shown xs ys zs t n k input e f g h =
    let same : k ≡ count_of t = e ∙ input.length in
    shows zs (over n t) (g ∙ ap (λ (l : List Node). l ++ xs) f ∙ (λ i. record { at = n; count = 1 + same i } ∷ input.nodes i)) h

-- one node before those of two inputs
pub both_shown : (xs ys root first zs : List Node) (t u : PlanTree) (n k j : ℕ) → Shows xs t → Shows ys u → k ≡ length xs → j ≡ length ys
    → root ≡ record { at = n; count = 1 + k + j } ∷ [] → first ≡ root ++ xs → zs ≡ first ++ ys → IsPlan (both n t u) → Shows zs (both n t u)
both_shown xs ys root first zs t u n k j left right e f g p q h =
    let same : 1 + k + j ≡ 1 + (count_of t + count_of u) = omega (arith, left.length, right.length) in
    shows zs (both n t u)
    (q ∙ ap (λ (l : List Node). l ++ ys) (p ∙ ap (λ (l : List Node). l ++ xs) g) ∙ (λ i. record { at = n; count = same i } ∷ (left.nodes i ++ right.nodes i))) h

-- ---- the inputs of a root

root_node : (t : PlanTree) (x : Node) → slice_get (preorder_of t) 0 ≡ Some x → (x.at ≡ root_of t) × (x.count ≡ count_of t)
root_node (leaf n) x h = (cc, cc)
root_node (over n t) x h = (cc, cc)
root_node (both n t u) x h = (cc, cc)

left_node : (t : PlanTree) (rest : List Node) (x : Node) → slice_get (preorder_of t ++ rest) 0 ≡ Some x → x.count ≡ count_of t
left_node (leaf n) rest x h = cc
left_node (over n t) rest x h = cc
left_node (both n t u) rest x h = cc

-- the count in a plan's first node is the number of all its nodes
pub record IsRoot (xs : List Node) (t : PlanTree) (x : Node) : Type 0 where
  pub count : x.count ≡ length xs
  pub some : 1 ≤ length xs

pub is_root : (xs : List Node) (t : PlanTree) (x : Node) → Shows xs t → slice_get xs 0 ≡ Some x → IsRoot xs t x
is_root xs t x h e =
    let p = root_node t x (subst (λ (l : List Node). slice_get l 0 ≡ Some x) h.nodes e) in
    record { count = p.1 ∙ sym h.length; some = omega (arith, h.length, some_node t) }

within : (t : PlanTree) (y : Node) → slice_get (preorder_of t) 1 ≡ Some y → 1 + y.count ≤ count_of t
within (leaf n) y h = absurd (cc)
within (over n t) y h = omega (arith, (root_node t y h).1)
within (both n t u) y h = omega (arith, left_node t (preorder_of u) y h)

-- where the tree that begins at the second node ends
pub within_plan : (xs : List Node) (t : PlanTree) (y : Node) → Shows xs t → slice_get xs 1 ≡ Some y → 1 + y.count ≤ length xs
within_plan xs t y h e = omega (arith, h.length, within t y (subst (λ (l : List Node). slice_get l 1 ≡ Some y) h.nodes e))

-- the node n over one input, whose nodes are those from the second one up to the place m
pub record OneInput (xs : List Node) (t : PlanTree) (n m : ℕ) : Type 0 where
  pub input : PlanTree
  pub is : t ≡ over n input
  pub shown : Shows (slice_range xs 1 m) input

-- the node n over two inputs: the nodes of the first end at the place m, those of the second begin there and end at the
-- place k
pub record TwoInputs (xs : List Node) (t : PlanTree) (n m k : ℕ) : Type 0 where
  pub left : PlanTree
  pub right : PlanTree
  pub is : t ≡ both n left right
  pub shown_left : Shows (slice_range xs 1 m) left
  pub shown_right : Shows (slice_range xs m k) right

front_part : (x : Node) (ys zs : List Node) (m : ℕ) → m ≡ 1 + length ys → slice_range (x ∷ (ys ++ zs)) 1 m ≡ ys
front_part x ys zs m e = take_at ys zs (m - 1) (omega arith)

back_part : (x : Node) (ys zs : List Node) (m k : ℕ) → m ≡ 1 + length ys → k ≡ m + length zs → slice_range (x ∷ (ys ++ zs)) m k ≡ zs
back_part x ys zs m k e f =
    let rest : drop m (x ∷ (ys ++ zs)) ≡ zs = drop_at (x ∷ ys) zs m (omega arith) in
    ap (λ (l : List Node). take (k - m) l) rest ∙ take_all (k - m) zs (omega arith)

one_listed : (t : PlanTree) (x y : Node) → IsPlan t → slice_get (preorder_of t) 0 ≡ Some x → slice_get (preorder_of t) 1 ≡ Some y → 1 + y.count ≡ x.count
    → OneInput (preorder_of t) t x.at (1 + y.count)
one_listed (leaf n) x y h e f one = absurd (cc)
one_listed (over n t) x y h e f one =
    let p = root_node (over n t) x e in
    let whole : preorder_of t ++ [] ≡ preorder_of t = append-nil (preorder_of t) in
    let part = front_part (record { at = n; count = 1 + count_of t }) (preorder_of t) [] (1 + y.count) (omega (arith, p.1, length-preorder_of t)) in
    record {
      input = t;
      is = ap (λ (k : ℕ). over k t) (sym p.0);
      shown = shows _ t (ap (λ (l : List Node). slice_range (record { at = n; count = 1 + count_of t } ∷ l) 1 (1 + y.count)) (sym whole) ∙ part) (input_plan n t h);
    }
one_listed (both n t u) x y h e f one =
    absurd (omega (arith, (root_node (both n t u) x e).1, left_node t (preorder_of u) y f, some_node u))

two_listed : (t : PlanTree) (x y : Node) → IsPlan t → slice_get (preorder_of t) 0 ≡ Some x → slice_get (preorder_of t) 1 ≡ Some y → 1 + y.count ≢ x.count
    → TwoInputs (preorder_of t) t x.at (1 + y.count) x.count
two_listed (leaf n) x y h e f two = absurd (cc)
two_listed (over n t) x y h e f two =
    absurd (two (omega (arith, (root_node (over n t) x e).1, (root_node t y f).1)))
two_listed (both n t u) x y h e f two =
    let p = root_node (both n t u) x e in
    let q = left_node t (preorder_of u) y f in
    let root : Node = record { at = n; count = 1 + (count_of t + count_of u) } in
    record {
      left = t;
      right = u;
      is = ap (λ (k : ℕ). both k t u) (sym p.0);
      shown_left = shows _ t (front_part root (preorder_of t) (preorder_of u) (1 + y.count) (omega (arith, length-preorder_of t))) (left_plan n t u h);
      shown_right = shows _ u (back_part root (preorder_of t) (preorder_of u) (1 + y.count) x.count (omega (arith, length-preorder_of t)) (omega (arith, p.1, length-preorder_of u)))
          (right_plan n t u h);
    }

pub one_input : (xs : List Node) (t : PlanTree) (x y : Node) → Shows xs t → slice_get xs 0 ≡ Some x → slice_get xs 1 ≡ Some y → 1 + y.count ≡ x.count
    → OneInput xs t x.at (1 + y.count)
one_input xs t x y h e f one =
    let first = subst (λ (l : List Node). slice_get l 0 ≡ Some x) h.nodes e in
    let second = subst (λ (l : List Node). slice_get l 1 ≡ Some y) h.nodes f in
    subst (λ (l : List Node). OneInput l t x.at (1 + y.count)) (sym h.nodes) (one_listed t x y h.plan first second one)

pub two_inputs : (xs : List Node) (t : PlanTree) (x y : Node) → Shows xs t → slice_get xs 0 ≡ Some x → slice_get xs 1 ≡ Some y → 1 + y.count ≢ x.count
    → TwoInputs xs t x.at (1 + y.count) x.count
two_inputs xs t x y h e f two =
    let first = subst (λ (l : List Node). slice_get l 0 ≡ Some x) h.nodes e in
    let second = subst (λ (l : List Node). slice_get l 1 ≡ Some y) h.nodes f in
    subst (λ (l : List Node). TwoInputs l t x.at (1 + y.count) x.count) (sym h.nodes) (two_listed t x y h.plan first second two)
