-- A draft has at most one plan as written: from a root on, only one tree follows what is read.
use Rattle.std.proofs.Common.{◌≡◌, ◌<◌, ℕ, Some, List, [], ◌∷◌, length, slice_get, ap, sym, ◌∙◌, subst}
use Rattle.std.proofs.lemmas.Option.{slice_get_within}
use Rattle.plan_trees.specs.Plans.{PlanTree, leaf, over, both, root_of}
use Rattle.tac_syntax.specs.Drafts.{DraftData}
use Rattle.pact_operators.specs.Programs.{Follows, IsWrittenPlan}
use Rattle.pact_operators.specs.Resolved.{Inputs, no_input, one_input, two_inputs, inputs_of, node_names}

pub at_root : (inputs : List Inputs) (n m : ℕ) (x : Inputs) → n ≡ m → slice_get inputs n ≡ Some x → slice_get inputs m ≡ Some x
at_root inputs n m x e h = subst (λ (k : ℕ). slice_get inputs k ≡ Some x) e h

pub same_tree : (inputs : List Inputs) (t u : PlanTree) → Follows inputs t → Follows inputs u → root_of t ≡ root_of u → t ≡ u
same_tree inputs (leaf n) (leaf m) f g e = ap leaf e
same_tree inputs (leaf n) (over m u) f g e = let bad : Some no_input ≡ Some (one_input (root_of u)) = sym (at_root inputs n m no_input e f) ∙ g.0 in absurd cc
same_tree inputs (leaf n) (both m u w) f g e = let bad : Some no_input ≡ Some (two_inputs (root_of u) (root_of w)) = sym (at_root inputs n m no_input e f) ∙ g.0 in absurd cc
same_tree inputs (over n t) (leaf m) f g e = let bad : Some (one_input (root_of t)) ≡ Some no_input = sym (at_root inputs n m (one_input (root_of t)) e f.0) ∙ g in absurd cc
same_tree inputs (over n t) (over m u) f g e =
    let h : Some (one_input (root_of t)) ≡ Some (one_input (root_of u)) = sym (at_root inputs n m (one_input (root_of t)) e f.0) ∙ g.0 in
    let roots : root_of t ≡ root_of u = cc in
    let below : t ≡ u = same_tree inputs t u f.1 g.1 roots in
    λ i. over (e i) (below i)
same_tree inputs (over n t) (both m u w) f g e =
    let bad : Some (one_input (root_of t)) ≡ Some (two_inputs (root_of u) (root_of w)) = sym (at_root inputs n m (one_input (root_of t)) e f.0) ∙ g.0 in absurd cc
same_tree inputs (both n t s) (leaf m) f g e =
    let bad : Some (two_inputs (root_of t) (root_of s)) ≡ Some no_input = sym (at_root inputs n m (two_inputs (root_of t) (root_of s)) e f.0) ∙ g in absurd cc
same_tree inputs (both n t s) (over m u) f g e =
    let bad : Some (two_inputs (root_of t) (root_of s)) ≡ Some (one_input (root_of u)) = sym (at_root inputs n m (two_inputs (root_of t) (root_of s)) e f.0) ∙ g.0 in absurd cc
same_tree inputs (both n t s) (both m u w) f g e =
    let h : Some (two_inputs (root_of t) (root_of s)) ≡ Some (two_inputs (root_of u) (root_of w)) = sym (at_root inputs n m (two_inputs (root_of t) (root_of s)) e f.0) ∙ g.0 in
    let lefts : root_of t ≡ root_of u = cc in
    let rights : root_of s ≡ root_of w = cc in
    let left : t ≡ u = same_tree inputs t u f.1 g.1 lefts in
    let right : s ≡ w = same_tree inputs s w f.2 g.2 rights in
    λ i. both (e i) (left i) (right i)

pub same_plan : (d : DraftData) (t u : PlanTree) → IsWrittenPlan d t → IsWrittenPlan d u → t ≡ u
same_plan d t u h k =
    let roots : root_of t ∷ [] ≡ root_of u ∷ [] = sym h.root ∙ k.root in
    let root : root_of t ≡ root_of u = cc in
    same_tree (inputs_of (node_names d.decls) d.decls) t u h.follows k.follows root

-- its numbers have declarations
pub root_within : (inputs : List Inputs) (t : PlanTree) → Follows inputs t → root_of t < length inputs
root_within inputs (leaf n) f = slice_get_within inputs n no_input f
root_within inputs (over n t) f = slice_get_within inputs n (one_input (root_of t)) f.0
root_within inputs (both n t u) f = slice_get_within inputs n (two_inputs (root_of t) (root_of u)) f.0
