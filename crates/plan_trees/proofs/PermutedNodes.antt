-- Trees over the same nodes: if one is a plan the other is one, and they have the same numbers.
use Rattle.std.proofs.Common.{◌≡◌, ◌<◌, inl, inr, ℕ, true, List, sym}
use Rattle.pact_record.proofs.Permutations.{Perm, nothing, keeps, swaps, chains, same, both_parts, each_perm}
use Rattle.plan_trees.specs.Distinct.{AreDifferent, IsAbsent}
use Rattle.plan_trees.specs.Plans.{PlanTree, has, node_limit, nodes, IsPlan}
use Rattle.plan_trees.proofs.DifferentNumbers.{IsIn}
use Rattle.plan_trees.proofs.InPlace.{IsKept}
use Rattle.plan_trees.proofs.NodesOfTrees.{has-nodes, nodes-has}

-- ---- lists of numbers

absent_perm : (n : ℕ) {ms ns : List ℕ} → Perm ms ns → IsAbsent n ms → IsAbsent n ns
absent_perm n nothing h = h
absent_perm n (keeps p) h = (h.0, absent_perm n p h.1)
absent_perm n swaps h = (h.1.0, (h.0, h.1.1))
absent_perm n (chains p q) h = absent_perm n q (absent_perm n p h)

pub different_perm : {ms ns : List ℕ} → Perm ms ns → AreDifferent ms → AreDifferent ns
different_perm nothing h = h
different_perm (keeps {x = x} p) h = (absent_perm x p h.0, different_perm p h.1)
different_perm swaps h = (((λ e. h.0.0 (sym e)), h.1.0), (h.0.1, h.1.1))
different_perm (chains p q) h = different_perm q (different_perm p h)

in_perm : (n : ℕ) {ms ns : List ℕ} → Perm ms ns → IsIn n ms → IsIn n ns
in_perm n nothing h = h
in_perm n (keeps p) (inl e) = inl e
in_perm n (keeps p) (inr h) = inr (in_perm n p h)
in_perm n swaps (inl e) = inr (inl e)
in_perm n swaps (inr (inl e)) = inl e
in_perm n swaps (inr (inr h)) = inr (inr h)
in_perm n (chains p q) h = in_perm n q (in_perm n p h)

-- ---- trees

pub has_perm : (n : ℕ) (t u : PlanTree) → Perm (nodes t) (nodes u) → has n t ≡ true → has n u ≡ true
has_perm n t u p h = has-nodes n u (in_perm n p (nodes-has n t h))

pub plan_perm : (t u : PlanTree) → Perm (nodes t) (nodes u) → IsPlan t → IsPlan u
plan_perm t u p h = record { below = each_perm (λ n. n < node_limit) p h.below; different = different_perm p h.different }

pub nodes_kept : IsKept (λ t u. Perm (nodes t) (nodes u))
nodes_kept = record {
  self = λ t. same (nodes t);
  under_one = λ n t u e. keeps e;
  under_two = λ n t u v w e f. keeps (both_parts e f);
}
