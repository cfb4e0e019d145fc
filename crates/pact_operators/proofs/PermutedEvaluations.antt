-- An evaluation of a plan may yield its bag in any order; what holds for its counts may be weakened; and its bag is
-- allowed.
use Rattle.std.proofs.Common.{ℕ, List, [], ◌∷◌, length, subst}
use Rattle.std.specs.List.{AllByRecursion}
use Rattle.pact_record.proofs.Lists.{AllByRecursion-left, AllByRecursion-right}
use Rattle.pact_record.proofs.Permutations.{Perm, chains, from_permutation, length-perm, to_permutation}
use Rattle.plan_trees.specs.Plans.{PlanTree, leaf, over, both, nodes}
use Rattle.pact_operators.specs.Allowed.{Allows, Bag, Evaluates}
use Rattle.pact_operators.specs.PlanOps.{PlanOps}

-- the same evaluation, if what holds for the counts of its nodes implies something weaker
pub evaluates_told : (P Q : ℕ → ℕ → Type 0) (o : PlanOps) (t : PlanTree) (bag : Bag) → AllByRecursion (λ n. (k : ℕ) → P n k → Q n k) (nodes t) → Evaluates P o t bag → Evaluates Q o t bag
evaluates_told P Q o (leaf n) bag f h = (h.0, f.0 (length bag) h.1)
evaluates_told P Q o (over n t) bag f h =
    let a = h.0 in
    (record { rows = a.rows; out = a.out; below = evaluates_told P Q o t a.rows f.1 a.below; given = a.given; permuted = a.permuted }, f.0 (length bag) h.1)
evaluates_told P Q o (both n t u) bag f h =
    let a = h.0 in (
      record {
        left_rows = a.left_rows;
        right_rows = a.right_rows;
        out = a.out;
        left_below = evaluates_told P Q o t a.left_rows (AllByRecursion-left (λ m. (k : ℕ) → P m k → Q m k) (nodes t) (nodes u) f.1) a.left_below;
        right_below = evaluates_told P Q o u a.right_rows (AllByRecursion-right (λ m. (k : ℕ) → P m k → Q m k) (nodes t) (nodes u) f.1) a.right_below;
        given = a.given;
        permuted = a.permuted;
      },
      f.0 (length bag) h.1,
    )

nothing_told : (P : ℕ → ℕ → Type 0) (ns : List ℕ) → AllByRecursion (λ n. (k : ℕ) → P n k → Unit {0}) ns
nothing_told P [] = tt
nothing_told P (n ∷ ns) = ((λ k is. tt), nothing_told P ns)

module _ (Told : ℕ → ℕ → Type 0) (o : PlanOps) where
  pub evaluates_permuted : (t : PlanTree) (bag now : Bag) → Perm bag now → Evaluates Told o t bag → Evaluates Told o t now
  evaluates_permuted (leaf n) bag now p h =
      (record { source = h.0.source; permuted = to_permutation (chains (from_permutation (o.rows n) bag h.0.permuted) p) }, subst (Told n) (length-perm p) h.1)
  evaluates_permuted (over n t) bag now p h =
      let a = h.0 in
      (record { rows = a.rows; out = a.out; below = a.below; given = a.given; permuted = to_permutation (chains (from_permutation a.out bag a.permuted) p) }, subst (Told n) (length-perm p) h.1)
  evaluates_permuted (both n t u) bag now p h =
      let a = h.0 in (
        record {
          left_rows = a.left_rows;
          right_rows = a.right_rows;
          out = a.out;
          left_below = a.left_below;
          right_below = a.right_below;
          given = a.given;
          permuted = to_permutation (chains (from_permutation a.out bag a.permuted) p);
        },
        subst (Told n) (length-perm p) h.1,
      )

  pub evaluates_allowed : (t : PlanTree) (bag : Bag) → Evaluates Told o t bag → Allows o t bag
  evaluates_allowed t bag h = evaluates_told Told (λ n k. Unit {0}) o t bag (nothing_told Told (nodes t)) h
