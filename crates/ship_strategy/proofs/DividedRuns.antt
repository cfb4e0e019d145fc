-- A physical plan of a program has legal ships, and every instance emitted its share: then its records meet, and it is
-- one evaluation of the plan, counted.
use Rattle.std.proofs.Common.{◌≡◌, ◌≤◌, ◌+◌, ◌∙◌, ℕ, zero, suc, true, Some, List, fold, length, map, slice_get, sym, ap, subst, arith, length-append}
use Rattle.pact_record.proofs.Permutations.{from_permutation}
use Rattle.plan_trees.specs.Physicals.{IsPhysical, PhysicalData, forwarded, ship_of}
use Rattle.plan_trees.specs.Plans.{PlanTree, IsPlan, leaf, over, both, has, root_of}
use Rattle.plan_trees.specs.Sending.{all_of, workers_below}
use Rattle.plan_trees.proofs.SubtreesOfPlans.{root_of-subtree}
use Rattle.pact_operators.specs.Allowed.{Bag, Counted, count_of}
use Rattle.pact_operators.specs.Divided.{IsDivided, Shares, count_given}
use Rattle.pact_operators.specs.Inputs.{AreInputsOf}
use Rattle.pact_operators.specs.PlanOps.{kind_at, left_keys_in, plan_ops, right_keys_in}
use Rattle.pact_operators.specs.Programs.{IsPlanOf, IsProgram, ProgramData}
use Rattle.plan_trees.proofs.EverySubtree.{AllBelow, all_below, all_below-at, all_below-root}
use Rattle.pact_operators.proofs.PermutedEvaluations.{evaluates_permuted}
use Rattle.ship_strategy.specs.Facts.{NodeFacts}
use Rattle.ship_strategy.specs.Layouts.{layout_of, ways_of}
use Rattle.ship_strategy.specs.Meets.{AllGaveShares, AllMeet, Meets}
use Rattle.ship_strategy.specs.PlanFacts.{facts_at, facts_of}
use Rattle.ship_strategy.specs.Ships.{AllowsBoth, AllowsOver, IsLegal, LegalShip, placement}
use Rattle.ship_strategy.proofs.DividedEvaluations.{HaveShares, IsTrueFinding, IsWhole, all_whole}
use Rattle.ship_strategy.proofs.FactsBelow.{facts_below}
use Rattle.ship_strategy.proofs.LaidSteps.{laid_workers}
use Rattle.ship_strategy.proofs.MeetingRecords.{meet_both, meet_over}
use Rattle.ship_strategy.proofs.ProgramLayouts.{layout_legal, layout_tree}

-- ---- sums

-- added to the sum so far
summed_from : (a W : ℕ) (gave : Shares) (at : ℕ) → fold (λ s x. s + x) a (map (λ w. length (gave at w)) (workers_below W)) ≡ a + length (all_of W (gave at))
summed_from a zero gave at = omega arith
summed_from a (suc n) gave at = omega (arith, summed_from (a + length (gave at n)) n gave at, length-append (gave at n) (all_of n (gave at)))

count_given-all : (W : ℕ) (gave : Shares) (at : ℕ) → count_given W gave at ≡ length (all_of W (gave at))
count_given-all W gave at = omega (arith, summed_from 0 W gave at)

module _ (p : ProgramData) (program : IsProgram p) (inputs : List Bag) (of_inputs : AreInputsOf p inputs) (q : PhysicalData) (some : 1 ≤ q.workers) (plan : IsPlanOf p.functions p.ops q.tree)
    (legal : LegalShip (facts_of p q.tree) q) (gave : Shares) (shares : AllGaveShares (plan_ops p inputs) q gave) where
  abbrev WholeWhere : (ℕ → ℕ → Type 0) → PlanTree → Type 0
  WholeWhere Told t = IsWhole p program inputs of_inputs q some (facts_of p q.tree) gave Told t

  whole_run : (Told : ℕ → ℕ → Type 0) → ((at : ℕ) → has at q.tree ≡ true → Told at (length (all_of q.workers (gave at)))) → AllBelow (WholeWhere Told) q.tree
  whole_run Told told =
      all_whole p program inputs of_inputs q some (facts_of p q.tree) gave Told q.tree
      (all_below (HaveShares p program inputs of_inputs q some (facts_of p q.tree) gave Told) q.tree plan.different shares)
      (all_below (IsTrueFinding p program inputs of_inputs q some (facts_of p q.tree) gave Told) q.tree plan.different
      (λ at there. subst (λ (n : ℕ). Told n (length (all_of q.workers (gave n)))) (sym (root_of-subtree at q.tree there)) (told at there)))
      (facts_below p q.tree plan.different) legal plan.apart

  -- ---- records meet

  abbrev Uncounted : PlanTree → Type 0
  Uncounted t = WholeWhere (λ n k. Unit {0}) t

  meets : (t : PlanTree) → AllBelow (λ s. facts_of p q.tree (root_of s) ≡ facts_at p s) t → IsLegal (facts_of p q.tree) q t → AllBelow Uncounted t → AllBelow (Meets (plan_ops p inputs) q gave) t
  meets (leaf n) facts h whole = tt
  meets (over n t) facts h whole =
      let f = facts_of p q.tree in
      let allowed : AllowsOver (facts_at p (over n t)) (ship_of q t) (placement f q t) = subst (λ (y : NodeFacts). AllowsOver y (ship_of q t) (placement f q t)) facts.0 h.0 in (
        meet_over f q some gave t (kind_at p.ops n) (left_keys_in (slice_get p.ops n)) allowed (all_below-root Uncounted t whole.1).1,
        meets t facts.1 h.1 whole.1,
      )
  meets (both n t u) facts h whole =
      let f = facts_of p q.tree in
      let allowed : AllowsBoth (facts_at p (both n t u)) (ship_of q t) (ship_of q u) (placement f q t) (placement f q u) =
      subst (λ (y : NodeFacts). AllowsBoth y (ship_of q t) (ship_of q u) (placement f q t) (placement f q u)) facts.0 h.0 in (
        λ left right received_left received_right.
            meet_both f q some gave t u (all_below-root Uncounted t whole.1).1 (all_below-root Uncounted u whole.2).1 left right received_left received_right
            (left_keys_in (slice_get p.ops n)) (right_keys_in (slice_get p.ops n)) (kind_at p.ops n) allowed,
        meets t facts.1 h.1 whole.1,
        meets u facts.2 h.2 whole.2,
      )

  shared_meets : AllMeet (plan_ops p inputs) q gave
  shared_meets at there =
      all_below-at (Meets (plan_ops p inputs) q gave) at q.tree (meets q.tree (facts_below p q.tree plan.different) legal (whole_run (λ n k. Unit {0}) (λ m has_m. tt))) there

-- ---- the run is one evaluation

divided : (p : ProgramData) → IsProgram p → (inputs : List Bag) → AreInputsOf p inputs → (q : PhysicalData) → 1 ≤ q.workers → IsPlanOf p.functions p.ops q.tree
    → LegalShip (facts_of p q.tree) q → (rows : Bag) (counts : List ℕ) → IsDivided (plan_ops p inputs) q rows counts → Counted (plan_ops p inputs) q.tree rows counts
divided p program inputs of_inputs q some plan legal rows counts run =
    evaluates_permuted Told (plan_ops p inputs) q.tree (all_of q.workers (run.gave (root_of q.tree))) rows (from_permutation (all_of q.workers (run.gave (root_of q.tree))) rows run.placed)
    (all_below-root (WholeWhere p program inputs of_inputs q some plan legal run.gave run.shares Told) q.tree
    (whole_run p program inputs of_inputs q some plan legal run.gave run.shares Told
    (λ at there. run.counted at there ∙ ap (λ (k : ℕ). Some (count_of k)) (count_given-all q.workers run.gave at)))).0
  where
    Told : ℕ → ℕ → Type 0
    Told n k = slice_get counts n ≡ Some (count_of k)

pub divided_counted : (p : ProgramData) → IsProgram p → (inputs : List Bag) → AreInputsOf p inputs → (physical : PhysicalData) → IsPhysical physical → IsPlanOf p.functions p.ops physical.tree
    → LegalShip (facts_of p physical.tree) physical → (rows : Bag) (counts : List ℕ) → IsDivided (plan_ops p inputs) physical rows counts → Counted (plan_ops p inputs) physical.tree rows counts
divided_counted p program inputs of_inputs q physical plan legal rows counts run = divided p program inputs of_inputs q physical.some_worker plan legal rows counts run

pub divided_meets : (p : ProgramData) → IsProgram p → (inputs : List Bag) → AreInputsOf p inputs → (physical : PhysicalData) → IsPhysical physical → IsPlanOf p.functions p.ops physical.tree
    → LegalShip (facts_of p physical.tree) physical → (gave : Shares) → AllGaveShares (plan_ops p inputs) physical gave → AllMeet (plan_ops p inputs) physical gave
divided_meets p program inputs of_inputs q physical plan legal gave shares = shared_meets p program inputs of_inputs q physical.some_worker plan legal gave shares

-- ---- a run of a layout

module _ (p : ProgramData) (program : IsProgram p) (t : PlanTree) (number workers : ℕ) (q : PhysicalData) (is_plan : IsPlan t) (plan : IsPlanOf p.functions p.ops t) (some : 1 ≤ workers)
    (is : q ≡ layout_of (facts_of p t) p.ops t number workers) where
  some_left : 1 ≤ q.workers
  some_left = subst (λ (n : ℕ). 1 ≤ n) (sym (ap (λ (d : PhysicalData). d.workers) is ∙ laid_workers (facts_of p t) (ways_of p.ops number) t (forwarded t workers))) some

  still_plan : IsPlanOf p.functions p.ops q.tree
  still_plan = subst (IsPlanOf p.functions p.ops) (sym (layout_tree p t number workers q is)) plan

  pub layout_counted : (inputs : List Bag) → AreInputsOf p inputs → (rows : Bag) (counts : List ℕ) → IsDivided (plan_ops p inputs) q rows counts → Counted (plan_ops p inputs) q.tree rows counts
  layout_counted inputs of_inputs = divided p program inputs of_inputs q some_left still_plan (layout_legal p t number workers q is_plan plan is)

  pub layout_meets : (inputs : List Bag) → AreInputsOf p inputs → (gave : Shares) → AllGaveShares (plan_ops p inputs) q gave → AllMeet (plan_ops p inputs) q gave
  layout_meets inputs of_inputs = shared_meets p program inputs of_inputs q some_left still_plan (layout_legal p t number workers q is_plan plan is)
