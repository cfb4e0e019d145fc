-- The inserted operators are senders for the Reduces that merge, and stay so until the last Reduce is combined. So each
-- of their instances emits exactly one record for each key that it took, and the record has this key.
use Rattle.std.proofs.Common.{◌≡◌, ◌<◌, ◌≤◌, ◌+◌, ℕ, zero, suc, true, inl, inr, List, Option, Some, None, length, slice_get, refl, sym, ap, subst, ◌∙◌, arith}
use Rattle.std.specs.List.{AllByRecursion}
use Rattle.std.proofs.lemmas.Option.{slice_get_within}
use Rattle.pact_record.specs.Record.{key_of}
use Rattle.pact_record.proofs.Lists.{AllByRecursion-weaker}
use Rattle.pact_record.proofs.Permutations.{chains, turned, map_perm, is_same, from_permutation, to_permutation}
use Rattle.tac_syntax.specs.declared.declarations.OpKind.{OpKind}
use Rattle.tac_syntax.specs.declared.declarations.OpKind.TheVariants.{Source, Reduce}
use Rattle.plan_trees.specs.Physicals.{PhysicalData, IsPhysical}
use Rattle.plan_trees.specs.Plans.{PlanTree, leaf, over, both, has, root_of, subtree_of}
use Rattle.plan_trees.proofs.InPlace.{GoesDown, down}
use Rattle.plan_trees.proofs.SubtreesOfPlans.{root_of-subtree}
use Rattle.pact_operators.specs.declared.operators.Op.{Op}
use Rattle.pact_operators.specs.Allowed.{Bag, Gives, Grouped, keys_in}
use Rattle.pact_operators.specs.Divided.{GaveShare, Shares}
use Rattle.pact_operators.specs.PlanOps.{PlanOps, kind_at, kind_in, plan_ops}
use Rattle.pact_operators.specs.Programs.{HasArity, IsPlanOf, IsProgram, takes}
use Rattle.flow_instance.proofs.DividedRuns.{divided}
use Rattle.combine_rule.specs.Splits.{GroupCall, IsSplitIn}
use Rattle.combine_rule.specs.Combined.{IsSameAt}
use Rattle.combine_rule.specs.CombinedPrograms.{CanCombine, Planned, combined_at, IsCombinedFrom, IsCombinedPlan}
use Rattle.combine_rule.specs.CombinedRuns.{AreSentOnce, GivesOnce}
use Rattle.combine_rule.proofs.AllCombined.{all_program}
use Rattle.combine_rule.proofs.CombinedPhysicals.{all_physical}
use Rattle.combine_rule.proofs.CombinedStep.{sender_split, same_elsewhere}
use Rattle.combine_rule.proofs.CombinedTheorem.{combined_plan, combined_program}
use Rattle.combine_rule.proofs.OneEdge.{keys_in_are, one_for_each}

-- ---- a Reduce in a plan

reduce_within : (ops : List Op) (n : ℕ) → kind_at ops n ≡ Reduce → n < length ops
reduce_within ops n e = by (slice_get ops n) refl e where
  by : (g : Option Op) → slice_get ops n ≡ g → kind_in g ≡ Reduce → n < length ops
  by None q z = let bad : Source ≡ Reduce = z in absurd cc
  by (Some op) q z = slice_get_within ops n op q

-- a Reduce has one input
pub over_reduce : (ops : List Op) (tree : PlanTree) (n : ℕ) → HasArity ops tree → has n tree ≡ true → kind_at ops n ≡ Reduce
    → (input : PlanTree) × (subtree_of n tree ≡ over n input)
over_reduce ops tree n arity there kind = by (subtree_of n tree) (down (HasArity ops) arity_down n tree arity) (root_of-subtree n tree there) where
  arity_down : GoesDown (HasArity ops)
  arity_down = record { of_one = λ m t h. h.1; of_left = λ m t v h. h.1; of_right = λ m t v h. h.2 }

  one : (m : ℕ) (op : Op) → slice_get ops m ≡ Some op → m ≡ n → takes op.kind ≡ 1
  one m op e r = ap takes (sym (ap kind_in e) ∙ ap (kind_at ops) r ∙ kind)

  by : (t : PlanTree) → HasArity ops t → root_of t ≡ n → (input : PlanTree) × (t ≡ over n input)
  by (leaf m) a r = let o = one m a.0 a.1 r in absurd (omega (arith, o, a.2))
  by (over m t) a r = (t, ap (λ (k : ℕ). over k t) r)
  by (both m t u) a r = let o = one m a.0.0 a.0.1 r in absurd (omega (arith, o, a.0.2))

-- ---- senders

-- The Reduce with the number calls a sender.
pub record IsSenderAt (o : PlanOps) (n : ℕ) : Type 0 where
  pub kind : o.kind n ≡ Reduce
  pub whole : GroupCall
  pub merger : GroupCall
  pub split : IsSplitIn (o.left_keys n) whole (o.of_group n) merger

no_source : Source ≡ Reduce → ⊥
no_source e = cc

still_sender : (o u : PlanOps) (n : ℕ) → IsSameAt o u n → IsSenderAt o n → IsSenderAt u n
still_sender o u n e h =
    let calls = e.calls (λ s. no_source (sym s ∙ h.kind)) in
    record {
      kind = e.kind ∙ h.kind;
      whole = h.whole;
      merger = h.merger;
      split = subst (λ (ks : List ℕ). IsSplitIn ks h.whole (u.of_group n) h.merger) (sym e.left_keys) (subst (λ (s : GroupCall). IsSplitIn (o.left_keys n) h.whole s h.merger) (sym calls.of_group) h.split);
    }

-- each instance of a sender emits one record for each key, which has this key
gives_once : (o : PlanOps) (q : PhysicalData) (gave : Shares) (n : ℕ) (input : PlanTree) → IsSenderAt o n → subtree_of n q.tree ≡ over n input
    → ((w : ℕ) → w < q.workers → GaveShare o q gave (subtree_of n q.tree) w) → GivesOnce o q gave n
gives_once o q gave n input h reads shares = record {
  input = input;
  reads = reads;
  once = λ w b.
      let g = subst (λ (t : PlanTree). GaveShare o q gave t w) reads (shares w b) in
      let K = o.left_keys n in
      let given : Grouped (o.of_group n) K g.rows (keys_in K g.rows) g.out = subst (λ (k : OpKind). Gives o k n g.rows g.out) h.kind g.given in (
        g.rows,
        g.below,
        to_permutation (chains (turned (map_perm (key_of K) (from_permutation g.out (gave n w) g.permuted)))
            (is_same (one_for_each K h.whole (o.of_group n) h.merger h.split g.rows (keys_in K g.rows) (keys_in_are K h.whole (o.of_group n) h.merger h.split g.rows) g.out given))),
      );
}

module _ (inputs : List Bag) (end : Planned) where
  put_in : (s : Planned) (at : ℕ) (c : CanCombine s at) → IsProgram s.program → IsSenderAt (plan_ops (combined_at s at c).program inputs) (length s.program.ops)
  put_in s at c program = let e = sender_split s at c program inputs in record { kind = e.0; whole = _; merger = _; split = e.1 }

  -- the number of operators and sources doesn't shrink
  pub no_fewer : (count at : ℕ) (s : Planned) (of : List (ℕ × ℕ)) → IsCombinedFrom count at s end of → IsProgram s.program
      → IsPlanOf s.program.functions s.program.ops s.physical.tree → length s.program.ops ≤ length end.program.ops
  no_fewer zero at s of h program plan = subst (λ (x : Planned). length s.program.ops ≤ length x.program.ops) (sym h.0) (omega arith)
  no_fewer (suc k) at s of (inr h) program plan = no_fewer k (at + 1) s of h.1 program plan
  no_fewer (suc k) at s of (inl h) program plan =
      let c = h.0 in
      let next = combined_at s at c in
      let longer = reduce_within next.program.ops (length s.program.ops) (put_in s at c program).kind in
      let rest = no_fewer k (at + 1) next h.1 h.3 (combined_program s at c program inputs plan) (combined_plan s at c program inputs plan) in
      omega (arith, longer, rest)

  -- a sender stays one, since the Reduces still to come have smaller numbers
  sender_to_end : (count at : ℕ) (s : Planned) (of : List (ℕ × ℕ)) (n : ℕ) → IsCombinedFrom count at s end of → IsProgram s.program
      → IsPlanOf s.program.functions s.program.ops s.physical.tree → at + count ≤ n
      → IsSenderAt (plan_ops s.program inputs) n → IsSenderAt (plan_ops end.program inputs) n
  sender_to_end zero at s of n h program plan le is = subst (λ (x : Planned). IsSenderAt (plan_ops x.program inputs) n) (sym h.0) is
  sender_to_end (suc k) at s of n (inr h) program plan le is = sender_to_end k (at + 1) s of n h.1 program plan (omega (arith, le)) is
  sender_to_end (suc k) at s of n (inl h) program plan le is =
      let c = h.0 in
      let inside = reduce_within s.program.ops n is.kind in
      sender_to_end k (at + 1) (combined_at s at c) h.1 n h.3 (combined_program s at c program inputs plan) (combined_plan s at c program inputs plan) (omega (arith, le))
      (still_sender (plan_ops s.program inputs) (plan_ops (combined_at s at c).program inputs) n (same_elsewhere s at c program inputs n (λ e. omega (arith, e, le)) (λ e. omega (arith, e, inside))) is)

  pub all_senders : (count at : ℕ) (s : Planned) (of : List (ℕ × ℕ)) → IsCombinedFrom count at s end of → IsProgram s.program
      → IsPlanOf s.program.functions s.program.ops s.physical.tree → at + count ≤ length s.program.ops
      → AllByRecursion (λ pair. IsSenderAt (plan_ops end.program inputs) pair.0) of
  all_senders zero at s of h program plan le = subst (AllByRecursion (λ pair. IsSenderAt (plan_ops end.program inputs) pair.0)) (sym h.1) tt
  all_senders (suc k) at s of (inr h) program plan le = all_senders k (at + 1) s of h.1 program plan (omega (arith, le))
  all_senders (suc k) at s of (inl h) program plan le =
      let c = h.0 in
      let next = combined_at s at c in
      let next_program = combined_program s at c program inputs plan in
      let next_plan = combined_plan s at c program inputs plan in
      let is = put_in s at c program in
      let longer = reduce_within next.program.ops (length s.program.ops) is.kind in
      subst (AllByRecursion (λ pair. IsSenderAt (plan_ops end.program inputs) pair.0)) (sym h.2) (
        sender_to_end k (at + 1) next h.1 (length s.program.ops) h.3 next_program next_plan (omega (arith, le)) is,
        all_senders k (at + 1) next h.1 h.3 next_program next_plan (omega (arith, le, longer)),
      )

pub sent_once : (s end : Planned) (of : List (ℕ × ℕ)) → IsCombinedPlan s end of → IsProgram s.program → IsPhysical s.physical
    → IsPlanOf s.program.functions s.program.ops s.physical.tree → AreSentOnce s end of
sent_once s end of h program physical plan inputs rows counts run =
    let o = plan_ops end.program inputs in
    let e = all_program inputs end (length s.program.ops) 0 s of h program plan in
    let d = divided end.program inputs end.physical rows counts (all_physical inputs end (length s.program.ops) 0 s of h program plan physical) e.1 run.run in
    let once : (pair : ℕ × ℕ) → IsSenderAt o pair.0 → GivesOnce o end.physical d.gave pair.0 =
    λ pair is.
    let there = e.1.all pair.0 (reduce_within end.program.ops pair.0 is.kind) in
    let input = over_reduce end.program.ops end.physical.tree pair.0 e.1.arity there is.kind in
    gives_once o end.physical d.gave pair.0 input.0 is input.1 (λ w b. d.shares pair.0 there w b) in
    (d, AllByRecursion-weaker (λ (pair : ℕ × ℕ). IsSenderAt o pair.0) (λ (pair : ℕ × ℕ). GivesOnce o end.physical d.gave pair.0) of once (all_senders inputs end (length s.program.ops) 0 s of h program plan (omega arith)))
