-- If a plan follows the inputs from a number, plans also follow them from each of that number's inputs.
use Rattle.std.proofs.Common.{◌≡◌, ◌≤◌, ◌<◌, ◌-◌, ℕ, Some, List, get_or, length, map, slice_get, ap, sym, ◌∙◌, subst, arith}
use Rattle.std.specs.Option.{option_map}
use Rattle.std.proofs.lemmas.List.{length-map}
use Rattle.std.proofs.lemmas.Option.{slice_get-map, slice_get-get_or}
use Rattle.program_check.specs.declared.written_plans.Reads.{Reads}
use Rattle.plan_trees.specs.Distinct.{IsAbsent}
use Rattle.program_check.specs.PlanReads.{IsPlannedFrom, inputs_as}
use Rattle.plan_trees.specs.Plans.{PlanTree, leaf, over, both, root_of, nodes, IsPlan}
use Rattle.plan_trees.specs.Preorders.{count_of}
use Rattle.pact_operators.specs.Programs.{Follows}
use Rattle.pact_operators.specs.Resolved.{Inputs, no_input, one_input, two_inputs}
use Rattle.plan_trees.proofs.BelowRoot.{input_plan, left_plan, right_plan}
use Rattle.pact_operators.proofs.OnePlan.{at_root, root_within}

-- ---- what is read at a number

pub planned_within : (reads : List Reads) (at count : ℕ) → IsPlannedFrom (map inputs_as reads) at count → at < length reads
planned_within reads at count h = omega (arith, root_within (map inputs_as reads) h.tree h.follows, h.root, length-map reads inputs_as)

pub entry : (reads : List Reads) (at count : ℕ) (d x : Reads) → IsPlannedFrom (map inputs_as reads) at count → get_or reads at d ≡ x → slice_get (map inputs_as reads) at ≡ Some (inputs_as x)
entry reads at count d x h e =
    let got : slice_get reads at ≡ Some x = slice_get-get_or reads at d (planned_within reads at count h) ∙ ap (λ (y : Reads). Some y) e in
    slice_get-map inputs_as reads at ∙ ap (option_map inputs_as) got

-- ---- the trees of its inputs

pub record Input (inputs : List Inputs) (at input count : ℕ) : Type 0 where
  pub from : IsPlannedFrom inputs input count
  pub absent : IsAbsent at (nodes from.tree)

one_by : (inputs : List Inputs) (at a count : ℕ) (t : PlanTree) → Follows inputs t → root_of t ≡ at → IsPlan t → count_of t ≤ count → slice_get inputs at ≡ Some (one_input a) → Input inputs at a (count - 1)
one_by inputs at a count (leaf n) f r p few e = let bad : Some no_input ≡ Some (one_input a) = sym (at_root inputs n at no_input r f) ∙ e in absurd cc
one_by inputs at a count (over n t) f r p few e =
    let same : Some (one_input (root_of t)) ≡ Some (one_input a) = sym (at_root inputs n at (one_input (root_of t)) r f.0) ∙ e in
    record {
      from = record { tree = t; follows = f.1; root = cc; plan = input_plan n t p; few = omega (arith, few) };
      absent = subst (λ (m : ℕ). IsAbsent m (nodes t)) r p.different.0;
    }
one_by inputs at a count (both n t u) f r p few e =
    let bad : Some (two_inputs (root_of t) (root_of u)) ≡ Some (one_input a) = sym (at_root inputs n at (two_inputs (root_of t) (root_of u)) r f.0) ∙ e in absurd cc

pub one_planned : (inputs : List Inputs) (at a count : ℕ) → IsPlannedFrom inputs at count → slice_get inputs at ≡ Some (one_input a) → Input inputs at a (count - 1)
one_planned inputs at a count h e = one_by inputs at a count h.tree h.follows h.root h.plan h.few e

pub record TwoInputs (inputs : List Inputs) (at left right count : ℕ) : Type 0 where
  pub from_left : IsPlannedFrom inputs left count
  pub from_right : IsPlannedFrom inputs right count
  pub plan : IsPlan (both at from_left.tree from_right.tree)

two_by : (inputs : List Inputs) (at a b count : ℕ) (t : PlanTree) → Follows inputs t → root_of t ≡ at → IsPlan t → count_of t ≤ count → slice_get inputs at ≡ Some (two_inputs a b) → TwoInputs inputs at a b (count - 1)
two_by inputs at a b count (leaf n) f r p few e = let bad : Some no_input ≡ Some (two_inputs a b) = sym (at_root inputs n at no_input r f) ∙ e in absurd cc
two_by inputs at a b count (over n t) f r p few e =
    let bad : Some (one_input (root_of t)) ≡ Some (two_inputs a b) = sym (at_root inputs n at (one_input (root_of t)) r f.0) ∙ e in absurd cc
two_by inputs at a b count (both n t u) f r p few e =
    let same : Some (two_inputs (root_of t) (root_of u)) ≡ Some (two_inputs a b) = sym (at_root inputs n at (two_inputs (root_of t) (root_of u)) r f.0) ∙ e in
    record {
      from_left = record { tree = t; follows = f.1; root = cc; plan = left_plan n t u p; few = omega (arith, few) };
      from_right = record { tree = u; follows = f.2; root = cc; plan = right_plan n t u p; few = omega (arith, few) };
      plan = subst (λ (m : ℕ). IsPlan (both m t u)) r p;
    }

pub two_planned : (inputs : List Inputs) (at a b count : ℕ) → IsPlannedFrom inputs at count → slice_get inputs at ≡ Some (two_inputs a b) → TwoInputs inputs at a b (count - 1)
two_planned inputs at a b count h e = two_by inputs at a b count h.tree h.follows h.root h.plan h.few e
