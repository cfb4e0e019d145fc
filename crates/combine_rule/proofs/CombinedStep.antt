-- One combined Reduce of a program: if the output is divided among the instances of the combined plan, it is divided
-- among those of the plan.
use Rattle.std.proofs.Common.{◌≡◌, ◌≢◌, ◌<◌, ℕ, true, false, List, [], ◌∷◌, length, refl, sym, ap, subst, ◌∙◌}
use Rattle.std.specs.List.{AllByRecursion}
use Rattle.pact_record.specs.Keys.{is_listed}
use Rattle.pact_record.specs.Widths.{AreBelow}
use Rattle.plan_trees.specs.Distinct.{AreDifferent}
use Rattle.plan_trees.specs.Physicals.{PhysicalData}
use Rattle.plan_trees.specs.Plans.{PlanTree, has, nodes, root_of}
use Rattle.tac_syntax.specs.declared.declarations.OpKind.TheVariants.{Source, Reduce}
use Rattle.tac_syntax.specs.Valid.{IsValid, WithFields}
use Rattle.pact_operators.specs.Allowed.{Bag}
use Rattle.pact_operators.specs.Divided.{IsDivided}
use Rattle.pact_operators.specs.PlanOps.{plan_ops, kind_at, kind_in}
use Rattle.pact_operators.specs.Programs.{IsProgram, ProgramData}
use Rattle.pact_operators.proofs.CalledFunctions.{IsCalled, called_at}
use Rattle.ship_strategy.specs.PlanFacts.{attribute}
use Rattle.combine_rule.specs.Combined.{IsReadBy, IsCombinedAt, IsSameAt}
use Rattle.combine_rule.specs.Splits.{IsSplitIn}
use Rattle.combine_rule.specs.CombinedPrograms.{Planned, CanCombine, combined_at, sender_op, sender_for, merger_for, physical_at}
use Rattle.combine_rule.proofs.SlotRuns.{AreBelow as AreKeysBelow}
use Rattle.combine_rule.proofs.CombinableLaw.{is_split}
use Rattle.combine_rule.proofs.CombinedShares.{plain_divided}
use Rattle.combine_rule.proofs.CombinedPrograms.{same_at, kinds, keys, splits, fed_forward, ship_kept, other_ships}

keys_below : (n : ℕ) (ks : List ℕ) → AreBelow n ks → AreKeysBelow n ks
keys_below n [] h = tt
keys_below n (k ∷ ks) h = (h.0, keys_below n ks h.1)

module _ (s : Planned) (at : ℕ) (c : CanCombine s at) (program : IsProgram s.program) (inputs : List Bag) where
  abbrev p : ProgramData
  p = s.program

  abbrev q : PhysicalData
  q = s.physical

  abbrev new : ℕ
  new = length p.ops

  abbrev below : ℕ
  below = root_of c.input

  abbrev end : Planned
  end = combined_at s at c

  not_source : Source ≡ Reduce → ⊥
  not_source e = cc

  operator : kind_at p.ops at ≡ Source → ⊥
  operator e = not_source (sym e ∙ ap kind_in c.found ∙ c.kind)

  pub called : IsCalled p at c.op c.called
  called = called_at p program at c.op operator c.called c.found c.function

  pub valid : IsValid c.called.function p.fields
  valid = subst (IsValid c.called.function) called.fields called.valid

  abbrev S : WithFields
  S = sender_for s at c

  abbrev M : WithFields
  M = merger_for s at c

  abbrev tree : PlanTree
  tree = (physical_at s at c).tree

  kinds_are : ((plan_ops p inputs).kind at ≡ Reduce) × ((plan_ops end.program inputs).kind at ≡ Reduce) × ((plan_ops end.program inputs).kind new ≡ Reduce)
  kinds_are = kinds p program inputs c.op at c.called tree S M (sender_op new c.op) c.found c.kind c.function refl refl

  keys_are : ((plan_ops p inputs).left_keys at ≡ c.op.left_keys) × ((plan_ops end.program inputs).left_keys at ≡ (plan_ops p inputs).left_keys at) × ((plan_ops end.program inputs).left_keys new ≡ (plan_ops p inputs).left_keys at)
  keys_are = keys p program inputs c.op at c.called tree S M (sender_op new c.op) c.found c.kind c.function refl refl

  pub split_at : IsSplitIn ((plan_ops p inputs).left_keys at) ((plan_ops p inputs).of_group at) ((plan_ops end.program inputs).of_group new) ((plan_ops end.program inputs).of_group at)
  split_at = splits p program inputs c.op at c.called tree S M (sender_op new c.op) c.found c.kind c.function refl refl
      (is_split c.called.function p.fields c.op.left_keys (attribute p c.input) valid (keys_below p.fields c.op.left_keys (subst (λ (n : ℕ). AreBelow n c.op.left_keys) called.fields called.left_below)) c.combinable)

  -- the inserted operator calls a sender
  pub sender_split : ((plan_ops end.program inputs).kind new ≡ Reduce)
      × IsSplitIn ((plan_ops end.program inputs).left_keys new) ((plan_ops p inputs).of_group at) ((plan_ops end.program inputs).of_group new) ((plan_ops end.program inputs).of_group at)
  sender_split = (
    kinds_are.2,
    subst (λ (ks : List ℕ). IsSplitIn ks ((plan_ops p inputs).of_group at) ((plan_ops end.program inputs).of_group new) ((plan_ops end.program inputs).of_group at)) (sym keys_are.2) split_at,
  )

  pub same_elsewhere : (n : ℕ) → n ≢ at → n ≢ new → IsSameAt (plan_ops p inputs) (plan_ops end.program inputs) n
  same_elsewhere n na nn = same_at p program inputs c.op at c.called tree S M (sender_op new c.op) c.found c.kind c.function refl refl n na nn

  module _ (new_in : new < length q.ships) (below_in : below < length q.ships) (apart : new ≢ below) (inside : AllByRecursion (λ k. is_listed c.op.left_keys k ≡ true) c.fields) where
    pub is_combined : IsCombinedAt (plan_ops p inputs) (plan_ops end.program inputs) q end.physical below new at c.fields
    is_combined =
        record {
          tree = refl;
          workers = refl;
          other_ships = λ n nb nn. other_ships q below new apart below_in new_in n nb nn;
          fed = fed_forward q below new apart below_in new_in;
          ship = c.ship;
          kept = ship_kept q below new apart below_in new_in ∙ c.ship;
          same = same_elsewhere;
          kind = kinds_are.0;
          merger_kind = kinds_are.1;
          sender_kind = kinds_are.2;
          merger_keys = keys_are.1;
          sender_keys = keys_are.2;
          inside = subst (λ (l : List ℕ). AllByRecursion (λ j. is_listed l j ≡ true) c.fields) (sym keys_are.0) inside;
          split = split_at;
        }

    pub step_divided : IsReadBy below at q.tree → root_of q.tree ≢ below → has new q.tree ≡ false → AreDifferent (nodes end.physical.tree)
        → (rows : Bag) (counts : List ℕ)
        → IsDivided (plan_ops end.program inputs) end.physical rows counts → IsDivided (plan_ops p inputs) q rows counts
    step_divided read top absent different rows counts d = plain_divided (plan_ops p inputs) (plan_ops end.program inputs) q end.physical below new at c.fields is_combined read top absent different rows counts d
