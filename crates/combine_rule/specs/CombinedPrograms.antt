-- The combined plan of a physical plan.
use Rattle.std.specs.Prelude.{◌≡◌, ◌<◌, ◌⊎◌, ℕ, zero, suc, List, [], ◌∷◌, Some, get_or, length, slice_get, ◌+◌, true}
use Rattle.plan_trees.specs.declared.physicals.Ship.TheVariants.{Forward, Partition}
use Rattle.plan_trees.specs.Inserted.{inserted_above}
use Rattle.plan_trees.specs.Physicals.{PhysicalData}
use Rattle.plan_trees.specs.Plans.{PlanTree, root_of, subtree_of, has, over}
use Rattle.tac_syntax.specs.Valid.{WithFields}
use Rattle.tac_syntax.specs.declared.declarations.OpKind.TheVariants.{Reduce}
use Rattle.pact_operators.specs.declared.operators.Op.{Op}
use Rattle.pact_operators.specs.Insertions.{inserted_into, inserted_op, replaced_in}
use Rattle.pact_operators.specs.Programs.{ProgramData, is_operator_kind, times_of_kind}
use Rattle.ship_strategy.specs.PlanFacts.{attribute}
use Rattle.combine_rule.specs.Combinable.{IsCombinable, sender_with, merger_with}

-- a program with a physical plan of it
pub record Planned : Type 0 where
  pub program : ProgramData
  pub physical : PhysicalData

abbrev pub planned : ProgramData → PhysicalData → Planned
planned program physical = record { program = program; physical = physical }

-- The operator with the number is a Reduce that may be combined: its input's edge is Partition, its function is
-- combinable, and there is room for another operator and two functions.
pub record CanCombine (s : Planned) (at : ℕ) : Type 0 where
  pub op : Op
  pub found : slice_get s.program.ops at ≡ Some op
  pub kind : op.kind ≡ Reduce
  pub input : PlanTree
  pub there : has at s.physical.tree ≡ true
  pub reads : subtree_of at s.physical.tree ≡ over at input
  pub fields : List ℕ
  pub ship : get_or s.physical.ships (root_of input) Forward ≡ Partition fields
  pub called : WithFields
  pub function : slice_get s.program.functions op.function ≡ Some called
  pub combinable : IsCombinable called.function s.program.fields op.left_keys (attribute s.program input)
  pub room : times_of_kind is_operator_kind s.program.ops < 16
  pub function_room : length s.program.functions < 63

-- the inserted operator, with the keys of the Reduce
abbrev pub sender_op : (new : ℕ) → Op → Op
sender_op new op = inserted_op new 0 Reduce op.left_keys

abbrev pub sender_for : (s : Planned) (at : ℕ) → CanCombine s at → WithFields
sender_for s at c = record { function = sender_with c.called.function s.program.fields c.combinable.register c.op.left_keys (attribute s.program c.input); fields = s.program.fields }

abbrev pub merger_for : (s : Planned) (at : ℕ) → CanCombine s at → WithFields
merger_for s at c = record { function = merger_with c.called.function s.program.fields c.combinable.register c.op.left_keys (attribute s.program c.input); fields = s.program.fields }

-- the physical plan after the Reduce is combined
abbrev pub physical_at : (s : Planned) (at : ℕ) → CanCombine s at → PhysicalData
physical_at s at c = inserted_above (root_of c.input) (length s.program.ops) s.physical

abbrev pub combined_at : (s : Planned) (at : ℕ) → CanCombine s at → Planned
combined_at s at c = record {
  program = replaced_in (inserted_into s.program (sender_op (length s.program.ops) c.op) (sender_for s at c) (physical_at s at c).tree) at (merger_for s at c);
  physical = physical_at s at c;
}

-- Starting at number `at`, `count` operators are visited one after the other, and each that can be combined is. The
-- list pairs the number of each inserted operator with that of its Reduce.
abbrev pub IsCombinedFrom : (count at : ℕ) → Planned → Planned → List (ℕ × ℕ) → Type 0
IsCombinedFrom zero at s end of = (end ≡ s) × (of ≡ [])
IsCombinedFrom (suc n) at s end of =
    ((c : CanCombine s at) × (rest : List (ℕ × ℕ)) × (of ≡ (length s.program.ops, at) ∷ rest) × IsCombinedFrom n (at + 1) (combined_at s at c) end rest)
    ⊎ ((CanCombine s at → ⊥) × IsCombinedFrom n (at + 1) s end of)

-- the combined plan
abbrev pub IsCombinedPlan : Planned → Planned → List (ℕ × ℕ) → Type 0
IsCombinedPlan s end of = IsCombinedFrom (length s.program.ops) 0 s end of
