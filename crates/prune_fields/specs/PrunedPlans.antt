-- The physical plan and the program in which unneeded fields are dropped before records are shipped.
use Rattle.std.specs.Prelude.{◌≡◌, ◌+◌, ◌-◌, ◌&&◌, not, ℕ, zero, suc, Bool, true, false, List, [], ◌∷◌, filter, get_or, length, min, take}
use Rattle.std.specs.List.{AllZip, list_any}
use Rattle.pact_record.specs.FieldSets.{has_field}
use Rattle.plan_trees.specs.declared.physicals.Ship.{Ship}
use Rattle.plan_trees.specs.declared.physicals.Ship.TheVariants.{Forward}
use Rattle.plan_trees.specs.Physicals.{PhysicalData, has_edge}
use Rattle.plan_trees.specs.Plans.{PlanTree, subtree_of}
use Rattle.pact_operators.specs.Programs.{ProgramData, function_limit, is_operator_kind, operator_limit, times_of_kind}
use Rattle.ship_strategy.specs.PlanFacts.{attribute}
use Rattle.prune_fields.specs.declared.pruning.Kept.{Kept}
use Rattle.prune_fields.specs.Insertions.{with_cut_edges, with_keeps}
use Rattle.prune_fields.specs.KeepFunctions.{members}
use Rattle.prune_fields.specs.Needs.{need}

-- records stay where they are
abbrev pub is_forward : Ship → Bool
is_forward Forward = true
is_forward ship = false

-- some attribute isn't needed
abbrev pub has_spare : ProgramData → PlanTree → ℕ → Bool
has_spare p tree n = list_any (λ k. not (need p tree n k)) (members p.fields (attribute p (subtree_of n tree)))

-- The records of the source or operator are cut before they are shipped: it isn't the root, its ship isn't Forward, and
-- not all its attributes are needed.
abbrev pub is_cut : ProgramData → PhysicalData → ℕ → Bool
is_cut p x n = has_edge n x.tree && (not (is_forward (get_or x.ships n Forward)) && has_spare p x.tree n)

-- `count` numbers, from `at` on
abbrev pub numbers : (at count : ℕ) → List ℕ
numbers at zero = []
numbers at (suc count) = at ∷ numbers (at + 1) count

-- the number of operators that a program may still get, each with a function
abbrev pub room : ProgramData → ℕ
room p = min (operator_limit - times_of_kind is_operator_kind p.ops) (function_limit - length p.functions)

-- the numbers below `at` whose edges are cut, in order, as far as there is room
abbrev pub cut_below : ProgramData → PhysicalData → ℕ → List ℕ
cut_below p x at = take (room p) (filter (is_cut p x) (numbers 0 at))

-- the program and the physical plan, pruned at these numbers
abbrev pub program_below : ProgramData → PhysicalData → ℕ → ProgramData
program_below p x at = with_keeps p x.tree (need p x.tree) (cut_below p x at)

abbrev pub physical_below : ProgramData → PhysicalData → ℕ → PhysicalData
physical_below p x at = with_cut_edges p x (cut_below p x at)

-- a number with the fields that are needed of it
pub record IsNeedOf (p : ProgramData) (tree : PlanTree) (k : Kept) (n : ℕ) : Type 0 where
  pub at : k.at ≡ n
  pub fields : has_field k.fields ≡ need p tree n

-- The second program and physical plan are the first, pruned below a number. Each number that was cut is listed with
-- the fields that are needed of it.
pub record IsPrunedBelow (p : ProgramData) (x : PhysicalData) (at : ℕ) (q : ProgramData) (y : PhysicalData) (kept : List Kept) : Type 0 where
  pub program : q ≡ program_below p x at
  pub physical : y ≡ physical_below p x at
  pub needs : AllZip (IsNeedOf p x.tree) kept (cut_below p x at)

-- ---- all numbers

abbrev pub pruned_program : ProgramData → PhysicalData → ProgramData
pruned_program p x = program_below p x (length p.ops)

abbrev pub pruned_physical : ProgramData → PhysicalData → PhysicalData
pruned_physical p x = physical_below p x (length p.ops)

abbrev pub IsPruned : ProgramData → PhysicalData → ProgramData → PhysicalData → List Kept → Type 0
IsPruned p x q y kept = IsPrunedBelow p x (length p.ops) q y kept
