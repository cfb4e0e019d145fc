-- A source by its name.
use Rattle.std.specs.Prelude.{◌≡◌, ℕ, true, List, Some, slice_get}
use Rattle.pact_operators.specs.declared.operators.Op.{Op}
use Rattle.pact_operators.specs.PlanOps.{is_source_kind}

-- the source of this number has this name
pub record IsSourceNamed (ops : List Op) (name : List ℕ) (at : ℕ) : Type 0 where
  pub source : Op
  pub there : slice_get ops at ≡ Some source
  pub kind : is_source_kind source.kind ≡ true
  pub named : source.name ≡ name

-- no source of a program has this name
abbrev pub LacksSource : List Op → List ℕ → Type 0
LacksSource ops name = (at : ℕ) → IsSourceNamed ops name at → ⊥
