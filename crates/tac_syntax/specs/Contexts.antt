-- In which fields the inputs of a function may have values.
use Rattle.std.specs.Prelude.{◌≡◌, ◌≤◌, ℕ, Bool, true, false, List}
use Rattle.pact_record.specs.FieldSets.{has_field}
use Rattle.pact_record.specs.Widths.{AreBelow}
use Rattle.tac_syntax.specs.declared.contexts.Context.{Context}
pub use Rattle.tac_syntax.specs.declared.contexts.Side.{Side}
pub use Rattle.tac_syntax.specs.declared.contexts.Side.TheVariants.{Left as left, Right as right}

abbrev pub FieldSet : Type 0
FieldSet = ℕ → Bool

abbrev pub Has : FieldSet → ℕ → Type 0
Has s k = s k ≡ true

-- a set of fields below the bound
abbrev pub IsBelow : ℕ → FieldSet → Type 0
IsBelow fields s = (k : ℕ) → fields ≤ k → s k ≡ false

-- Fields and keys of either side below the number of fields.
pub record AreOfFields (fields : ℕ) (l r : FieldSet) (ks js : List ℕ) : Type 0 where
  pub left : IsBelow fields l
  pub right : IsBelow fields r
  pub left_keys : AreBelow fields ks
  pub right_keys : AreBelow fields js

abbrev pub IsContextOf : ℕ → Context → Type 0
IsContextOf fields c = AreOfFields fields (has_field c.left) (has_field c.right) c.left_keys c.right_keys

-- ---- independent of how sets are stored

-- The fields of either side, given by a predicate: membership of a set, or being an attribute, for which no set is
-- made.
pub record Ports : Type 1 where
  pub left : ℕ → Type 0
  pub right : ℕ → Type 0
  pub left_keys : List ℕ
  pub right_keys : List ℕ

abbrev pub ports : FieldSet → FieldSet → List ℕ → List ℕ → Ports
ports l r ks js = record { left = Has l; right = Has r; left_keys = ks; right_keys = js }

abbrev pub ports_of : Context → Ports
ports_of c = ports (has_field c.left) (has_field c.right) c.left_keys c.right_keys
