-- Records that are added to the kept ones.
use Rattle.std.specs.Prelude.{◌≡◌, ◌||◌, ◌++◌, ◌∷◌, [], filter, not, ℕ, Bool, false, List}
use Rattle.std.specs.List.Sorted.{IsPermutation}
use Rattle.pact_operators.specs.Allowed.{Bag}
use Rattle.pact_bag.specs.Pairs.{has_null}
use Rattle.pact_record.specs.Record.{key_of}
use Rattle.pact_record.specs.declared.values.Value.{Value}
use Rattle.pact_record.specs.Widths.{AreWide}

-- Whether a record may match another one by these keys. If Nulls don't match, a key with a Null matches nothing.
abbrev pub may_match : Bool → List ℕ → List Value → Bool
may_match nulls keys row = nulls || not (has_null (key_of keys row))

-- a row came and was kept if it passes `may`; the kept rows aren't sealed
pub record IsRowKept {L : Type 0} (rows : L → Bag) (keys : L → List ℕ) (is_sealed : L → Bool) (may : List Value → Bool) (row : List Value) (old new : L) : Type 0 where
  pub kept : IsPermutation (rows old ++ filter may (row ∷ [])) (rows new)
  pub same : keys new ≡ keys old
  pub not_sealed : is_sealed new ≡ false

-- these rows came and were kept; the kept rows aren't sealed
pub record IsKept {L : Type 0} (rows : L → Bag) (keys : L → List ℕ) (is_sealed : L → Bool) (fields : ℕ) (more : Bag) (old new : L) : Type 0 where
  pub kept : IsPermutation (rows old ++ more) (rows new)
  pub same : keys new ≡ keys old
  pub not_sealed : is_sealed new ≡ false
  pub wide : AreWide fields (rows new)
