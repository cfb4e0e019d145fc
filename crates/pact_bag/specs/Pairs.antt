-- Pairs of records of two bags: one call for each pair, or for each that matches.
use Rattle.std.specs.Prelude.{◌||◌, not, ℕ, Bool, true, false, cond, List, [], ◌∷◌, flat_map}
use Rattle.pact_record.specs.declared.values.Value.{Value}
use Rattle.pact_record.specs.declared.values.Value.TheVariants.{Null}
use Rattle.pact_record.specs.Record.{key_of}
use Rattle.pact_bag.specs.Groups.{do_match}

-- one call for each pair
abbrev pub crossed : (List Value → List Value → List (List Value)) → List (List Value) → List (List Value) → List (List Value)
crossed f ls rs = flat_map (λ l. flat_map (f l) rs) ls

-- a key that has a Null
abbrev pub has_null : List Value → Bool
has_null [] = false
has_null (Null ∷ key) = true
has_null (v ∷ key) = has_null key

-- a call, unless the key has a Null and Nulls don't match
abbrev pub unless_null : Bool → (List Value → List Value → List (List Value)) → List ℕ → List Value → List Value → List (List Value)
unless_null nulls f left_keys l r = cond (nulls || not (has_null (key_of left_keys l))) (f l r) []

-- a call if the pair matches, and nothing otherwise: its keys are equal and, unless Nulls match, have no Null
abbrev pub matched : Bool → (List Value → List Value → List (List Value)) → List ℕ → List ℕ → List Value → List Value → List (List Value)
matched nulls f left_keys right_keys l r = cond (do_match left_keys right_keys l r) (unless_null nulls f left_keys l r) []
