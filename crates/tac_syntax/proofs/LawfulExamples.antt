-- Lawful inputs of each kind, which show that statements about lawful inputs aren't vacuous.
use Rattle.std.proofs.Common.{◌≡◌, ℕ, zero, suc, pos, List, [], ◌∷◌, refl, arith}
use Rattle.pact_record.specs.declared.values.Value.{Value}
use Rattle.pact_record.specs.declared.values.Value.TheVariants.{Null, Int}
use Rattle.pact_record.specs.Record.{at_field}
use Rattle.tac_syntax.specs.declared.functions.Kind.TheVariants.{Map, Match, Cross, Reduce, CoGroup}
use Rattle.tac_syntax.specs.Call.{of_record, of_pair, of_group, of_groups}
use Rattle.tac_syntax.specs.Contexts.{Ports}
use Rattle.tac_syntax.specs.Forms.{AreApart, IsWithin, IsLawful}

-- field 0 on the left and field 1 on the right, which are the keys
abbrev sides : Ports
sides = record { left = λ k. k ≡ 0; right = λ k. k ≡ 1; left_keys = 0 ∷ []; right_keys = 1 ∷ [] }

abbrev key : List Value
key = Int (pos 5) ∷ []

abbrev left_row : List Value
left_row = Int (pos 5) ∷ Null ∷ []

abbrev right_row : List Value
right_row = Null ∷ Int (pos 5) ∷ []

apart : AreApart sides.left sides.right
apart k l r = absurd (omega (arith, l, r))

left_null : (k : ℕ) → (k ≡ 0 → ⊥) → at_field left_row k ≡ Null
left_null zero h = absurd (h refl)
left_null (suc zero) h = refl
left_null (suc (suc k)) h = refl

right_null : (k : ℕ) → (k ≡ 1 → ⊥) → at_field right_row k ≡ Null
right_null zero h = refl
right_null (suc zero) h = absurd (h refl)
right_null (suc (suc k)) h = refl

left_within : IsWithin 2 sides.left left_row
left_within = record { width = refl; null = left_null }

right_within : IsWithin 2 sides.right right_row
right_within = record { width = refl; null = right_null }

pub IsLawful-record : IsLawful Map 2 sides (of_record left_row)
IsLawful-record = record { apart = apart; called = tt; some = tt; keyed = tt; left = (left_within, tt); right = tt }

pub IsLawful-match : IsLawful Match 2 sides (of_pair left_row right_row)
IsLawful-match = record { apart = apart; called = tt; some = tt; keyed = tt; left = (left_within, tt); right = (right_within, tt) }

pub IsLawful-cross : IsLawful Cross 2 sides (of_pair left_row right_row)
IsLawful-cross = record { apart = apart; called = tt; some = tt; keyed = tt; left = (left_within, tt); right = (right_within, tt) }

pub IsLawful-group : IsLawful Reduce 2 sides (of_group key (left_row ∷ left_row ∷ []))
IsLawful-group = record { apart = apart; called = tt; some = omega arith; keyed = (refl, (refl, tt)); left = (left_within, (left_within, tt)); right = tt }

-- one of the two groups may be empty
pub IsLawful-groups : IsLawful CoGroup 2 sides (of_groups key [] (right_row ∷ []))
IsLawful-groups = record { apart = apart; called = tt; some = omega arith; keyed = (tt, (refl, tt)); left = tt; right = (right_within, tt) }
