-- Rows of worked seeds, by computing.
use Rattle.std.proofs.Common.{◌≡◌, negsuc, pos, [], ◌∷◌, codes, refl}
use Rattle.std.specs.Fmt.{digits}
use Rattle.pact_record.specs.declared.values.Value.TheVariants.{Null, Int, Text}
use Rattle.pact_gen.specs.Generated.{generated, stepped}

-- `1,-752,t66`
first_row : generated 0 1 ≡ (Int (pos 1) ∷ Int (negsuc 751) ∷ Text (codes "t66") ∷ Null ∷ []) ∷ []
unfolding stepped digits
first_row = refl

no_row : generated 0 0 ≡ []
no_row = refl
