-- A record that takes the fields of a set from one record, and the others from a second.
use Rattle.std.proofs.Common.{◌≡◌, ℕ, zero, suc, cond, List, [], ◌∷◌, length, refl, ap, arith}
use Rattle.std.proofs.lemmas.Bool.{cond_both}
use Rattle.pact_record.specs.declared.values.Value.{Value}
use Rattle.pact_record.specs.declared.values.Value.TheVariants.{Null}
use Rattle.pact_record.specs.Record.{at_field}
use Rattle.tac_syntax.specs.Contexts.{FieldSet}

pub mix : FieldSet → List Value → List Value → List Value
mix W [] s = []
mix W (a ∷ r) [] = []
mix W (a ∷ r) (b ∷ s) = cond (W 0) a b ∷ mix (λ k. W (suc k)) r s

pub length-mix : (W : FieldSet) (r s : List Value) → length r ≡ length s → length (mix W r s) ≡ length r
unfolding mix
length-mix W [] s e = refl
length-mix W (a ∷ r) [] e = absurd (omega (arith, e))
length-mix W (a ∷ r) (b ∷ s) e = ap suc (length-mix (λ k. W (suc k)) r s (omega (arith, e)))

pub at_field-mix : (W : FieldSet) (r s : List Value) (i : ℕ) → length r ≡ length s → at_field (mix W r s) i ≡ cond (W i) (at_field r i) (at_field s i)
unfolding mix
at_field-mix W [] [] i e = cond_both (W i) Null Null (λ v. Null ≡ v) (λ is. refl) (λ out. refl)
at_field-mix W [] (b ∷ s) i e = absurd (omega (arith, e))
at_field-mix W (a ∷ r) [] i e = absurd (omega (arith, e))
at_field-mix W (a ∷ r) (b ∷ s) zero e = refl
at_field-mix W (a ∷ r) (b ∷ s) (suc i) e = at_field-mix (λ k. W (suc k)) r s i (omega (arith, e))
