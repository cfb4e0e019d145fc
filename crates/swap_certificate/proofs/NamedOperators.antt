-- The first operators that don't have a name.
use Rattle.std.proofs.Common.{◌≡◌, ◌<◌, ◌≤◌, ◌+◌, inl, inr, ℕ, List, Some, get_or, length, slice_get, sym, subst, ◌∙◌, arith}
use Rattle.std.proofs.lemmas.Bool.{cases_lt}
use Rattle.std.proofs.lemmas.Option.{get_or_from_slice_get, slice_get_within}
use Rattle.tac_syntax.specs.declared.declarations.OpKind.TheVariants.{Source}
use Rattle.pact_operators.specs.declared.operators.Op.{Op}
use Rattle.swap_certificate.specs.PlanLines.{IsNamed}

module _ (ops : List Op) (name : List ℕ) where
  -- none of the first operators has the name
  abbrev AreUnnamed : ℕ → Type 0
  AreUnnamed count = (n : ℕ) → n < count → IsNamed ops name n → ⊥

  pub unnamed-next : (count : ℕ) (op : Op) → op ≡ get_or ops count op → ((op.kind ≡ Source → ⊥) × (op.name ≡ name) → ⊥) → AreUnnamed count → AreUnnamed (count + 1)
  unnamed-next count op is other before n less named = elim (cases_lt n count) as (λ _. ⊥) [
    | inl below ↦ before n below named
    | inr above ↦ (
        let last : n ≡ count = omega (arith, less, above) in
        let there : named.0 ≡ op = sym (get_or_from_slice_get ops count named.0 op (subst (λ (k : ℕ). slice_get ops k ≡ Some named.0) last named.1)) ∙ sym is in
        other (subst (λ (o : Op). (o.kind ≡ Source → ⊥) × (o.name ≡ name)) there (named.2, named.3))
        )
  ]

  pub unnamed-all : (count : ℕ) → length ops ≤ count → AreUnnamed count → (n : ℕ) → IsNamed ops name n → ⊥
  unnamed-all count past none n named = let within = slice_get_within ops n named.0 named.1 in none n (omega (arith, past, within)) named
