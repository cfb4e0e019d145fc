-- The analysis of an operator's function finds what the facts of its plan say.
use Rattle.std.proofs.Common.{◌≡◌, ℕ, Some, slice_get, refl, sym, ◌∙◌}
use Rattle.pact_record.specs.FieldSets.{has_field}
use Rattle.tac_syntax.specs.declared.contexts.Context.{Context}
use Rattle.tac_syntax.specs.declared.declarations.OpKind.{OpKind}
use Rattle.tac_syntax.specs.declared.declarations.OpKind.TheVariants.{Source, Map, Reduce, Match, Cross, CoGroup}
use Rattle.tac_syntax.specs.Valid.{WithFields}
use Rattle.tac_flow.specs.Results.{FoundSets, sets_of}
use Rattle.tac_flow.specs.Views.{sets_in}
use Rattle.pact_operators.specs.PlanOps.{function_in, kind_at, left_keys_in, right_keys_in}
use Rattle.pact_operators.specs.Programs.{IsProgram, ProgramData}
use Rattle.pact_operators.proofs.CalledFunctions.{called_function, called_kind}
use Rattle.ship_strategy.specs.PlanFacts.{sets_at, unless_source}

pub operator_sets : (kind : OpKind) (s : FoundSets) → (kind ≡ Source → ⊥) → unless_source kind s ≡ s
operator_sets Source s operator = absurd (operator refl)
operator_sets Map s operator = refl
operator_sets Reduce s operator = refl
operator_sets Match s operator = refl
operator_sets Cross s operator = refl
operator_sets CoGroup s operator = refl

module _ (p : ProgramData) (program : IsProgram p) (n : ℕ) (v : WithFields) (operator : kind_at p.ops n ≡ Source → ⊥) where
  pub sets_are : (x : Context) (s : FoundSets) → slice_get p.functions (function_in (slice_get p.ops n)) ≡ Some v → x.left_keys ≡ left_keys_in (slice_get p.ops n) → x.right_keys ≡ right_keys_in (slice_get p.ops n)
      → s ≡ sets_in v x → s ≡ sets_at p n (has_field x.left) (has_field x.right)
  sets_are x s function left_keys right_keys is =
      let found = called_function p program n v operator function in
      let c = found.1 in
      let kind = called_kind p n found.0 v c in
      is
      ∙ (λ i. sets_of (record { kind = kind i; fields = c.fields i; left = has_field x.left; right = has_field x.right; left_keys = left_keys i; right_keys = right_keys i }) (c.body i))
      ∙ sym (operator_sets (kind_at p.ops n) _ operator)
