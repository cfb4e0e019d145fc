-- The function that an operator of a program calls: it is valid, of the operator's kind, with the program's fields and the operator's keys.
use Rattle.std.proofs.Common.{◌≡◌, ◌<◌, ℕ, zero, suc, List, [], ◌∷◌, inl, inr, Option, Some, None, length, get_or, slice_get, refl, ap, sym, ◌∙◌, subst, arith}
use Rattle.std.proofs.lemmas.Option.{same_Some, slice_get_read, slice_get_within}
use Rattle.pact_record.specs.Widths.{AreBelow}
use Rattle.pact_record.proofs.Lists.{AllByRecursion-slice_get}
use Rattle.tac_syntax.specs.Valid.{IsValid, WithFields}
use Rattle.tac_syntax.specs.declared.declarations.OpKind.TheVariants.{Source}
use Rattle.pact_operators.specs.declared.operators.Op.{Op}
use Rattle.pact_operators.specs.PlanOps.{body_at, function_in, kind_at, kind_in}
use Rattle.pact_operators.specs.Programs.{HasKeyLists, IsKindFor, IsOpOf, IsOperatorOf, IsProgram, ProgramData, body_of}
use Rattle.pact_operators.specs.SoundOps.{function_kind}
use Rattle.pact_operators.proofs.OwnFields.{body_of-some}
use Rattle.pact_operators.proofs.SoundPrograms.{function_kind-for}

pub record IsCalled (p : ProgramData) (at : ℕ) (op : Op) (v : WithFields) : Type 0 where
  pub found : slice_get p.ops at ≡ Some op
  pub below : op.function < length p.functions
  pub valid : IsValid v.function v.fields
  pub fields : v.fields ≡ p.fields
  pub body : v.function.body ≡ body_at p at
  pub kind : IsKindFor op.kind v.function.kind
  pub keys : HasKeyLists op.kind v.function.keys op.left_keys op.right_keys
  pub left_below : AreBelow v.fields op.left_keys
  pub right_below : AreBelow v.fields op.right_keys

-- the function is of the operator's kind
pub called_kind : (p : ProgramData) (at : ℕ) (op : Op) (v : WithFields) → IsCalled p at op v → v.function.kind ≡ function_kind (kind_at p.ops at)
called_kind p at op v c = sym (function_kind-for op.kind v.function.kind c.kind) ∙ ap (λ (g : Option Op). function_kind (kind_in g)) (sym c.found)

-- a number past the last operator has a source's kind
pub operator-below : (ops : List Op) (n : ℕ) → (kind_at ops n ≡ Source → ⊥) → n < length ops
operator-below [] n h = absurd (h refl)
operator-below (op ∷ ops) zero h = omega arith
operator-below (op ∷ ops) (suc n) h = omega (arith, operator-below ops n h)

module _ (p : ProgramData) (program : IsProgram p) (at : ℕ) (op : Op) (operator : kind_at p.ops at ≡ Source → ⊥) where
  pub is_operator : slice_get p.ops at ≡ Some op → IsOperatorOf p.fields p.functions op
  is_operator found = elim (AllByRecursion-slice_get (IsOpOf p.fields p.functions) p.ops at op program.ops found) as (λ _. IsOperatorOf p.fields p.functions op) [
    | inl source ↦ absurd (operator (ap kind_in found ∙ source))
    | inr h ↦ h
  ]

  -- if `get` returns them for the two numbers
  pub called_at : (v : WithFields) → slice_get p.ops at ≡ Some op → slice_get p.functions op.function ≡ Some v → IsCalled p at op v
  called_at v found function =
      let h = is_operator found in
      let same : h.called ≡ v = same_Some h.called v (sym h.function ∙ function) in
      let fields = AllByRecursion-slice_get (λ (w : WithFields). w.fields ≡ p.fields) p.functions op.function v program.functions function in
      record {
        found = found;
        below = slice_get_within p.functions op.function v function;
        valid = AllByRecursion-slice_get (λ (w : WithFields). IsValid w.function w.fields) p.functions op.function v program.valid function;
        fields = fields;
        body = sym (body_of-some p.functions op.function v function) ∙ ap (λ (o : Option Op). body_of p.functions (function_in o)) (sym found);
        kind = subst (λ (w : WithFields). IsKindFor op.kind w.function.kind) same h.kind;
        keys = subst (λ (w : WithFields). HasKeyLists op.kind w.function.keys op.left_keys op.right_keys) same h.keys;
        left_below = subst (λ (n : ℕ). AreBelow n op.left_keys) (sym fields) h.left_below;
        right_below = subst (λ (n : ℕ). AreBelow n op.right_keys) (sym fields) h.right_below;
      }

  module _ (is : op ≡ get_or p.ops at op) where
    operator_read : slice_get p.ops at ≡ Some op
    operator_read = slice_get_read p.ops (length p.ops) at op refl (operator-below p.ops at operator) is

    pub function_below : op.function < length p.functions
    function_below = let h = is_operator operator_read in slice_get_within p.functions op.function h.called h.function

    -- if indexing returns them
    pub is_called : (v : WithFields) → v ≡ get_or p.functions op.function v → IsCalled p at op v
    is_called v found = called_at v operator_read (slice_get_read p.functions (length p.functions) op.function v refl function_below found)

-- an operator is given by its number only
module _ (p : ProgramData) (program : IsProgram p) (at : ℕ) (v : WithFields) (operator : kind_at p.ops at ≡ Source → ⊥) where
  by_op : (g : Option Op) → slice_get p.ops at ≡ g → (kind_in g ≡ Source → ⊥) → slice_get p.functions (function_in g) ≡ Some v → (op : Op) × IsCalled p at op v
  by_op None e o function = absurd (o refl)
  by_op (Some op) e o function = (op, called_at p program at op operator v e function)

  pub called_function : slice_get p.functions (function_in (slice_get p.ops at)) ≡ Some v → (op : Op) × IsCalled p at op v
  called_function function = by_op (slice_get p.ops at) refl operator function
