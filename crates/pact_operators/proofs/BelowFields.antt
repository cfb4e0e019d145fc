-- Attributes are fields of the program.
use Rattle.std.proofs.Common.{◌≡◌, ◌<◌, inl, inr, ℕ, zero, suc, List, [], ◌∷◌, arith}
use Rattle.std.specs.List.{AllByRecursion}
use Rattle.pact_record.specs.declared.columns.Column.{Column}
use Rattle.tac_syntax.specs.Valid.{IsValid, WithFields}
use Rattle.tac_syntax.proofs.Naming.{NamesBelow-valid}
use Rattle.tac_syntax.specs.declared.declarations.OpKind.{OpKind}
use Rattle.tac_syntax.specs.declared.declarations.OpKind.TheVariants.{Source, Map, Reduce, Match, Cross, CoGroup}
use Rattle.pact_operators.specs.declared.operators.Op.{Op}
use Rattle.plan_trees.specs.Plans.{PlanTree, leaf, over, both}
use Rattle.pact_bag.specs.SourceRows.{IsColumnField}
use Rattle.pact_operators.specs.Programs.{FunctionNames, HasAttribute, Owns, OwnsBy, fields_of, source_fields}
use Rattle.pact_record.proofs.Lists.{AllByRecursion-left, AllByRecursion-right}

-- the functions are valid, with this number of fields
pub record AreOf (fields : ℕ) (v : List WithFields) : Type 0 where
  pub same : AllByRecursion (λ v. v.fields ≡ fields) v
  pub valid : AllByRecursion (λ v. IsValid v.function v.fields) v

named-below : (fields : ℕ) (v : List WithFields) (n k : ℕ) → AllByRecursion (λ v. v.fields ≡ fields) v → AllByRecursion (λ v. IsValid v.function v.fields) v → FunctionNames v n k → k < fields
named-below fields [] n k same valid h = absurd h
named-below fields (w ∷ v) zero k same valid h = omega (arith, NamesBelow-valid w.function w.fields valid.0 k h, same.0)
named-below fields (w ∷ v) (suc n) k same valid h = named-below fields v n k same.1 valid.1 h

column-below : (fields k : ℕ) (columns : List Column) → AllByRecursion (λ j. j < fields) (fields_of columns) → IsColumnField k columns → k < fields
column-below fields k [] h c = absurd c
column-below fields k (x ∷ columns) h (inl e) = omega (arith, h.0, e)
column-below fields k (x ∷ columns) h (inr later) = column-below fields k columns h.1 later

own-below : (fields : ℕ) (kind : OpKind) (v : List WithFields) (op : Op) (k : ℕ) → AreOf fields v → AllByRecursion (λ j. j < fields) (fields_of op.columns) → OwnsBy kind v op k → k < fields
own-below fields Source v op k h c o = column-below fields k op.columns c o
own-below fields Map v op k h c o = named-below fields v op.function k h.same h.valid o
own-below fields Reduce v op k h c o = named-below fields v op.function k h.same h.valid o
own-below fields Match v op k h c o = named-below fields v op.function k h.same h.valid o
own-below fields Cross v op k h c o = named-below fields v op.function k h.same h.valid o
own-below fields CoGroup v op k h c o = named-below fields v op.function k h.same h.valid o

owned-below : (fields : ℕ) (v : List WithFields) (ops : List Op) (n k : ℕ) → AreOf fields v → AllByRecursion (λ j. j < fields) (source_fields ops) → Owns v ops n k → k < fields
owned-below fields v [] n k h c o = absurd o
owned-below fields v (op ∷ ops) zero k h c o = own-below fields op.kind v op k h (AllByRecursion-left (λ j. j < fields) (fields_of op.columns) (source_fields ops) c) o
owned-below fields v (op ∷ ops) (suc n) k h c o = owned-below fields v ops n k h (AllByRecursion-right (λ j. j < fields) (fields_of op.columns) (source_fields ops) c) o

pub attribute-below : (fields : ℕ) (v : List WithFields) (ops : List Op) (t : PlanTree) (k : ℕ) → AreOf fields v → AllByRecursion (λ j. j < fields) (source_fields ops) → HasAttribute v ops t k → k < fields
attribute-below fields v ops (leaf n) k h c a = owned-below fields v ops n k h c a
attribute-below fields v ops (over n t) k h c (inl o) = owned-below fields v ops n k h c o
attribute-below fields v ops (over n t) k h c (inr a) = attribute-below fields v ops t k h c a
attribute-below fields v ops (both n t u) k h c (inl o) = owned-below fields v ops n k h c o
attribute-below fields v ops (both n t u) k h c (inr (inl a)) = attribute-below fields v ops t k h c a
attribute-below fields v ops (both n t u) k h c (inr (inr a)) = attribute-below fields v ops u k h c a
