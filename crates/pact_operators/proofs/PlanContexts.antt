-- The context of an operator in a plan has fields and keys of the program.
use Rattle.std.proofs.Common.{◌≡◌, ◌<◌, ◌↔◌, inl, inr, ℕ, zero, suc, IsTrue, List, [], ◌∷◌, slice_get, sym, subst, arith}
use Rattle.std.specs.List.{AllByRecursion}
use Rattle.std.proofs.lemmas.Bool.{false_from_ne_true}
use Rattle.pact_record.specs.FieldSets.{has_field}
use Rattle.pact_record.specs.Widths.{AreBelow}
use Rattle.plan_trees.specs.Plans.{PlanTree, leaf, over, both}
use Rattle.tac_syntax.specs.declared.declarations.OpKind.TheVariants.{Source}
use Rattle.tac_syntax.specs.Contexts.{IsBelow, IsContextOf}
use Rattle.tac_syntax.specs.declared.contexts.Context.{Context}
use Rattle.tac_syntax.specs.Valid.{WithFields}
use Rattle.pact_operators.specs.declared.operators.Op.{Op}
use Rattle.pact_operators.specs.PlanOps.{kind_at, left_keys_in, right_keys_in}
use Rattle.pact_operators.specs.Programs.{IsOpOf, IsProgram, HasLeftAttribute, ProgramData, HasRightAttribute, source_fields}
use Rattle.pact_operators.proofs.BelowFields.{AreOf, attribute-below}

pub left-below : (fields : ℕ) (v : List WithFields) (ops : List Op) (t : PlanTree) (k : ℕ) → AreOf fields v → AreBelow fields (source_fields ops) → HasLeftAttribute v ops t k → k < fields
left-below fields v ops (leaf n) k h c a = absurd a
left-below fields v ops (over n t) k h c a = attribute-below fields v ops t k h c a
left-below fields v ops (both n t u) k h c a = attribute-below fields v ops t k h c a

pub right-below : (fields : ℕ) (v : List WithFields) (ops : List Op) (t : PlanTree) (k : ℕ) → AreOf fields v → AreBelow fields (source_fields ops) → HasRightAttribute v ops t k → k < fields
right-below fields v ops (leaf n) k h c a = absurd a
right-below fields v ops (over n t) k h c a = absurd a
right-below fields v ops (both n t u) k h c a = attribute-below fields v ops u k h c a

-- a set in which each field is below the number of fields
pub set-below : (fields s : ℕ) → ((k : ℕ) → IsTrue (has_field s k) → k < fields) → IsBelow fields (has_field s)
set-below fields s h k past = false_from_ne_true (has_field s k) (λ e. let lt = h k e in absurd (omega (arith, past, lt)))

pub keys-below : (fields : ℕ) (v : List WithFields) (ops : List Op) (n : ℕ) → AllByRecursion (IsOpOf fields v) ops → (kind_at ops n ≡ Source → ⊥)
    → AreBelow fields (left_keys_in (slice_get ops n)) × AreBelow fields (right_keys_in (slice_get ops n))
keys-below fields v [] n h operator = (tt, tt)
keys-below fields v (op ∷ ops) zero h operator = elim h.0 [ inl source ↦ absurd (operator source) | inr o ↦ (o.left_below, o.right_below) ]
keys-below fields v (op ∷ ops) (suc n) h operator = keys-below fields v ops n h.1 operator

pub IsContextOf-plan : (p : ProgramData) (t : PlanTree) (n : ℕ) (c : Context) → IsProgram p
    → ((k : ℕ) → IsTrue (has_field c.left k) ↔ HasLeftAttribute p.functions p.ops t k)
    → ((k : ℕ) → IsTrue (has_field c.right k) ↔ HasRightAttribute p.functions p.ops t k)
    → c.left_keys ≡ left_keys_in (slice_get p.ops n) → c.right_keys ≡ right_keys_in (slice_get p.ops n)
    → (kind_at p.ops n ≡ Source → ⊥) → IsContextOf p.fields c
IsContextOf-plan p t n c h left right lk rk operator =
    let valid : AreOf p.fields p.functions = record { same = h.functions; valid = h.valid } in
    let keys = keys-below p.fields p.functions p.ops n h.ops operator in
    record {
      left = set-below p.fields c.left (λ k e. left-below p.fields p.functions p.ops t k valid h.columns_below ((left k).0 e));
      right = set-below p.fields c.right (λ k e. right-below p.fields p.functions p.ops t k valid h.columns_below ((right k).0 e));
      left_keys = subst (AreBelow p.fields) (sym lk) keys.0;
      right_keys = subst (AreBelow p.fields) (sym rk) keys.1;
    }
