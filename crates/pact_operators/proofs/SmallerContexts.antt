-- What holds for the calls of an operator in a context holds in one with fewer fields.
use Rattle.std.proofs.Common.{◌≡◌, ◌⊎◌, inl, inr, ℕ, List, length, sym, subst}
use Rattle.pact_record.specs.declared.values.Value.{Value}
use Rattle.tac_syntax.specs.declared.contexts.Side.{Side}
use Rattle.tac_syntax.specs.declared.functions.Kind.{Kind}
use Rattle.tac_syntax.specs.declared.functions.Kind.TheVariants as kinds
use Rattle.tac_syntax.specs.Call.{CallInput, of_record, of_pair, of_group, of_groups, Out}
use Rattle.tac_syntax.specs.Contexts.{FieldSet, Ports}
use Rattle.pact_record.specs.Record.{Agree}
use Rattle.tac_syntax.specs.Forms.{AreApart, AreKeyed, HasForm, HaveKey, IsLawful, KeepsGroups, left_records, right_records}
use Rattle.pact_operators.specs.Allowed.{Bag}
use Rattle.pact_operators.specs.PlanOps.{plan_ops, body_at}
use Rattle.pact_operators.specs.Programs.{ProgramData}
use Rattle.pact_operators.specs.SoundOps.{called}
use Rattle.pact_operators.proofs.SoundPrograms.{all_called}
use Rattle.pact_operators.proofs.WithinFields.{IsCovered, all_within_larger}

-- fewer fields and the same keys; the two sides share no field if those of the larger context share none
pub record IsSmaller (c d : Ports) : Type 0 where
  pub left : IsCovered c.left d.left
  pub right : IsCovered c.right d.right
  pub left_keys : c.left_keys ≡ d.left_keys
  pub right_keys : c.right_keys ≡ d.right_keys
  pub apart : AreApart c.left c.right → AreApart d.left d.right

keyed_in_larger : (c d : Ports) (x : CallInput) → IsSmaller c d → AreKeyed c x → AreKeyed d x
keyed_in_larger c d (of_record row) s h = tt
keyed_in_larger c d (of_pair l r) s h = tt
keyed_in_larger c d (of_group key group) s h = subst (λ (ks : List ℕ). HaveKey ks key group) s.left_keys h
keyed_in_larger c d (of_groups key l r) s h = (subst (λ (ks : List ℕ). HaveKey ks key l) s.left_keys h.0, subst (λ (ks : List ℕ). HaveKey ks key r) s.right_keys h.1)

pub lawful_in_larger : (kind : Kind) (fields : ℕ) (c d : Ports) (x : CallInput) → IsSmaller c d → IsLawful kind fields c x → IsLawful kind fields d x
lawful_in_larger kind fields c d x s h = record {
  apart = s.apart h.apart;
  called = h.called;
  some = h.some;
  keyed = keyed_in_larger c d x s h.keyed;
  left = all_within_larger fields c.left d.left (left_records x) s.left h.left;
  right = all_within_larger fields c.right d.right (right_records x) s.right h.right;
}

pub form_in_smaller : (kind : Kind) (fields : ℕ) (c d : Ports) (reads writes : FieldSet) (side : Side) (call : CallInput → Bag) → IsSmaller c d
    → HasForm kind fields d reads writes side call → HasForm kind fields c reads writes side call
form_in_smaller kind fields c d reads writes side call s h = λ x y lx ly agree. h x y (lawful_in_larger kind fields c d x s lx) (lawful_in_larger kind fields c d y s ly) agree

pub groups_in_smaller : (fields : ℕ) (c d : Ports) (keys : FieldSet) (call : CallInput → Bag) → IsSmaller c d → KeepsGroups fields d keys call → KeepsGroups fields c keys call
groups_in_smaller fields c d keys call s h = record {
  few = λ r lr. h.few r (larger r lr);
  decided = elim h.decided as (λ _. ((r : List Value) → IsLawful kinds.Map fields c (of_record r) → length (call (of_record r)) ≡ 1)
      ⊎ ((r q : List Value) → IsLawful kinds.Map fields c (of_record r) → IsLawful kinds.Map fields c (of_record q) → Agree keys r q → length (call (of_record r)) ≡ length (call (of_record q)))) [
        | inl one ↦ inl (λ r lr. one r (larger r lr))
        | inr as_many ↦ inr (λ r q lr lq agree. as_many r q (larger r lr) (larger q lq) agree)
      ];
} where
  larger : (r : List Value) → IsLawful kinds.Map fields c (of_record r) → IsLawful kinds.Map fields d (of_record r)
  larger r lr = lawful_in_larger kinds.Map fields c d (of_record r) s lr

-- ---- a body, and the operator that calls it

pub form_of_ops : (p : ProgramData) (inputs : List Bag) (n : ℕ) (kind : Kind) (c : Ports) (reads writes : FieldSet) (side : Side) → HasForm kind p.fields c reads writes side (Out p.fields (body_at p n))
    → HasForm kind p.fields c reads writes side (called (plan_ops p inputs) n)
form_of_ops p inputs n kind c reads writes side h = subst (HasForm kind p.fields c reads writes side) (sym (all_called p inputs n)) h

pub groups_of_ops : (p : ProgramData) (inputs : List Bag) (n : ℕ) (c : Ports) (keys : FieldSet) → KeepsGroups p.fields c keys (Out p.fields (body_at p n)) → KeepsGroups p.fields c keys (called (plan_ops p inputs) n)
groups_of_ops p inputs n c keys h = subst (KeepsGroups p.fields c keys) (sym (all_called p inputs n)) h
