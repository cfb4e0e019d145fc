-- Consequences for a combined plan.
use Rattle.std.proofs.Common.{◌≡◌, ◌+◌, ℕ, zero, suc, inl, inr, List, [], ◌∷◌, ◌++◌, length, refl, sym, ap, subst, ◌∙◌, arith}
use Rattle.std.proofs.lemmas.Option.{same_Some}
use Rattle.plan_trees.specs.Physicals.{IsPhysical}
use Rattle.pact_operators.specs.declared.operators.Op.{Op}
use Rattle.pact_operators.specs.Allowed.{Bag}
use Rattle.pact_operators.specs.Inputs.{AreInputsOf}
use Rattle.pact_operators.specs.Insertions.{inserted_into}
use Rattle.pact_operators.specs.PlanOps.{is_source_kind}
use Rattle.pact_operators.specs.Programs.{IsPlanOf, IsProgram, ProgramData}
use Rattle.pact_operators.proofs.InsertedNames.{inserted-inputs, replaced-inputs}
use Rattle.pact_operators.proofs.InsertedPrograms.{slice_get-more}
use Rattle.combine_rule.specs.CombinedPrograms.{CanCombine, Planned, combined_at, merger_for, physical_at, sender_for, sender_op, IsCombinedFrom, IsCombinedPlan}
use Rattle.combine_rule.specs.CombinedRuns.{IsCountedFor}
use Rattle.combine_rule.proofs.CombinedPhysicals.{combined_counted_run}

-- ---- one more number

pub one_more : (count at m : ℕ) (s mid end : Planned) (of more : List (ℕ × ℕ)) → m ≡ at + count → IsCombinedFrom count at s mid of
    → IsCombinedFrom 1 m mid end more → IsCombinedFrom (suc count) at s end (of ++ more)
one_more zero at m s mid end of more e h g =
    subst (λ (x : Planned). IsCombinedFrom 1 at x end (of ++ more)) h.0
    (subst (λ (l : List (ℕ × ℕ)). IsCombinedFrom 1 at mid end (l ++ more)) (sym h.1) (subst (λ (k : ℕ). IsCombinedFrom 1 k mid end more) (omega (arith, e)) g))
one_more (suc n) at m s mid end of more e (inl h) g =
    inl (h.0, h.1 ++ more, ap (λ (l : List (ℕ × ℕ)). l ++ more) h.2, one_more n (at + 1) m (combined_at s at h.0) mid end h.1 more (omega (arith, e)) h.3 g)
one_more (suc n) at m s mid end of more e (inr h) g = inr (h.0, one_more n (at + 1) m s mid end of more (omega (arith, e)) h.1 g)

-- ---- unchanged parts

pub record HasSameRest (s end : Planned) : Type 0 where
  pub version : end.program.version ≡ s.program.version
  pub fields : end.program.fields ≡ s.program.fields
  pub sink : end.program.sink ≡ s.program.sink
  pub workers : end.physical.workers ≡ s.physical.workers

pub same_rest : (count at : ℕ) (s end : Planned) (of : List (ℕ × ℕ)) → IsCombinedFrom count at s end of → HasSameRest s end
same_rest zero at s end of h = record {
  version = ap (λ (x : Planned). x.program.version) h.0;
  fields = ap (λ (x : Planned). x.program.fields) h.0;
  sink = ap (λ (x : Planned). x.program.sink) h.0;
  workers = ap (λ (x : Planned). x.physical.workers) h.0;
}
same_rest (suc n) at s end of (inl h) = let r = same_rest n (at + 1) (combined_at s at h.0) end h.1 h.3 in record { version = r.version; fields = r.fields; sink = r.sink; workers = r.workers }
same_rest (suc n) at s end of (inr h) = same_rest n (at + 1) s end of h.1

one_inputs : (s : Planned) (at : ℕ) (c : CanCombine s at) (inputs : List Bag) → AreInputsOf s.program inputs → AreInputsOf (combined_at s at c).program inputs
one_inputs s at c inputs h =
    let N = sender_op (length s.program.ops) c.op in
    let S = sender_for s at c in
    let tree = (physical_at s at c).tree in
    let U : ProgramData = inserted_into s.program N S tree in
    let found = slice_get-more s.program.ops (record N { function = length s.program.functions } ∷ []) at c.op c.found in
    replaced-inputs U at (merger_for s at c) inputs (λ op e. ap (λ (o : Op). is_source_kind o.kind) (same_Some op c.op (sym e ∙ found)) ∙ ap is_source_kind c.kind)
    (inserted-inputs s.program N S tree inputs refl h)

pub kept_inputs : (count at : ℕ) (s end : Planned) (of : List (ℕ × ℕ)) → IsCombinedFrom count at s end of → (inputs : List Bag)
    → AreInputsOf s.program inputs → AreInputsOf end.program inputs
kept_inputs zero at s end of h inputs a = subst (λ (x : Planned). AreInputsOf x.program inputs) (sym h.0) a
kept_inputs (suc n) at s end of (inl h) inputs a = kept_inputs n (at + 1) (combined_at s at h.0) end h.1 h.3 inputs (one_inputs s at h.0 inputs a)
kept_inputs (suc n) at s end of (inr h) inputs a = kept_inputs n (at + 1) s end of h.1 inputs a

pub counted_for : (s end : Planned) (of : List (ℕ × ℕ)) → IsCombinedPlan s end of → IsProgram s.program → IsPhysical s.physical
    → IsPlanOf s.program.functions s.program.ops s.physical.tree → IsCountedFor s end
counted_for s end of h program physical plan inputs rows counts r = combined_counted_run s end of h inputs program r.of_inputs physical plan r.legal rows counts r.run
