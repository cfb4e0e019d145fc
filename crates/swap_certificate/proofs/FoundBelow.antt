-- The sets found for an operator of a program have only fields of the program.
use Rattle.std.proofs.Common.{◌≡◌, ◌↔◌, inl, inr, ℕ, Bool, true, false, refl, sym, subst, arith}
use Rattle.std.proofs.lemmas.Bool.{false_from_ne_true}
use Rattle.pact_record.specs.FieldSets.{has_field}
use Rattle.tac_syntax.specs.declared.declarations.OpKind.TheVariants.{Source}
use Rattle.tac_syntax.specs.Bounded.{NamesBelow}
use Rattle.tac_syntax.specs.Code.{Code}
use Rattle.tac_syntax.specs.Contexts.{Has, IsBelow, IsContextOf}
use Rattle.tac_syntax.proofs.Naming.{NamesBelow-valid}
use Rattle.tac_flow.specs.Results.{FoundSets, IsTouched}
use Rattle.tac_flow.specs.Views.{found_of}
use Rattle.tac_flow.proofs.NotesBelowFields.{AreBelowFields, sets_below}
use Rattle.plan_trees.specs.Plans.{PlanTree, subtree_of}
use Rattle.pact_operators.specs.PlanOps.{kind_at}
use Rattle.pact_operators.specs.Programs.{IsProgram, ProgramData}
use Rattle.pact_operators.proofs.CalledFunctions.{called_function}
use Rattle.reorder_pair.specs.declared.finding.Found.{Found}
use Rattle.reorder_pair.specs.Places.{IsFound}
use Rattle.reorder_pair.proofs.FoundOperators.{found_in, of_fields}

-- the set has no field from this number on
abbrev pub EndsAt : ℕ → ℕ → Type 0
EndsAt n set = IsBelow n (has_field set)

pub record EndSets (n : ℕ) (s : Found) : Type 0 where
  pub reads : EndsAt n s.sets.reads
  pub writes : EndsAt n s.sets.writes
  pub control : EndsAt n s.sets.control
  pub touched : EndsAt n s.sets.touched

true_or_not : (b : Bool) → b ≡ false → b ≡ true → ⊥
true_or_not true e h = cc
true_or_not false e h = cc

touched_below : (n : ℕ) (s : FoundSets) (body : Code) (touched : ℕ) → AreBelowFields n s → NamesBelow n body → ((k : ℕ) → Has (has_field touched) k ↔ IsTouched s n body k) → EndsAt n touched
touched_below n s body touched h names is k le = false_from_ne_true (has_field touched k) (λ e. none ((is k).0 e)) where
  none : IsTouched s n body k → ⊥
  none (inl r) = true_or_not (s.reads k) (h.reads k le) r
  none (inr (inl w)) = true_or_not (s.writes k) (h.writes k le) w
  none (inr (inr m)) = omega (arith, le, names k m)

pub found_ends : (p : ProgramData) (n : ℕ) (before after : PlanTree) (s : Found) → IsProgram p → (kind_at p.ops n ≡ Source → ⊥) → IsFound p n before after s → EndSets p.fields s
found_ends p n before after s program operator h =
    let there = found_in p n before after (subtree_of n before) (subtree_of n after) s refl refl h in
    let f = there.function in
    let called = (called_function p program n f operator there.function_is).1 in
    let small = subst (λ (k : ℕ). IsContextOf k there.context) (sym called.fields) (of_fields p program n (subtree_of n before) (subtree_of n after) s there operator) in
    let below = subst (AreBelowFields f.fields) (sym there.sets) (sets_below f there.context called.valid small) in
    let touched = touched_below f.fields (found_of s.sets) f.function.body s.sets.touched below (NamesBelow-valid f.function f.fields called.valid) there.touched in
    subst (λ (k : ℕ). EndSets k s) called.fields (record { reads = below.reads; writes = below.writes; control = below.control; touched = touched })
