-- A draft that is refused breaks a rule, so one that keeps every rule isn't refused.
use Rattle.std.proofs.Common.{◌≡◌, ◌++◌, inl, inr, ℕ, List, [], ◌∷◌, refl, subst, sym, append_assoc, append-nil}
use Rattle.std.proofs.lemmas.Bool.{both_ways}
use Rattle.tac_syntax.specs.Valid.{WithFields}
use Rattle.program_check.specs.declared.checking.NotProgram.{NotProgram}
use Rattle.program_check.specs.declared.checking.NotProgram.TheVariants.{Bad, Memory}
use Rattle.tac_syntax.specs.declared.declarations.Decl.{Decl}
use Rattle.program_check.specs.declared.program_rules.ProgramRule.{ProgramRule}
use Rattle.program_check.specs.Checks.{IsToldBy}
use Rattle.tac_syntax.specs.Drafts.{DraftData}
use Rattle.program_check.specs.ProgramRules.{Breaks, IsBrokenAt, IsRefused, Keeps, NoneBreaks, has_no_single_sink}

pub none_breaks : (rule : ProgramRule) (d : DraftData) (v : List WithFields) (before front : List Decl) (decl : Decl) (later : List Decl) → NoneBreaks rule d v before (front ++ decl ∷ later)
    → ¬ Breaks rule d v (before ++ front) decl
none_breaks rule d v before [] decl later h = subst (λ (ds : List Decl). ¬ Breaks rule d v ds decl) (sym (append-nil before)) h.0
none_breaks rule d v before (x ∷ front) decl later h =
    subst (λ (ds : List Decl). ¬ Breaks rule d v ds decl) (append_assoc before (x ∷ []) front) (none_breaks rule d v (before ++ x ∷ []) front decl later h.1)

pub broken_not_kept : (rule : ProgramRule) (d : DraftData) (v : List WithFields) (name : List ℕ) → Keeps rule d v → IsBrokenAt rule d v name → ⊥
broken_not_kept rule d v name h (inl first) =
    none_breaks rule d v [] first.front first.decl first.later (subst (NoneBreaks rule d v []) first.decls h.0) first.breaks
broken_not_kept rule d v name h (inr sinks) = both_ways (has_no_single_sink d) (h.1 sinks.0) sinks.1

pub refused_not_kept : (d : DraftData) (v : List WithFields) (code : ℕ) (name : List ℕ) → IsRefused d v code name → ((rule : ProgramRule) → Keeps rule d v) → ⊥
refused_not_kept d v code name told h = broken_not_kept told.rule d v name (h told.rule) told.broken

pub memory-alone : (d : DraftData) (v : List WithFields) (e : NotProgram) → IsToldBy d v e → ((rule : ProgramRule) → Keeps rule d v) → e ≡ Memory
memory-alone d v (Bad code name) told h = absurd (refused_not_kept d v code name told h)
memory-alone d v Memory told h = refl
