-- How far a candidate is checked, and what is reported of one that is refused.
use Rattle.std.specs.Prelude.{◌≡◌, ◌<◌, ℕ, Some, List, [], length, slice_get, take}
use Rattle.program_check.specs.declared.checking.NotProgram.{NotProgram}
use Rattle.program_check.specs.declared.checking.NotProgram.TheVariants.{Bad, Memory}
use Rattle.tac_syntax.specs.declared.declarations.Decl.{Decl}
use Rattle.program_check.specs.declared.program_rules.ProgramRule.{ProgramRule}
use Rattle.program_check.specs.Candidates.{CandidateData}
use Rattle.tac_syntax.specs.Drafts.{DraftData}
use Rattle.program_check.specs.ProgramRules.{Breaks, IsRefused, Keeps, NoneBreaks, order_of}
use Rattle.tac_syntax.specs.Valid.{WithFields}

-- None of the rules before this place in their order is broken.
abbrev pub KeepsBefore : ℕ → CandidateData → Type 0
KeepsBefore n c = (other : ProgramRule) → order_of other < n → Keeps other c.draft c.valids

-- The declaration at this place is the first that breaks the rule.
pub record BreaksFirstAt (rule : ProgramRule) (c : CandidateData) (n : ℕ) : Type 0 where
  pub within : n < length c.draft.decls
  pub earlier : NoneBreaks rule c.draft c.valids [] (take n c.draft.decls)
  pub breaks : (decl : Decl) → slice_get c.draft.decls n ≡ Some decl → Breaks rule c.draft c.valids (take n c.draft.decls) decl

-- The result names the first rule that is broken, and where; out of memory says nothing.
abbrev pub IsToldBy : DraftData → List WithFields → NotProgram → Type 0
IsToldBy d valids (Bad code name) = IsRefused d valids code name
IsToldBy d valids Memory = Unit {0}
