use Rattle.std.proofs.Common.{ℕ, ap, subst}
use Rattle.tac_syntax.specs.Declarations.{IsSpelledDecl}
use Rattle.program_text.specs.ProgramStates.{declares, drafted}
use Rattle.program_text.proofs.program_reading.decl_words.Goals as goal

pub push-requires : goal.push-requires
push-requires c = subst (λ (v : ℕ). IsSpelledDecl v c.in_ok-decl.decl) c.version.ensures.version c.in_ok-decl.ensures.decl.0

pub returns-in-Ok-clause-leads : goal.returns-in-Ok-clause-leads
returns-in-Ok-clause-leads c = (declares c.in_ok-decl.decl, c.in_ok-decl.ensures.decl.1, subst (λ (v : ℕ). IsSpelledDecl v c.in_ok-decl.decl) c.version.ensures.version c.in_ok-decl.ensures.decl.0, ap drafted c.in-Ok.ensures.ok)
