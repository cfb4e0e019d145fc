use Rattle.std.proofs.Common.{◌∙◌}
use Rattle.program_check.proofs.Refusals.{refused}
use Rattle.program_check.proofs.checking.refusal.Goals as goal

pub returns-in-Ok : goal.returns-in-Ok
returns-in-Ok c =
    refused c.args.rule c.args.candidate.now c.decls.result.now c.args.place c.code_of.result c.index-decls-place.result c.in-Ok.name c.requires.first c.requires.earlier c.decls.ensures.decls
    c.index-decls-place.is (c.in-Ok.ensures ∙ c.name_of.ensures.name) c.code_of.ensures
