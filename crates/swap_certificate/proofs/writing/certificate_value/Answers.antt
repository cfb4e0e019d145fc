use Rattle.std.proofs.Common.{List, sym, subst}
use Rattle.std.specs.List.{AllByRecursion}
use Rattle.tac_syntax.specs.Versions.{field_limit}
use Rattle.swap_certificate.specs.declared.certificates.Step.{Step}
use Rattle.swap_certificate.specs.Shape.{MayBeStep}
use Rattle.swap_certificate.proofs.writing.certificate_value.Goals as goal

pub steps_value-requires : goal.steps_value-requires
steps_value-requires c =
    let most = field_limit c.args.c.now.version in
    (most, subst (λ (steps : List Step). AllByRecursion (MayBeStep most) steps) (sym c.steps.ensures) c.requires.steps)
