use Rattle.std.proofs.Common.{List, subst}
use Rattle.pact_operators.specs.declared.operators.Op.{Op}
use Rattle.pact_load.specs.NamedSources.{LacksSource}
use Rattle.pact_load.proofs.SourcesByName.{unnamed-Decides}
use Rattle.pact_load.proofs.named_sources.source_named.Goals as goal

pub returns-in-None : goal.returns-in-None
returns-in-None c =
    let name = c.args.name.now in
    unnamed-Decides c.args.program.now name c.unnamed_source.result (subst (λ (ops : List Op). LacksSource ops name) c.ops.ensures.ops c.in-None.ensures.none) c.unnamed_source.ensures
