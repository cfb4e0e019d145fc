use Rattle.std.proofs.Common.{sym, subst, ◌∙◌}
use Rattle.std.proofs.lemmas.Option.{same_Some}
use Rattle.tac_syntax.specs.Valid.{IsValid, WithFields}
use Rattle.reorder_pair.proofs.ComposedFindings.{composed-found}
use Rattle.reorder_pair.proofs.corners.from_corners.Goals as goal

pub returns : goal.returns
returns c =
    let f = c.requires.cornered.called in
    let is = same_Some c.function_at.result.now f (sym c.function_at.ensures.function ∙ c.requires.cornered.function) in
    let valid = subst (λ (w : WithFields). IsValid w.function w.fields) is c.function-function.ensures.valid in
    composed-found c.args.program.now c.args.at f c.args.context.now c.args.corners.now valid c.requires.operator.fields c.requires.cornered.function c.requires.cornered.corners c.requires.corners c.composed.result c.composed.ensures
