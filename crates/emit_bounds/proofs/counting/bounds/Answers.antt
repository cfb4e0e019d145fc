use Rattle.std.proofs.Common.{ℕ, ap, subst, sym, ◌∙◌}
use Rattle.tac_syntax.specs.declared.functions.Function.{Function}
use Rattle.tac_syntax.specs.EmitBounds.{AreBounds, least_emits, most_emits}
use Rattle.tac_syntax.proofs.EmitCounts.{AreBounds-emits}
use Rattle.tac_syntax.proofs.WellFormed.{valid_is_well_formed}
use Rattle.emit_bounds.proofs.counting.bounds.Goals as goal

pub returns-clause-calls : goal.returns-clause-calls
returns-clause-calls c =
    let f = c.args.f.now.function in
    let low = c.emits_in-found.ensures.least ∙ ap (λ (g : Function). least_emits g.body) c.function.ensures.function in
    let high = c.emits_in-found.ensures.most ∙ ap (λ (g : Function). most_emits g.body) c.function.ensures.function in
    subst (λ (n : ℕ). AreBounds f.kind c.args.f.now.fields f.body n c.emits_in-found.result.most) (sym low)
    (subst (AreBounds f.kind c.args.f.now.fields f.body (least_emits f.body)) (sym high)
    (AreBounds-emits f.kind c.args.f.now.fields f.body (valid_is_well_formed f c.args.f.now.fields c.function.ensures.valid)))
