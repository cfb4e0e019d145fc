use Rattle.std.proofs.Common.{ℕ, List, subst, ◌∙◌}
use Rattle.std.proofs.lemmas.Result.{IfOk-weaker}
use Rattle.drill_program.specs.Summary as specs
use Rattle.bag_lines.specs.Lines.{AreLines}
use Rattle.pact_top.proofs.generating.summary.Goals as goal

pub returns : goal.returns
returns g c =
    let spelled = subst (λ (sink : List ℕ). AreLines sink c.args.bag c.in_ok-lines.lines) c.sink.ensures.sink c.in_ok-lines.ensures in
    IfOk-weaker c.summary_text.result _ _ (λ text e. record { lines = c.in_ok-lines.lines; spelled = spelled; told = e ∙ (λ i. specs.summary_text (c.from.ensures i) (c.len-out.ensures i) (c.bytes.ensures i)) }) c.summary_text.ensures
