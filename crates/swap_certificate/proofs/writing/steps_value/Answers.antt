use Rattle.std.proofs.Common.{List, ap, map, ◌∙◌}
use Rattle.std.proofs.lemmas.List.{take_all}
use Rattle.serde_json.specs.Data.{Data, array}
use Rattle.serde_json.specs.View.{items_of, view}
use Rattle.serde_json.proofs.Views.{view-Array}
use Rattle.swap_certificate.specs.Shape.{step_data}
use Rattle.swap_certificate.proofs.CertificateValues.{one_value_more}
use Rattle.swap_certificate.proofs.writing.steps_value.Goals as goal

pub loop-step-preserved : goal.loop-step-preserved
loop-step-preserved c =
    ap (map view) c.in_ok-push.ensures.items
    ∙ one_value_more c.loop-step.values.items c.args.steps.now c.loop-step.step-index c.in_ok-step_value.field-0 c.step-item.result c.loop-step.invariant c.loop-step-test.true c.step-item.is c.in_ok-step_value.ensures

pub returns : goal.returns
returns c =
    view-Array c.loop-step.values
    ∙ ap (λ (ds : List Data). array (items_of ds)) (c.loop-step.invariant ∙ ap (map step_data) (take_all c.loop-step.step-index c.args.steps.now c.loop-step-test.false))
