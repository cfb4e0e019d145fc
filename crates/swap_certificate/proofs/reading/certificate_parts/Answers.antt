use Rattle.std.proofs.Common.{◌≡◌, ap, sym, ◌∙◌}
use Rattle.serde_json.specs.Data.{Data}
use Rattle.serde_json.specs.View.{members_view, view}
use Rattle.swap_certificate.specs.Shape.{certificate_with}
use Rattle.swap_certificate.proofs.ReadBack.{if_none, next_rest, object-members}
use Rattle.swap_certificate.proofs.reading.certificate_parts.Goals as goal

pub returns-in_err-version-clause-none : goal.returns-in_err-version-clause-none
returns-in_err-version-clause-none c =
    let refused : (plan steps version : Data) → view c.args.value.now ≡ certificate_with plan steps version → ⊥ = λ plan steps version e.
    let all = ap members_view c.iter-members.ensures.rest ∙ object-members (view c.args.value.now) _ _ (sym c.in_ok-as_object.ensures) e in
    let behind_plan = next_rest _ _ _ _ _ _ c.in_ok-plan.ensures.some all in
    let behind_steps = next_rest _ _ _ _ _ _ c.in_ok-steps.ensures.some behind_plan in
    c.in_err-version.ensures.none version _ behind_steps in
    if_none _ refused
