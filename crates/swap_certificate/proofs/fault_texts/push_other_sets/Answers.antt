use Rattle.std.proofs.Common.{◌++◌, ◌-◌, List, codes, slice_get, ap, ◌∙◌}
use Rattle.std.proofs.lemmas.Result.{on_ok_weaker}
use Rattle.swap_certificate.specs.declared.certificates.Step.{Step}
use Rattle.swap_certificate.specs.FaultTexts as texts
use Rattle.swap_certificate.proofs.ToldLines.{three_behind}
use Rattle.swap_certificate.proofs.fault_texts.push_other_sets.Goals as goal

pub returns : goal.returns
returns c =
    let a = c.args in
    let number = a.step - 1 in
    let stated = c.in_ok-push_stated.ensures ∙ ap (λ (steps : List Step). c.push_step.new.text ++ texts.stated_lines (slice_get steps number)) c.steps.ensures in
    on_ok_weaker c.push_found.result
    (λ found. three_behind a.text.now c.push_step.new.text c.push_stated.new.text c.push_found.new.text (texts.step_line a.step (codes "C3")) (texts.stated_lines (slice_get a.c.now.steps number))
    (texts.both_lines (codes "found") a.upper.now a.lower.now) c.in_ok-push_step.ensures stated found) c.push_found.ensures
