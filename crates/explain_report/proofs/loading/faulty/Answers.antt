use Rattle.std.proofs.Common.{Some, refl, ap, ◌∙◌, ◌++◌, List, ℕ}
use Rattle.pact_load.specs.Answers.{refusal_line}
use Rattle.pact_load.specs.RefusalLines.{text_line}
use Rattle.explain_report.specs.declared.explanations.Explanation.{Explanation}
use Rattle.explain_report.proofs.TextStages.{fault_told, whole_page}
use Rattle.explain_report.proofs.loading.faulty.Goals as goal

pub returns : goal.returns
returns c =
    let told = c.in_ok-told.told in
    let e : Explanation = record { status = told.status; text = told.text; spot = Some c.in_ok-spot.spot } in
    let put = c.in_ok-put_text_fault.ensures in
    let r = c.text_refused-refusal.result in
    let shown = whole_page _ _ put.0 c.bytes.result.now c.new-page.ensures put.1 c.bytes.ensures in
    let said = fault_told (text_line c.args.name.now c.args.fault.line c.args.fault.what) put.0 r e c.in_default.not-OutOfMemory c.text_refused-refusal.ensures
    c.in_ok-told.ensures.status (c.in_ok-told.ensures.text ∙ ap (λ (t : List ℕ). refusal_line r ++ t) shown) in
    record {
      status = said.0;
      spot = c.in_ok-spot.spot;
      below = put.0;
      begins = said.1;
      printed = put.2;
      shown = refl;
      right = c.in_ok-spot.ensures;
    }
