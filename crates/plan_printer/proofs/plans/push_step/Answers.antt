use Rattle.std.proofs.Common.{◌≡◌, ◌++◌, ℕ, List, append_assoc, ap, codes, decimal, slice_get, ◌∙◌}
use Rattle.std.proofs.lemmas.Result.{IfOk-weaker}
use Rattle.pact_operators.specs.declared.operators.Op.{Op}
use Rattle.reorder_pair.specs.Rules.{word_of}
use Rattle.plan_printer.specs.FoundText.{found_text}
use Rattle.plan_printer.specs.PlanText.{operator_name}
use Rattle.plan_printer.proofs.plans.push_step.Goals as goal

-- stated for any texts, so that the proof doesn't unfold the text of the findings
findings_behind : (text first all a b c d e f name rest : List ℕ) → f ≡ name → first ≡ text ++ (a ++ (b ++ (c ++ (d ++ (e ++ f))))) → all ≡ first ++ rest
    → all ≡ text ++ (a ++ (b ++ (c ++ (d ++ (e ++ (name ++ rest))))))
findings_behind text first all a b c d e f name rest same h k =
    k ∙ ap (λ (t : List ℕ). t ++ rest) (h ∙ ap (λ (t : List ℕ). text ++ (a ++ (b ++ (c ++ (d ++ (e ++ t)))))) same) ∙ simp append_assoc

pub returns : goal.returns
returns c =
    let step = c.args.step.now in
    let name : operator_name (slice_get c.ops.result.now step.at) ≡ operator_name (slice_get c.args.program.now.ops step.at) =
    ap (λ (ops : List Op). operator_name (slice_get ops step.at)) c.ops.ensures.ops in
    IfOk-weaker c.push_findings.result _ _
    (λ _ h. findings_behind c.args.text.now c.push_exchange.new.text c.push_findings.new.text (codes "swap ") (decimal c.args.number) (codes " ") (word_of step.rule) (codes " at ")
    (operator_name (slice_get c.ops.result.now step.at)) (operator_name (slice_get c.args.program.now.ops step.at))
    (codes "\n  upper " ++ (found_text step.upper ++ (codes "\n  lower " ++ (found_text step.lower ++ codes "\n")))) name c.in_ok-push_exchange.ensures h)
    c.push_findings.ensures
