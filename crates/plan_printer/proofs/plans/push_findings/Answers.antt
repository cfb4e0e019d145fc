use Rattle.std.proofs.Common.{◌≡◌, ◌++◌, ℕ, List, append_assoc, ap, codes, ◌∙◌}
use Rattle.std.proofs.lemmas.Result.{IfOk-weaker}
use Rattle.plan_printer.specs.FoundText.{found_text}
use Rattle.plan_printer.proofs.plans.push_findings.Goals as goal

-- stated for any texts, so that the proof doesn't unfold the text of the findings
two_lines : (text first second all a b c d end : List ℕ) → first ≡ text ++ (a ++ b) → second ≡ first ++ (c ++ d) → all ≡ second ++ end
    → all ≡ text ++ (a ++ (b ++ (c ++ (d ++ end))))
two_lines text first second all a b c d end e f g =
    g ∙ ap (λ (t : List ℕ). t ++ end) (f ∙ ap (λ (t : List ℕ). t ++ (c ++ d)) e) ∙ simp append_assoc

pub returns : goal.returns
returns c =
    let step = c.args.step.now in
    IfOk-weaker c.extend_from_slice.result _ _
    (λ _ h. two_lines c.args.text.now c.push_found.new.text c.push_found-2.new.text c.extend_from_slice.new.self (codes "\n  upper ") (found_text step.upper) (codes "\n  lower ") (found_text step.lower) (codes "\n")
    c.in_ok-push_found.ensures c.in_ok-push_found-2.ensures h)
    c.extend_from_slice.ensures.ok
