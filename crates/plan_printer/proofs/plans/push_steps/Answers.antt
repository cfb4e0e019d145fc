use Rattle.std.proofs.Common.{◌≡◌, ◌<◌, ◌+◌, ◌++◌, ℕ, List, ◌∷◌, append_assoc, ap, drop, get_or, length, sym, ◌∙◌}
use Rattle.std.proofs.lemmas.List.{drop_more}
use Rattle.pact_operators.specs.Programs.{ProgramData}
use Rattle.reorder_pair.specs.declared.legality.Condition.{Condition}
use Rattle.plan_printer.specs.PlanText.{step_text, steps_text}
use Rattle.plan_printer.proofs.plans.push_steps.Goals as goal

-- one more exchange
steps_text-next : (p : ProgramData) (steps : List Condition) (n : ℕ) (step : Condition) (text next whole : List ℕ) → n < length steps → step ≡ get_or steps n step
    → next ≡ text ++ step_text p (n + 1) step → text ++ steps_text p (n + 1) (drop n steps) ≡ whole → next ++ steps_text p (n + 1 + 1) (drop (n + 1) steps) ≡ whole
steps_text-next p steps n step text next whole within is more so_far =
    let rest = drop (n + 1) steps in
    let first : drop n steps ≡ step ∷ rest = drop_more steps n step within ∙ ap (λ (s : Condition). s ∷ rest) (sym is) in
    ap (λ (t : List ℕ). t ++ steps_text p (n + 1 + 1) rest) more
    ∙ append_assoc text (step_text p (n + 1) step) (steps_text p (n + 1 + 1) rest)
    ∙ ap (λ (l : List Condition). text ++ steps_text p (n + 1) l) (sym first) ∙ so_far

pub loop-n-preserved : goal.loop-n-preserved
loop-n-preserved c =
    steps_text-next c.args.program.now c.args.steps.now c.loop-n.n c.index-steps-n.result c.loop-n.text c.push_step.new.text _ c.loop-n-test.true c.index-steps-n.is
    c.in_ok-push_step.ensures c.loop-n.invariant
