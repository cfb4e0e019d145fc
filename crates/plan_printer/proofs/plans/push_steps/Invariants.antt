use Rattle.std.proofs.Common.{◌≡◌, ◌+◌, ◌++◌, drop}
use Rattle.plan_printer.specs.PlanText.{steps_text}
use Rattle.plan_printer.proofs.plans.push_steps.Given as goal

abbrev pub invariant-loop-n : goal.invariant-loop-n
invariant-loop-n l = l.text ++ steps_text l.program (l.n + 1) (drop l.n l.steps) ≡ l.initial.text ++ steps_text l.program 1 l.steps
