use Rattle.std.proofs.Common.{◌≡◌, ◌++◌, drop}
use Rattle.plan_printer.specs.PlanText.{behind_spaces}
use Rattle.plan_printer.proofs.plans.push_keys.Given as goal

abbrev pub invariant-loop-n : goal.invariant-loop-n
invariant-loop-n l = l.text ++ behind_spaces (drop l.n l.keys) ≡ l.initial.text ++ behind_spaces l.keys
