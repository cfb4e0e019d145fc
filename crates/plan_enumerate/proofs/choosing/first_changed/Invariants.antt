use Rattle.std.proofs.Common.{◌≡◌, ◌<◌, ℕ, Some, slice_get}
use Rattle.ship_strategy.specs.Views.{ways_in}
use Rattle.plan_enumerate.specs.declared.plan_rows.Row.{Row}
use Rattle.plan_enumerate.proofs.choosing.first_changed.Given as goal

abbrev pub invariant-loop-n : goal.invariant-loop-n
invariant-loop-n l = (k : ℕ) (x : Row) → k < l.n → slice_get l.rows.held k ≡ Some x → ways_in l.old x.at ≡ ways_in l.new x.at
