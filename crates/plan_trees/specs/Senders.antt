-- Which workers have ended along an edge to one worker.
use Rattle.std.specs.Prelude.{◌≡◌, ◌<◌, ◌&&◌, ℕ, zero, suc, Bool, true, Option, List, get_or, length, not}
use Rattle.plan_trees.specs.Sending.{has_out}
use Rattle.plan_trees.specs.declared.physicals.Ship.{Ship}

-- whether the test passes for each number below n
abbrev pub all_below : ℕ → (ℕ → Bool) → Bool
all_below zero test = true
all_below (suc n) test = test n && all_below n test

-- for each worker, before anything is sent: it has ended exactly if it doesn't send
pub record AreEndedAtStart (edge : Option Ship) (workers to : ℕ) (ended : List Bool) : Type 0 where
  pub long : length ended ≡ workers
  pub each : (from : ℕ) → from < workers → get_or ended from true ≡ not (has_out edge from to)
