use Rattle.std.proofs.Common.{◌≡◌, map, take}
use Rattle.serde_json.specs.View.{view}
use Rattle.swap_certificate.specs.Shape.{step_data}
use Rattle.swap_certificate.proofs.writing.steps_value.Given as goal

abbrev pub invariant-loop-step : goal.invariant-loop-step
invariant-loop-step l = map view l.values.items ≡ map step_data (take l.step-index l.steps)
