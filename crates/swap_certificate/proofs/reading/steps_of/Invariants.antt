use Rattle.std.proofs.Common.{◌≡◌, map, take}
use Rattle.std.specs.List.{AllByRecursion}
use Rattle.serde_json.specs.View.{view}
use Rattle.swap_certificate.specs.Shape.{MayBeStep, step_data}
use Rattle.swap_certificate.proofs.reading.steps_of.Given as goal

abbrev pub invariant-loop-item : goal.invariant-loop-item
invariant-loop-item l = AllByRecursion (MayBeStep l.limit) l.steps × (map view (take l.item-index l.items) ≡ map step_data l.steps)
