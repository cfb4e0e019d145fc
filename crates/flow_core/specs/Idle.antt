-- Instances that can do nothing.
use Rattle.std.specs.Prelude.{◌≡◌, ℕ, false, Some}
use Rattle.plan_trees.specs.Physicals.{PhysicalData}
use Rattle.plan_trees.specs.Plans.{PlanTree}
use Rattle.flow_instance.specs.declared.notes.Event.{Event}
use Rattle.flow_instance.specs.declared.notes.Event.TheVariants.{Put, Take, End}
use Rattle.flow_instance.specs.Worlds.{World, enabled, reader_of}

-- The event belongs to the instance on the worker: it puts, takes or ends.
abbrev pub IsOf : PlanTree → (at worker : ℕ) → Event → Type 0
IsOf tree at worker (Put pipe) = (pipe.edge ≡ at) × (pipe.from ≡ worker)
IsOf tree at worker (Take pipe) = ((port : ℕ) × (reader_of pipe.edge tree ≡ Some (at, port))) × (pipe.to ≡ worker)
IsOf tree at worker (End a b) = (a ≡ at) × (b ≡ worker)

-- none of its events is enabled
abbrev pub IsIdle : PhysicalData → (depth : ℕ) → World → (at worker : ℕ) → Type 0
IsIdle p depth w at worker = (e : Event) → IsOf p.tree at worker e → enabled p depth w e ≡ false
