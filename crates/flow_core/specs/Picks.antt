-- The events from which a number picks.
use Rattle.std.specs.Prelude.{◌≡◌, ◌%◌, ◌++◌, ◌∷◌, [], ℕ, zero, suc, Bool, true, false, if◌then◌else◌, Option, Some, None, List, length, slice_get}
use Rattle.plan_trees.specs.Physicals.{PhysicalData}
use Rattle.plan_trees.specs.Plans.{node_limit}
use Rattle.flow_instance.specs.declared.notes.Event.{Event}
use Rattle.flow_instance.specs.declared.notes.Event.TheVariants as events
use Rattle.flow_instance.specs.declared.notes.Want.{Want}
use Rattle.flow_instance.specs.declared.notes.Want.TheVariants as wants
use Rattle.flow_instance.specs.Instances.{want}
use Rattle.flow_instance.specs.Events.{Steps, noted}
use Rattle.flow_instance.specs.Spots.{Setting}
use Rattle.flow_instance.specs.Worlds.{History, IsStuck, World, enabled}
use Rattle.flow_core.specs.Replays.{IsReached}
use Rattle.flow_core.specs.PlanTables.{input_in}
use Rattle.flow_core.specs.Worlds.{IsStanding, WorldData, seen}

-- the lists of the numbers below n, one after the other
abbrev pub joined_below : {X : Type 0} → ℕ → (ℕ → List X) → List X
joined_below zero f = []
joined_below (suc n) f = joined_below n f ++ f n

-- the event, if it is enabled
abbrev pub if_enabled : PhysicalData → (depth : ℕ) → World → Event → List Event
if_enabled p depth w e = if enabled p depth w e then e ∷ [] else []

-- what can be taken from an edge, by sender
abbrev pub takes_from : PhysicalData → (depth : ℕ) → World → (worker : ℕ) → Option ℕ → List Event
takes_from p depth w worker None = []
takes_from p depth w worker (Some edge) = joined_below p.workers (λ from. if_enabled p depth w (events.Take (record { edge = edge; from = from; to = worker })))

-- what an instance that wants this can do
abbrev pub events_by : PhysicalData → (depth : ℕ) → World → (at worker : ℕ) → Want → List Event
events_by p depth w at worker (wants.Put to) = if_enabled p depth w (events.Put (record { edge = at; from = worker; to = to }))
events_by p depth w at worker (wants.Take port) = takes_from p depth w worker (input_in p.tree at port)
events_by p depth w at worker wants.End = if_enabled p depth w (events.End at worker)
events_by p depth w at worker wants.Done = []

-- what an instance can do
abbrev pub events_of : PhysicalData → (depth : ℕ) → World → (at worker : ℕ) → List Event
events_of p depth w at worker = events_by p depth w at worker (want (w.instance at worker))

-- The enabled events, ordered by the number of the source or operator whose instance does them, then by worker, then by
-- the sender of a note that is taken.
abbrev pub enabled_events : PhysicalData → (depth : ℕ) → World → List Event
enabled_events p depth w = joined_below node_limit (λ at. joined_below p.workers (λ worker. events_of p depth w at worker))

-- the event at the place of the number, taken modulo the length of the list
abbrev pub picked_from : List Event → (pick : ℕ) → Option Event
picked_from list pick = slice_get list (pick % length list)

-- The event at the place of the number has happened, and led to the other world.
pub record IsPicked (w : WorldData) (pick : ℕ) (v : WorldData) : Type 0 where
  pub event : Event
  pub picked : picked_from (enabled_events w.physical w.depth (seen w)) pick ≡ Some event
  pub happened : (g : Setting) (h : History) → IsStanding g w h → Steps g (seen w) event (seen v) × IsStanding g v (noted (seen w) event h)
  pub reached : IsReached w 1 v

-- The picked event has happened, or none could happen and the world is unchanged.
abbrev pub GoesByPick : WorldData → (pick : ℕ) → (went : Bool) → WorldData → Type 0
GoesByPick w pick true v = IsPicked w pick v
GoesByPick w pick false v = (v ≡ w) × IsStuck w.physical w.depth (seen w)

-- Some number of events has led to the other world.
pub record IsLed (w v : WorldData) : Type 0 where
  pub count : ℕ
  pub reached : IsReached w count v
