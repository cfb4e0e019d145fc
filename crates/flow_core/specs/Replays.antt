-- The results of lists of events.
use Rattle.std.specs.Prelude.{◌≡◌, ◌<◌, ◌+◌, ℕ, false, List, Some, length, slice_get, take}
use Rattle.flow_instance.specs.declared.notes.Event.{Event}
use Rattle.flow_instance.specs.Events.{Runs}
use Rattle.flow_instance.specs.Most.{events}
use Rattle.flow_instance.specs.Spots.{Setting}
use Rattle.flow_instance.specs.Worlds.{History, enabled}
use Rattle.flow_core.specs.declared.replay_errors.Replay.{Replay}
use Rattle.flow_core.specs.declared.replay_errors.Replay.TheVariants.{Memory, NotEnabled}
use Rattle.flow_core.specs.Laws.{ObeysLaws}
use Rattle.flow_core.specs.Worlds.{IsStanding, StandsForSome, WorldData, seen}

-- For each history, the events lead from the world to the other one, which represents the history extended by their
-- notes.
pub record IsReplayed (w : WorldData) (events : List Event) (v : WorldData) : Type 0 where
  pub runs : (g : Setting) (h : History) → IsStanding g w h → (more : History) × Runs g w.depth (seen w) h events (seen v) more × IsStanding g v more
  pub physical : v.physical ≡ w.physical
  pub depth : v.depth ≡ w.depth
  pub stands : StandsForSome v

-- The event at the place is the first that isn't enabled, and the world is the one before it.
abbrev pub IsStopped : {L : Type 0} → WorldData → List Event → Replay L → Type 0
IsStopped w events (NotEnabled index v) =
    (index < length events) × IsReplayed w (take index events) v × ((e : Event) → slice_get events index ≡ Some e → enabled v.physical v.depth (seen v) e ≡ false)
IsStopped w events Memory = Unit {0}

-- The returned world obeys the laws too.
abbrev pub HandsBackLawful : {L : Type 0} → Replay L → Type 0
HandsBackLawful (NotEnabled index v) = ObeysLaws v
HandsBackLawful Memory = Unit {0}

-- For each history that the first world represents, the second one represents a history that is n events longer.
pub record IsReached (w : WorldData) (n : ℕ) (v : WorldData) : Type 0 where
  pub each : (g : Setting) (h : History) → IsStanding g w h → (more : History) × IsStanding g v more × (events g (seen v) more ≡ events g (seen w) h + n)
  pub physical : v.physical ≡ w.physical
  pub stands : StandsForSome v
