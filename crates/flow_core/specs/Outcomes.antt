-- The results of a run on one thread.
use Rattle.std.specs.Prelude.{◌≡◌, ◌≤◌, ◌-◌, ◌^◌, ℕ, Bool, true, false, List, length}
use Rattle.pact_bag.specs.declared.outcomes.Outcome.{Outcome}
use Rattle.pact_operators.specs.Allowed.{Bag, Counted}
use Rattle.pact_operators.specs.Inputs.{AreInputsOf}
use Rattle.pact_operators.specs.PlanOps.{plan_ops}
use Rattle.pact_operators.specs.Programs.{IsPlanOf, IsProgram, ProgramData}
use Rattle.pact_record.specs.Widths.{AreWide}
use Rattle.ship_strategy.specs.PlanFacts.{facts_of}
use Rattle.ship_strategy.specs.Ships.{LegalShip}
use Rattle.flow_instance.specs.Most.{most, program_turns}
use Rattle.flow_instance.specs.Spots.{Setting, setting}
use Rattle.flow_instance.specs.Spread.{Spread}
use Rattle.flow_instance.specs.Worlds.{AreDone, History}
use Rattle.flow_core.specs.Replays.{IsReached}
use Rattle.flow_core.specs.Worlds.{IsStanding, StandsForSome, WorldData, seen}

-- For each history that the first world represents, the second one represents some history at which every instance is
-- done.
pub record IsEnded (w v : WorldData) : Type 0 where
  pub each : (g : Setting) (h : History) → IsStanding g w h → (more : History) × IsStanding g v more × AreDone g.physical (seen v)
  pub physical : v.physical ≡ w.physical
  pub stands : StandsForSome v

-- One event has led to the other world, or no event could happen and every instance is done.
abbrev pub GoesOn : WorldData → (went : Bool) → WorldData → Type 0
GoesOn w true v = IsReached w 1 v
GoesOn w false v = IsEnded w v

-- The run has ended, or its bound allows at least 2^64 - 1 events.
abbrev pub IsRun : WorldData → (ended : Bool) → WorldData → Type 0
IsRun w true v = IsEnded w v
IsRun w false v = (p : ProgramData) (inputs : List Bag) (h : History) → IsStanding (setting p inputs w.physical) w h → 2 ^ 64 - 1 ≤ most (setting p inputs w.physical) (program_turns p)

-- The rows are what the root's instances placed. The counts are how many records each source and operator emitted.
pub record IsOutcome (w : WorldData) (rows : Bag) (counts : List ℕ) : Type 0 where
  pub spread : (g : Setting) (h : History) → IsStanding g w h → AreDone g.physical (seen w) → Spread g rows counts
  pub wide : (g : Setting) (h : History) → IsStanding g w h → AreWide g.fields rows
  pub long : length counts ≡ length w.queued_instances

-- What a run of the world leaves. For each history that the world represents, the rows and counts are those of a run of
-- its plan, and the rows have the program's fields. If the plan ships legally, they are also those of one evaluation of
-- its tree. Each source and operator has a count.
pub record IsWorldOutcome (w : WorldData) (o : Outcome) : Type 0 where
  pub spread : (g : Setting) (h : History) → IsStanding g w h → Spread g o.rows o.counts
  pub counted : (p : ProgramData) (inputs : List Bag) (h : History) → IsProgram p → AreInputsOf p inputs → IsPlanOf p.functions p.ops w.physical.tree → LegalShip (facts_of p w.physical.tree) w.physical
      → IsStanding (setting p inputs w.physical) w h → Counted (plan_ops p inputs) w.physical.tree o.rows o.counts
  pub widths : (g : Setting) (h : History) → IsStanding g w h → AreWide g.fields o.rows
  pub counts : (p : ProgramData) → IsPlanOf p.functions p.ops w.physical.tree → length o.counts ≡ length p.ops
