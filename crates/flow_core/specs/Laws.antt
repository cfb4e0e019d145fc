-- Laws of a world, after any events.
use Rattle.std.specs.Prelude.{◌≡◌, ◌≢◌, ◌<◌, ◌≤◌, ℕ, true, List, Some, slice_get}
use Rattle.std.specs.List.Sorted.{IsPermutation}
use Rattle.pact_operators.specs.Allowed.{Bag, Counted}
use Rattle.pact_operators.specs.Inputs.{AreInputsOf}
use Rattle.pact_operators.specs.PlanOps.{plan_ops}
use Rattle.pact_operators.specs.Programs.{IsPlanOf, IsProgram, ProgramData}
use Rattle.plan_trees.specs.Plans.{has}
use Rattle.ship_strategy.specs.PlanFacts.{facts_of}
use Rattle.ship_strategy.specs.Ships.{LegalShip}
use Rattle.flow_instance.specs.declared.notes.Event.{Event}
use Rattle.flow_instance.specs.declared.notes.Want.TheVariants.{Done}
use Rattle.flow_instance.specs.Instances.{want}
use Rattle.flow_instance.specs.Most.{events, most, program_turns}
use Rattle.flow_instance.specs.Spots.{Setting, setting}
use Rattle.flow_instance.specs.Spread.{given_in, placed_in}
use Rattle.flow_instance.specs.Worlds.{AreDone, History, enabled}
use Rattle.flow_core.specs.Worlds.{IsStanding, WorldData, instance_in, seen}

-- The laws hold for each setting and each history that the world represents. The world isn't stuck: while some instance
-- isn't done, an event is enabled. The notes put, the notes taken and the instances that are done are together at most
-- the bound `most`. If every instance is done, everything that was put was taken. If shipping is legal too, what the
-- root's instances placed is a bag that the plan allows, and what all instances emitted are its counts.
pub record ObeysLaws (w : WorldData) : Type 0 where
  pub goes_on : (g : Setting) (h : History) → IsStanding g w h → (at worker : ℕ) → has at w.physical.tree ≡ true → worker < w.physical.workers → want (instance_in w.queued_instances at worker) ≢ Done
      → (e : Event) × (enabled w.physical w.depth (seen w) e ≡ true)
  pub bounded : (p : ProgramData) (inputs : List Bag) (h : History) → IsStanding (setting p inputs w.physical) w h → events (setting p inputs w.physical) (seen w) h ≤ most (setting p inputs w.physical) (program_turns p)
  pub all_taken : (g : Setting) (h : History) → IsStanding g w h → AreDone g.physical (seen w) → (edge from to : ℕ) → has edge w.physical.tree ≡ true → h.put edge from to ≡ h.taken edge from to
  pub none_lost : (p : ProgramData) (inputs : List Bag) (h : History) → IsProgram p → AreInputsOf p inputs → IsPlanOf p.functions p.ops w.physical.tree → LegalShip (facts_of p w.physical.tree) w.physical
      → IsStanding (setting p inputs w.physical) w h → AreDone w.physical (seen w) → (rows : Bag) (counts : List ℕ) → IsPermutation rows (placed_in (setting p inputs w.physical) (seen w))
      → ((at : ℕ) → has at w.physical.tree ≡ true → slice_get counts at ≡ Some (given_in (setting p inputs w.physical) (seen w) at)) → Counted (plan_ops p inputs) w.physical.tree rows counts
