-- What a run on one thread leaves.
use Rattle.std.proofs.Common.{◌≡◌, ◌≤◌, ◌+◌, ℕ, true, List, length, refl, subst, sym, ◌∙◌, arith}
use Rattle.pact_bag.specs.declared.outcomes.Outcome.{Outcome}
use Rattle.pact_operators.specs.Allowed.{Bag, Counted}
use Rattle.pact_operators.specs.Inputs.{AreInputsOf}
use Rattle.pact_operators.specs.PlanOps.{plan_ops}
use Rattle.pact_operators.specs.Programs.{IsPlanOf, IsProgram, ProgramData}
use Rattle.pact_record.specs.Widths.{AreWide}
use Rattle.plan_trees.specs.Physicals.{IsPhysical, PhysicalData}
use Rattle.ship_strategy.specs.PlanFacts.{facts_of}
use Rattle.ship_strategy.specs.Ships.{LegalShip}
use Rattle.ship_strategy.proofs.DividedRuns.{divided_counted}
use Rattle.flow_instance.specs.declared.notes.Event.{Event}
use Rattle.flow_instance.specs.Events.{Steps, noted}
use Rattle.flow_instance.specs.Most.{most, program_turns}
use Rattle.flow_instance.specs.Spots.{Setting, setting}
use Rattle.flow_instance.specs.Spread.{Spread}
use Rattle.flow_instance.specs.Worlds.{History, IsStuck, enabled}
use Rattle.flow_instance.proofs.EventsWithinMost.{bound}
use Rattle.flow_instance.proofs.CallTurns.{bounded_program}
use Rattle.flow_instance.proofs.Counting.{step_counted}
use Rattle.flow_instance.proofs.DividedRuns.{divided}
use Rattle.flow_core.specs.Outcomes.{IsEnded, IsOutcome, IsWorldOutcome}
use Rattle.flow_core.specs.Replays.{IsReached}
use Rattle.flow_core.specs.Worlds.{IsStanding, StandsForSome, WorldData, seen}
use Rattle.flow_core.proofs.FinishedWorlds.{done_if_stuck, length-queued_instances}

-- if no event can happen, every instance is done
pub ended_here : (w : WorldData) → StandsForSome w → IsStuck w.physical w.depth (seen w) → IsEnded w w
ended_here w some stuck = record {
  each = λ g h s. (h, s, done_if_stuck g w h some.is_physical some.some_depth s stuck);
  physical = refl;
  stands = some;
}

-- the outcome of the world after the run is one of the world before it
pub ended_spread : (w v : WorldData) (rows : Bag) (counts : List ℕ) → IsEnded w v → IsOutcome v rows counts → (g : Setting) (h : History) → IsStanding g w h → Spread g rows counts
ended_spread w v rows counts e l g h s =
    let m = e.each g h s in
    l.spread g m.0 m.1 m.2

pub ended_widths : (w v : WorldData) (rows : Bag) (counts : List ℕ) → IsEnded w v → IsOutcome v rows counts → (g : Setting) (h : History) → IsStanding g w h → AreWide g.fields rows
ended_widths w v rows counts e l g h s =
    let m = e.each g h s in
    l.wide g m.0 m.1

-- with legal shipping it is one counted evaluation
pub spread_counted : (physical : PhysicalData) (rows : Bag) (counts : List ℕ) (p : ProgramData) (inputs : List Bag) → IsPhysical physical → IsProgram p → AreInputsOf p inputs → IsPlanOf p.functions p.ops physical.tree
    → LegalShip (facts_of p physical.tree) physical → Spread (setting p inputs physical) rows counts → Counted (plan_ops p inputs) physical.tree rows counts
spread_counted physical rows counts p inputs k is are plan legal run = divided_counted p is inputs are physical k plan legal rows counts (divided p inputs physical rows counts k plan run)

pub ended_numbers : (w v : WorldData) (rows : Bag) (counts : List ℕ) → IsEnded w v → IsOutcome v rows counts → (p : ProgramData) → IsPlanOf p.functions p.ops w.physical.tree → length counts ≡ length p.ops
ended_numbers w v rows counts r l p plan = l.long ∙ length-queued_instances v p r.stands.standing.whole (subst (λ (q : PhysicalData). IsPlanOf p.functions p.ops q.tree) (sym r.physical) plan)

-- what the world after the run leaves is what a run of the world before it leaves
pub ended_outcome : (w v : WorldData) (o : Outcome) → IsPhysical w.physical → IsEnded w v → IsOutcome v o.rows o.counts → IsWorldOutcome w o
ended_outcome w v o k e l = record {
  spread = ended_spread w v o.rows o.counts e l;
  counted = λ p inputs h is are plan legal st. spread_counted w.physical o.rows o.counts p inputs k is are plan legal (ended_spread w v o.rows o.counts e l (setting p inputs w.physical) h st);
  widths = ended_widths w v o.rows o.counts e l;
  counts = ended_numbers w v o.rows o.counts e l;
}

-- ---- the events so far

pub reached_none : (w : WorldData) → StandsForSome w → IsReached w 0 w
reached_none w some = record { each = λ g h s. (h, s, omega arith); physical = refl; stands = some }

pub reached_more : (w u v : WorldData) (n : ℕ) → IsReached w n u → IsReached u 1 v → IsReached w (n + 1) v
reached_more w u v n r s = record {
  each = λ g h st.
      let m = r.each g h st in
      let k = s.each g m.0 m.1 in
      (k.0, k.1, omega (arith, m.2, k.2));
  physical = s.physical ∙ r.physical;
  stands = s.stands;
}

pub reached_end : (w u v : WorldData) (n : ℕ) → IsReached w n u → IsEnded u v → IsEnded w v
reached_end w u v n r e = record {
  each = λ g h st.
      let m = r.each g h st in
      e.each g m.0 m.1;
  physical = e.physical ∙ r.physical;
  stands = e.stands;
}

pub reached-next : (w u v : WorldData) (n : ℕ) (e : Event) → IsReached w n u → enabled u.physical u.depth (seen u) e ≡ true
    → ((g : Setting) (h : History) → IsStanding g u h → Steps g (seen u) e (seen v)) → ((g : Setting) (h : History) → IsStanding g u h → IsStanding g v (noted (seen u) e h))
    → v.physical ≡ u.physical → StandsForSome v → IsReached w (n + 1) v
reached-next w u v n e r can steps stands same some = record {
  each = λ g h st.
      let m = r.each g h st in
      let on : enabled g.physical u.depth (seen u) e ≡ true = subst (λ (q : PhysicalData). enabled q u.depth (seen u) e ≡ true) m.1.physical can in
      let k = subst IsPhysical m.1.physical r.stands.is_physical in
      let one = step_counted g u.depth (seen u) (seen v) m.0 e k.plan.different m.1.stands on (steps g m.0 m.1) in
      (noted (seen u) e m.0, stands g m.0 m.1, omega (arith, m.2, one));
  physical = same ∙ r.physical;
  stands = some;
}

-- a run that hasn't ended has as many events as its bound allows
pub reached_long : (w v : WorldData) (n : ℕ) → StandsForSome w → IsReached w n v → (p : ProgramData) (inputs : List Bag) (h : History) → IsStanding (setting p inputs w.physical) w h
    → n ≤ most (setting p inputs w.physical) (program_turns p)
reached_long w v n some r p inputs h st =
    let g = setting p inputs w.physical in
    let m = r.each g h st in
    omega (arith, m.2, bound g (program_turns p) (seen v) m.0 some.is_physical.plan.different (bounded_program p inputs) m.1.stands)
