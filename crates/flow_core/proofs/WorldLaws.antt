-- A world that represents some history obeys the laws.
use Rattle.std.proofs.Common.{◌≡◌, ◌<◌, subst, sym, true}
use Rattle.plan_trees.specs.Physicals.{IsPhysical, PhysicalData}
use Rattle.plan_trees.specs.Plans.{has}
use Rattle.flow_instance.specs.Most.{program_turns}
use Rattle.flow_instance.specs.Spots.{setting}
use Rattle.flow_instance.specs.Worlds.{enabled}
use Rattle.flow_instance.proofs.EventsWithinMost.{bound}
use Rattle.flow_instance.proofs.CallTurns.{bounded_program}
use Rattle.flow_instance.proofs.AllPutIsTaken.{put_is_taken, spread}
use Rattle.flow_instance.proofs.Runs.{some_event}
use Rattle.flow_core.specs.Laws.{ObeysLaws}
use Rattle.flow_core.specs.Worlds.{StandsForSome, WorldData, seen}
use Rattle.flow_core.proofs.RunAlone.{spread_counted}

pub laws_hold : (w : WorldData) → StandsForSome w → ObeysLaws w
laws_hold w some = record {
  goes_on = λ g h s at worker there below undone.
      let k = subst IsPhysical s.physical some.is_physical in
      let found = some_event g w.depth (seen w) h k.plan.different some.some_depth s.stands at worker (subst (λ (q : PhysicalData). has at q.tree ≡ true) s.physical there) (subst (λ (q : PhysicalData). worker < q.workers) s.physical below) undone in
      (found.0, subst (λ (q : PhysicalData). enabled q w.depth (seen w) found.0 ≡ true) (sym s.physical) found.1);
  bounded = λ p inputs h s. bound (setting p inputs w.physical) (program_turns p) (seen w) h some.is_physical.plan.different (bounded_program p inputs) s.stands;
  all_taken = λ g h s done edge from to there.
      let k = subst IsPhysical s.physical some.is_physical in
      put_is_taken g (seen w) h k.plan.different s.stands done edge from to (subst (λ (q : PhysicalData). has edge q.tree ≡ true) s.physical there);
  none_lost = λ p inputs h is are plan legal s done rows counts placed given.
      spread_counted w.physical rows counts p inputs some.is_physical is are plan legal (spread (setting p inputs w.physical) (seen w) h rows counts some.is_physical.plan.different s.stands done placed given);
}
