use Rattle.std.proofs.Common.{arith}
use Rattle.flow_core.specs.Worlds.{seen}
use Rattle.flow_core.proofs.EventsOfWants.{all_idle, idle_next}
use Rattle.flow_core.proofs.worlds.World.any_event.Goals as goal

pub loop-at-init : goal.loop-at-init
loop-at-init g c = λ at worker below within. absurd (omega (arith, below))

pub loop-at-preserved : goal.loop-at-preserved
loop-at-preserved g c =
    let w = c.args.self.now in
    idle_next w.physical w.depth (seen w) c.loop-at.at c.loop-at.invariant c.in_default.ensures.none

pub returns-in-Some-clause-some : goal.returns-in-Some-clause-some
returns-in-Some-clause-some g c = c.in-Some.ensures.some

pub returns-clause-none : goal.returns-clause-none
returns-clause-none g c =
    let w = c.args.self.now in
    all_idle w.physical w.depth (seen w) c.requires.physical (λ at worker below within. c.loop-at.invariant at worker (omega (arith, below, c.loop-at-test.false)) within)
