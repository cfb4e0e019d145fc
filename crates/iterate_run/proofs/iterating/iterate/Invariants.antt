use Rattle.std.proofs.Common.{◌≡◌}
use Rattle.iterate_run.proofs.RoundsSoFar.{IsSoFar}
use Rattle.iterate_run.proofs.iterating.iterate.Given as goal

abbrev pub invariant-loop-count : goal.invariant-loop-count
invariant-loop-count g l =
    let p = g.R.Round.program l.fn.round in
    (g.R.Round.program l.round ≡ p) × IsSoFar p l.fn.inputs l.source l.columns l.stable l.inputs l.rows l.count
    × g.R.Round.ready l.round
