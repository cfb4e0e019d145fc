use Rattle.std.proofs.Common.{length-take, arith}
use Rattle.std.proofs.lemmas.Result.{err_from_is_err_and}
use Rattle.pact_load.proofs.FilesInPieces.{reading_on, rest_long, rest_read, rest_stopped}
use Rattle.pact_load.proofs.files.read_rest.Goals as goal

pub returns-in_err-more : goal.returns-in_err-more
returns-in_err-more g c =
    let e = err_from_is_err_and c.from_residual-in_err-more.result c.from_residual-in_err-more.ensures.1 in
    rw (e.1, e.2) (rest_stopped _ _ _ _ _ _ _ c.in_err-more.field-0.0 c.loop-read.invariant.1 c.in_err-more.ensures)

pub returns-then-not-more : goal.returns-then-not-more
returns-then-not-more g c = rest_read _ _ _ _ _ _ _ c.in_ok-more.more (omega arith) c.if-not-more.true c.loop-read.invariant.1 c.in_ok-more.ensures

pub returns : goal.returns
returns g c = rest_long _ _ _ _ (omega arith) c.loop-read.invariant.1

pub loop-read-preserved : goal.loop-read-preserved
loop-read-preserved g c = (c.loop-read.invariant.0, reading_on _ _ _ _ _ _ _ c.in_ok-more.more (omega arith) (simp length-take (omega arith)) c.loop-read.invariant.1 c.in_ok-more.ensures)
