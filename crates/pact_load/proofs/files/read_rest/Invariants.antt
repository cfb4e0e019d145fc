use Rattle.std.proofs.Common.{length, ◌-◌, ◌+◌, ◌≡◌, vec_len}
use Rattle.pact_load.proofs.PartsRead.{IsReading}
use Rattle.pact_load.specs.declared.files.TheConstants.{PIECE}
use Rattle.pact_load.proofs.files.read_rest.Given as goal

abbrev pub invariant-loop-read : goal.invariant-loop-read
invariant-loop-read g l = (vec_len l.buf ≡ PIECE) × IsReading (g.F.Feed.shows l.fn.feed) (g.F.Feed.shows l.feed) l.read l.limit

abbrev pub decreases-loop-read : goal.decreases-loop-read
decreases-loop-read g l = (l.limit + 1) - length l.read
