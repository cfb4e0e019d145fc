use Rattle.std.proofs.Common.{◌≡◌, ◌+◌, drop}
use Rattle.pact_operators.specs.Resolved.{place_among as placed}
use Rattle.program_check.proofs.name_lists.place_among.Given as goal

abbrev pub invariant-loop-place : goal.invariant-loop-place
invariant-loop-place l = placed l.name (drop l.place l.names) + l.place ≡ placed l.name l.names
