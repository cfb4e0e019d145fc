use Rattle.std.proofs.Common.{◌≡◌, false}
use Rattle.pact_record.specs.Widths.{AreWide}
use Rattle.group_tests.proofs.strategy_tests.kept.Given as goal

abbrev pub invariant-loop-row : goal.invariant-loop-row
invariant-loop-row g l = (g.L.Local.is_sealed l.local ≡ false) × (g.L.Local.key_fields l.local ≡ l.keys) × AreWide 2 (g.L.Local.rows l.local)
