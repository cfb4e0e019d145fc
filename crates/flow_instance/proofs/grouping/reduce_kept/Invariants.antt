use Rattle.std.proofs.Common.{take}
use Rattle.pact_record.specs.Widths.{AreWide}
use Rattle.tac_syntax.specs.Call.{Out, of_group}
use Rattle.flow_instance.specs.Grouping.{EachGives, IsCalled}
use Rattle.flow_instance.proofs.grouping.reduce_kept.Given as goal

abbrev pub invariant-loop-n : goal.invariant-loop-n
invariant-loop-n g l =
    EachGives (IsCalled (λ k group. Out l.f.fields l.f.function.body (of_group k group)) l.keys (g.L.Local.rows l.kept)) (take l.n (g.L.Local.order l.kept)) l.out × AreWide l.f.fields l.out
