use Rattle.std.proofs.Common.{take}
use Rattle.pact_record.specs.Widths.{AreWide}
use Rattle.tac_syntax.specs.Call.{Out, of_groups}
use Rattle.flow_instance.specs.Grouping.{EachGives, IsCalledFrom}
use Rattle.flow_instance.proofs.grouping.cogroup_side.Given as goal

abbrev pub invariant-loop-n : goal.invariant-loop-n
invariant-loop-n g l =
    EachGives (IsCalledFrom l.side (λ k left right. Out l.f.fields l.f.function.body (of_groups k left right)) l.keys l.other_keys (g.L.Local.rows l.own) (g.L.Local.rows l.others)) (take l.n (g.L.Local.order l.own)) l.out × AreWide l.f.fields l.out
