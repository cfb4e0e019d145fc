use Rattle.std.proofs.lemmas.Result.{IfOk-weaker}
use Rattle.sort_local.proofs.CutRows.{sorted_falls, sorted_first, sorted_width}
use Rattle.sort_local.proofs.cutting.sorted_groups.Goals as goal

pub cut-requires-clause-width : goal.cut-requires-clause-width
cut-requires-clause-width c = sorted_width c.args.rows c.in_ok-sorted.sorted.items c.in_ok-sorted.ensures.same c.rows-width.ensures.one_width

pub cut-requires-clause-falling : goal.cut-requires-clause-falling
cut-requires-clause-falling c = sorted_falls c.args.keys.now _ c.in_ok-sorted.ensures.sorted

pub returns : goal.returns
returns c =
    IfOk-weaker c.cut.result _ _
    (λ into h. sorted_first c.args.keys.now c.args.rows c.in_ok-sorted.sorted.items into c.in_ok-sorted.ensures.same h) c.cut.ensures
