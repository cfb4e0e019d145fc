use Rattle.std.proofs.Common.{inl, inr, arith, ◌≤◌, ◌⊎◌, length}
use Rattle.pact_record.proofs.SameBefore.{record_cmp-ends}
use Rattle.pact_record.proofs.records.compare_values.Goals.{then-loop-at-test+else-at-right, else-loop-at-test}
use Rattle.pact_record.proofs.records.compare_values.Goals as goal

pub returns : goal.returns
returns c =
    let over : (length c.args.left.now ≤ c.loop-at.at) ⊎ (length c.args.right.now ≤ c.loop-at.at) =
    elim c.loop-at-test.branch [ then-loop-at-test+else-at-right w ↦ inr (omega arith) | else-loop-at-test w ↦ inl (omega arith) ] in
    let e = record_cmp-ends c.args.left.now c.args.right.now c.loop-at.at c.loop-at.invariant.in_left c.loop-at.invariant.in_right over in
    cc (c.loop-at.invariant.rest, e, c.cmp.ensures)
