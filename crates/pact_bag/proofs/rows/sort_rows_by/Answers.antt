use Rattle.pact_bag.proofs.Widths.{HaveOneWidth-permutation}
use Rattle.pact_bag.proofs.rows.sort_rows_by.Goals as goal

pub invariant_of-result : goal.invariant_of-result
invariant_of-result c = HaveOneWidth-permutation _ _ c.in_ok-held.ensures.permuted c.rows.invariant
