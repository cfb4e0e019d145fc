use Rattle.std.proofs.Common.{rules}
use Rattle.std.proofs.lemmas.Fn.{always_returns_same}
use Rattle.pact_bag.proofs.SortedRows.{is_before, is_before_ranks}
use Rattle.pact_bag.proofs.sorting.sort_records.Goals as goal

pub returns-clause-sorted : goal.returns-clause-sorted
returns-clause-sorted c =
    c.in_ok-sort_by.ensures.sorted (is_before c.args.fields.now) (is_before_ranks c.args.fields.now) (always_returns_same _ _ _ (λ a r f k. search rules))
