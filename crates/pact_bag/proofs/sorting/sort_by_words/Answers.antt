use Rattle.std.proofs.Common.{rules, sym, subst}
use Rattle.std.proofs.lemmas.Fn.{always_returns_same}
use Rattle.std.proofs.lemmas.List.Sorted.{All-permutation, IsPermutation-map}
use Rattle.std.proofs.lemmas.Result.{IfOk-weaker}
use Rattle.std.specs.List.Sorted.{IsPermutation, IsSorted}
use Rattle.pact_record.specs.Record.{record_cmp}
use Rattle.pact_bag.specs.Rows.{cut}
use Rattle.pact_bag.specs.WordedRows.{IsWorded, row_of}
use Rattle.pact_bag.proofs.WordedOrder.{is_before_worded, sorted_rows, worded_ranks}
use Rattle.pact_bag.proofs.sorting.sort_by_words.Goals as goal

pub returns-clause-permuted : goal.returns-clause-permuted
returns-clause-permuted c =
    let moved = IsPermutation-map row_of _ _ c.sort_unstable_by.ensures.permutation in
    IfOk-weaker c.without_words.result _ _ (λ held e. subst (λ l. IsPermutation l held.items) c.in_ok-all.ensures.rows (subst (IsPermutation _) (sym e) moved)) c.without_words.ensures

pub returns-clause-sorted : goal.returns-clause-sorted
returns-clause-sorted c =
    let fields = c.args.fields.now in
    let words = All-permutation (IsWorded c.args.prefixes.now fields) _ _ c.sort_unstable_by.ensures.permutation c.in_ok-all.ensures.words in
    let sorted = c.sort_unstable_by.ensures.sorted (is_before_worded fields) (worded_ranks fields) (always_returns_same _ _ _ (λ a r f k. search rules)) in
    IfOk-weaker c.without_words.result _ _ (λ held e. subst (IsSorted (λ a b. record_cmp (cut fields a) (cut fields b))) (sym e) (sorted_rows c.args.prefixes.now fields c.sort_unstable_by.new.self.items words sorted)) c.without_words.ensures
