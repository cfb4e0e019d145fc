use Rattle.std.proofs.Common.{◌≡◌, ◌+◌, get_or, rules, not, subst, sym}
use Rattle.std.proofs.lemmas.Bool.{not-true}
use Rattle.std.proofs.lemmas.Fn.{always_returns_same}
use Rattle.std.specs.List.{IsAllAdjacentAnswer}
use Rattle.pact_bag.proofs.SortedRows.{is_before}
use Rattle.pact_bag.proofs.sorting.are_sorted.Goals as goal

pub returns : goal.returns
returns c =
    let fields = c.args.fields.now in
    let answer = c.is_sorted_by.ensures.cases (λ x y. not (is_before fields y x)) (always_returns_same _ _ _ (λ a r f k. search rules)) in
    λ is k d from below. not-true (is_before fields (get_or c.args.rows.now (k + 1) d) (get_or c.args.rows.now k d)) (sym (subst (IsAllAdjacentAnswer (λ x y b. b ≡ not (is_before fields y x)) c.args.rows.now) is answer k d below))
