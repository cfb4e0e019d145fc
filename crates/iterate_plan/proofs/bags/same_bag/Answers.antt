use Rattle.std.proofs.Common.{map, ap, sym, ◌∙◌, arith}
use Rattle.std.proofs.lemmas.List.Sorted.{length_permutation}
use Rattle.iterate_plan.proofs.SortedBags.{same_moved, sorted_same}
use Rattle.iterate_plan.proofs.bags.same_bag.Goals as goal

pub returns-then-len : goal.returns-then-len
returns-then-len c =
    let as_long = length_permutation c.args.a.now c.args.b.now in
    (λ e. absurd cc, λ p. absurd (grind (arith, c.if-len.true, c.len.ensures, c.len-2.ensures, as_long p)))

pub returns : goal.returns
returns c =
    let a = c.args.a.now in
    let b = c.args.b.now in
    let left = c.in_ok-left.ensures in
    let right = c.in_ok-right.ensures in
    let this = ap (map (λ r. r.now)) c.deref.ensures.value in
    let that = ap (map (λ r. r.now)) c.deref-2.ensures.value in (
      λ e. same_moved a b _ _ left.permuted right.permuted (sym this ∙ c.same_rows.ensures.0 e ∙ that),
      λ p. c.same_rows.ensures.1 (this ∙ sorted_same a b _ _ left.permuted right.permuted left.sorted right.sorted p ∙ sym that),
    )
