use Rattle.std.proofs.Common.{ℕ, List, [], ◌∷◌, length, inl, inr, refl, sym, ap, append-nil, arith}
use Rattle.std.proofs.lemmas.Bool.{both_ways}
use Rattle.combine_rule.proofs.CombinedReduces.{small}
use Rattle.combine_rule.proofs.combining.combined_at.Goals as goal

pub returns-then-not-can_combine : goal.returns-then-not-can_combine
returns-then-not-can_combine c = ([], sym (append-nil c.args.so_far.of.items), inr ((λ k. both_ways c.can_combine.result c.if-not-can_combine.true (c.can_combine.ensures.1 k)), (refl, refl)))

pub overflow_cast-ops : goal.overflow_cast-ops
overflow_cast-ops c =
    let s = c.args.so_far in
    let lt = small s.program s.physical c.args.at (c.can_combine.ensures.0 c.if-not-can_combine.false) c.ops.ensures.keeps c.requires.plan in
    let same = ap length c.ops.ensures.ops in
    omega (arith, lt, same)

pub returns : goal.returns
returns c =
    let at = c.args.at in
    let more : List (ℕ × ℕ) = (length c.ops.result.now, at) ∷ [] in
    (more, c.in_ok-push.ensures.items, inl (c.in_ok-program.ensures.0, [], ap (λ (n : ℕ). (n, at) ∷ []) (ap length c.ops.ensures.ops), (c.in_ok-program.ensures.1, refl)))
