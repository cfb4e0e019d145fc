use Rattle.std.proofs.Common.{◌≡◌, ◌+◌, ℕ, suc, List, [], length, sym, ap, subst, arith}
use Rattle.pact_operators.proofs.NumbersInPlans.{few_numbers}
use Rattle.combine_rule.specs.CombinedPrograms.{IsCombinedFrom, planned}
use Rattle.combine_rule.proofs.AllCombined.{all_program}
use Rattle.combine_rule.proofs.CombinedClauses.{one_more}
use Rattle.combine_rule.proofs.SentOnce.{no_fewer}
use Rattle.combine_rule.proofs.combining.all_combined.Goals as goal

pub overflow_cast-at-end : goal.overflow_cast-at-end
overflow_cast-at-end c =
    let p = c.args.program.now in
    let few = few_numbers p.functions p.ops c.args.physical.now.tree c.requires in
    let operators = c.ops.ensures.keeps.few_operators in
    let same = ap length c.ops.ensures.ops in
    omega (arith, few, operators, same)

pub combined_at-requires-clause-there : goal.combined_at-requires-clause-there
combined_at-requires-clause-there c =
    let p = c.args.program.now in
    let q = c.args.physical.now in
    let now = c.loop-at.combined in
    let h = c.loop-at.invariant in
    let more = no_fewer [] (planned now.program now.physical) c.loop-at.at 0 (planned p q) now.of.items h c.ops.ensures.keeps c.requires in
    let same = ap length c.ops.ensures.ops in
    let lt = c.loop-at-test.true in
    omega (arith, more, same, lt)

pub combined_at-requires-clause-plan : goal.combined_at-requires-clause-plan
combined_at-requires-clause-plan c =
    let p = c.args.program.now in
    let q = c.args.physical.now in
    let now = c.loop-at.combined in
    let h = c.loop-at.invariant in
    (all_program [] (planned now.program now.physical) c.loop-at.at 0 (planned p q) now.of.items h c.ops.ensures.keeps c.requires).1

pub loop-at-preserved : goal.loop-at-preserved
loop-at-preserved c =
    let p = c.args.program.now in
    let q = c.args.physical.now in
    let now = c.loop-at.combined in
    let h = c.loop-at.invariant in
    let at = c.loop-at.at in
    let next = c.in_ok-combined.combined in
    let step = c.in_ok-combined.ensures in
    let s = planned p q in
    let end = planned next.program next.physical in
    let more : IsCombinedFrom (suc at) 0 s end _ = one_more at 0 at s (planned now.program now.physical) end now.of.items step.0 (omega arith) h step.2 in
    let count : suc at ≡ at + 1 = omega arith in
    subst (λ (n : ℕ). IsCombinedFrom n 0 s end next.of.items) count (subst (λ (l : List (ℕ × ℕ)). IsCombinedFrom (suc at) 0 s end l) (sym step.1) more)
