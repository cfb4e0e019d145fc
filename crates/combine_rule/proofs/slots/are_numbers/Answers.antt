use Rattle.std.proofs.Common.{◌∙◌, sym, refl, subst, arith, ℕ}
use Rattle.tac_syntax.specs.Limits.{value_registers}
use Rattle.tac_syntax.specs.Trees.{code_of}
use Rattle.order_free.specs.declared.accumulators.Accumulation.{Accumulation}
use Rattle.combine_rule.specs.Combinable.{StartsAsNumber}
use Rattle.combine_rule.specs.Slots.{is_taken_up, accumulation_of, accumulators_of}
use Rattle.combine_rule.proofs.RangesInTurn.{all_yes, all_not, all_fails, all_end}
use Rattle.combine_rule.proofs.slots.are_numbers.Goals.{else-is_taken_up-via-then-is_taken_up+else-not-starts_as_number, else-is_taken_up-via-else-is_taken_up}
use Rattle.combine_rule.proofs.slots.are_numbers.Goals as goal

pub loop-d-preserved : goal.loop-d-preserved
loop-d-preserved c =
    let P = λ (d : ℕ). StartsAsNumber (accumulation_of c.args.inner.now d) (code_of c.args.front.now) d in
    let p = is_taken_up c.args.inner.now in
    let all = accumulators_of c.args.inner.now in
    elim c.else-is_taken_up.branch [
      | else-is_taken_up-via-then-is_taken_up+else-not-starts_as_number w ↦ all_yes P p c.loop-d.d value_registers all c.loop-d-test.true (sym c.is_taken_up.ensures ∙ w.if-is_taken_up.true)
          (subst (λ (b : Accumulation). StartsAsNumber b (code_of c.args.front.now) c.loop-d.d) w.accumulation_of.ensures (w.starts_as_number.ensures.0 w.if-not-starts_as_number.false)) c.loop-d.invariant
      | else-is_taken_up-via-else-is_taken_up w ↦ all_not P p c.loop-d.d value_registers all c.loop-d-test.true (sym c.is_taken_up.ensures ∙ w.if-is_taken_up.false) c.loop-d.invariant
    ]

pub returns-then-not-starts_as_number : goal.returns-then-not-starts_as_number
returns-then-not-starts_as_number c =
    let P = λ (d : ℕ). StartsAsNumber (accumulation_of c.args.inner.now d) (code_of c.args.front.now) d in
    let fails = all_fails P (is_taken_up c.args.inner.now) c.loop-d.d value_registers (accumulators_of c.args.inner.now) c.loop-d-test.true (sym c.is_taken_up.ensures ∙ c.if-is_taken_up.true)
    (λ s. let held = c.starts_as_number.ensures.1 (subst (λ (b : Accumulation). StartsAsNumber b (code_of c.args.front.now) c.loop-d.d) (sym c.accumulation_of.ensures) s) in let not = c.if-not-starts_as_number.true in cc) c.loop-d.invariant in
    (λ e. absurd cc, λ all. absurd (fails all))

pub returns : goal.returns
returns c =
    let P = λ (d : ℕ). StartsAsNumber (accumulation_of c.args.inner.now d) (code_of c.args.front.now) d in
    let all = all_end P (is_taken_up c.args.inner.now) c.loop-d.d value_registers (accumulators_of c.args.inner.now) (omega (arith, c.loop-d-test.false)) c.loop-d.invariant in
    (λ _. all, λ _. refl)
