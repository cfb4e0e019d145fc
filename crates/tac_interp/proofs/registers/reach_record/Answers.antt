use Rattle.std.proofs.Common.{◌+◌, ◌∙◌, sym, subst, arith}
use Rattle.std.specs.List.{AllByRecursion}
use Rattle.tac_syntax.specs.Limits.{record_registers}
use Rattle.tac_interp.specs.declared.registers.Held.TheVariants.{Blank}
use Rattle.tac_interp.specs.Registers.{IsAsWide}
use Rattle.tac_interp.proofs.FilledRegisters.{FillsTo, FillsTo-start, FillsTo-next, FillsTo-end, FillsTo-few, FillsTo-all, FillsTo-length}
use Rattle.tac_interp.proofs.registers.reach_record.Goals as goal

pub loop-init : goal.loop-init
loop-init c = FillsTo-start Blank c.args.held.now.items c.len-counter.result (c.args.at + 1) (c.len-counter.ensures ∙ c.args.held.now.ok.0)

pub loop-preserved : goal.loop-preserved
loop-preserved c = FillsTo-next Blank _ _ _ _ _ _ (omega arith) c.loop-test.true c.in_ok-push.ensures.items c.loop.invariant

pub returns-in_err-push-clause-few : goal.returns-in_err-push-clause-few
returns-in_err-push-clause-few c few =
    FillsTo-few record_registers Blank _ _ c.loop.counter _ (omega (arith, c.requires)) (subst (λ l. FillsTo Blank c.args.held.now.items l c.loop.counter (c.args.at + 1)) (sym c.in_err-push.ensures.items) c.loop.invariant) few

pub returns-in_err-push-clause-widths : goal.returns-in_err-push-clause-widths
returns-in_err-push-clause-widths c fields lent wide =
    subst (AllByRecursion (IsAsWide fields lent)) (sym c.in_err-push.ensures.items) (FillsTo-all (IsAsWide fields lent) Blank _ _ c.loop.counter (c.args.at + 1) tt c.loop.invariant wide)

pub returns-clause-reached : goal.returns-clause-reached
returns-clause-reached c = FillsTo-end Blank _ _ _ _ c.loop-test.false c.loop.invariant

pub returns-clause-few : goal.returns-clause-few
returns-clause-few c few = FillsTo-few record_registers Blank _ _ c.loop.counter _ (omega (arith, c.requires)) c.loop.invariant few

pub returns-clause-widths : goal.returns-clause-widths
returns-clause-widths c fields lent wide = FillsTo-all (IsAsWide fields lent) Blank _ _ c.loop.counter (c.args.at + 1) tt c.loop.invariant wide

pub returns-clause-there : goal.returns-clause-there
returns-clause-there c = omega (arith, c.loop-test.false, FillsTo-length Blank _ _ _ _ c.loop.invariant, c.loop.held.ok.0)
