use Rattle.std.proofs.Common.{Bool, Err, sym, subst}
use Rattle.text_lines.specs.declared.lines.TextFault.{TextFault}
use Rattle.tac_text.specs.FunctionLines.{FunctionAt}
use Rattle.tac_text.specs.FunctionStates.{GivesFunction, LeadsLine}
use Rattle.tac_text.proofs.FunctionReads.{FunctionAt-read, FunctionAt-unique, HasRead-line, IsFunctionFault-read, IsFunctionFault-end, GivesFunction-fault, GivesFunction-end}
use Rattle.tac_text.proofs.function_reading.read_with.Goals as goal

at_end : (c : goal.After-finished) → FunctionAt c.args.registers c.finished.result c.args.text.now c.args.at c.line_at-next.result.1
at_end c =
    let line = c.line_at-next.result.0.now in
    let taken = subst (λ (ended : Bool). LeadsLine c.args.registers ended line c.loop-behind.begun c.take_line.new.begun) c.in-Ok-true.field-0-test c.in-Ok-true.ensures.taken in
    FunctionAt-read c.args.registers c.args.text.now c.args.at c.loop-behind.behind c.line_at-next.result.1 c.loop-behind.number line c.loop-behind.begun c.take_line.new.begun c.finished.result
    c.loop-behind.invariant c.line_at-next.ensures.lines c.line_at-next.ensures.further c.line_at-next.ensures.within taken c.finished.ensures

pub returns-in-Ok-true-clause-function : goal.returns-in-Ok-true-clause-function
returns-in-Ok-true-clause-function c = at_end c

pub returns-in-Ok-true-clause-function_always : goal.returns-in-Ok-true-clause-function_always
returns-in-Ok-true-clause-function_always c f behind h = FunctionAt-unique c.args.registers c.finished.result f c.args.text.now c.args.at c.line_at-next.result.1 behind (at_end c) h

pub returns-in-Ok-true-clause-writable : goal.returns-in-Ok-true-clause-writable
returns-in-Ok-true-clause-writable c = (at_end c).4.writable.0

pub returns-in-Ok-true-clause-takes : goal.returns-in-Ok-true-clause-takes
returns-in-Ok-true-clause-takes c = (at_end c).4.takes

pub loop-behind-preserved : goal.loop-behind-preserved
loop-behind-preserved c =
    let line = c.line_at-next.result.0.now in
    let taken = subst (λ (ended : Bool). LeadsLine c.args.registers ended line c.loop-behind.begun c.take_line.new.begun) c.in-Ok-false.field-0-test c.in-Ok-false.ensures.taken in
    HasRead-line c.args.registers c.args.text.now c.args.at c.loop-behind.behind c.line_at-next.result.1 c.loop-behind.number line c.loop-behind.begun c.take_line.new.begun
    c.loop-behind.invariant c.line_at-next.ensures.lines c.line_at-next.ensures.further c.line_at-next.ensures.within taken

pub returns-in-Err-clause-function_always : goal.returns-in-Err-clause-function_always
returns-in-Err-clause-function_always c f behind h =
    let told = GivesFunction-fault c.args.registers c.args.text.now c.args.at c.loop-behind.behind c.line_at-next.result.1 c.loop-behind.number c.line_at-next.result.0.now c.loop-behind.begun c.in-Err.why
    c.loop-behind.invariant c.line_at-next.ensures.lines c.in-Err.ensures.fault f behind h in
    subst (λ (e : TextFault). GivesFunction (Err e) f behind) (sym c.at_line.ensures) told

pub returns-in-Err-clause-fault : goal.returns-in-Err-clause-fault
returns-in-Err-clause-fault c =
    rw c.at_line.ensures (IsFunctionFault-read c.args.registers c.args.text.now c.args.at c.loop-behind.behind c.line_at-next.result.1 c.loop-behind.number c.line_at-next.result.0.now c.loop-behind.begun c.in-Err.why
    c.loop-behind.invariant c.line_at-next.ensures.lines c.in-Err.ensures.fault)

pub returns-clause-function_always : goal.returns-clause-function_always
returns-clause-function_always c f behind h = GivesFunction-end c.args.registers c.args.text.now c.args.at c.loop-behind.behind c.loop-behind.number c.loop-behind.begun c.loop-behind.invariant c.loop-behind-test.false f behind h

pub returns-clause-fault : goal.returns-clause-fault
returns-clause-fault c =
    rw c.max.ensures (IsFunctionFault-end c.args.registers c.args.text.now c.args.at c.loop-behind.behind c.loop-behind.number c.loop-behind.begun c.loop-behind.invariant c.loop-behind-test.false)
