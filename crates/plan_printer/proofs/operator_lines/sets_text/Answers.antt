use Rattle.std.proofs.Common.{◌+◌, ◌++◌, ℕ, List, get_or, length, take, ap, sym, ◌∙◌, subst, arith}
use Rattle.std.proofs.lemmas.Option.{slice_get_read}
use Rattle.pact_operators.specs.declared.operators.Op.{Op}
use Rattle.plan_printer.specs.SetsText.{AreLinesFrom}
use Rattle.plan_printer.proofs.LinesSoFar.{lines-more, small_number}
use Rattle.plan_printer.proofs.operator_lines.sets_text.Goals as goal

pub overflow_cast-n : goal.overflow_cast-n
overflow_cast-n c =
    let small = small_number c.args.program.now c.plan.result.now c.ops-op-items.result.now c.loop-n.n c.plan.ensures.keeps c.plan.ensures.plan c.root-root.ensures.plan c.ops-op-items.ensures.ops c.loop-n-test.true in
    omega (arith, small)

pub line_of-requires : goal.line_of-requires
line_of-requires c =
    let ops = c.ops-op-items.result.now in
    let same = c.ops-op-items.ensures.ops in
    let op = c.op-item.result in
    let is = c.op-item.is ∙ ap (λ (all : List Op). get_or all c.loop-n.n op) same in
    slice_get_read c.args.program.now.ops (length ops) c.loop-n.n op (ap length same) c.loop-n-test.true is

pub loop-n-preserved : goal.loop-n-preserved
loop-n-preserved c =
    let p = c.args.program.now in
    let ops = c.ops-op-items.result.now in
    let n = c.loop-n.n in
    let text = c.loop-n.text in
    let line = c.in_ok-line.line in
    subst (AreLinesFrom p 0 (take (n + 1) ops)) (sym (c.in_ok-extend_from_slice.ensures.ok ∙ ap (λ (l : List ℕ). text ++ l) c.bytes.ensures))
    (lines-more p ops n c.op-item.result text line c.loop-n-test.true c.op-item.is c.loop-n.invariant c.in_ok-line.ensures)
