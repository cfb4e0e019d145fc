use Rattle.std.proofs.Common.{bytes_eq, ap, sym, ◌∙◌}
use Rattle.pact_record.specs.declared.operations.Op2.TheVariants.{Add}
use Rattle.text_lines.proofs.Faultless.{named_in-next}
use Rattle.tac_text.specs.StatementSpelling.{op2_word}
use Rattle.tac_text.specs.declared.operation_words.TheConstants.{OPS2}
use Rattle.tac_text.proofs.operation_words.op2_named.Goals as goal

pub loop-op-preserved : goal.loop-op-preserved
loop-op-preserved c =
    let word = c.args.word.now in
    let other = ap (bytes_eq word) (sym c.op2_name.ensures) ∙ sym c.is_word.ensures ∙ c.if-is_word.false in
    sym (named_in-next op2_word OPS2 c.loop-op.op-index Add word c.loop-op-test.true other) ∙ c.loop-op.invariant
