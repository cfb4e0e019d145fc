use Rattle.std.proofs.Common.{bytes_eq, ap, sym, ◌∙◌}
use Rattle.tac_syntax.specs.declared.functions.Kind.TheVariants.{Map}
use Rattle.text_lines.proofs.Faultless.{named_in-next}
use Rattle.tac_text.specs.FunctionLines.{kind_word}
use Rattle.tac_text.specs.declared.kind_words.TheConstants.{KINDS}
use Rattle.tac_text.proofs.kind_words.kind_named.Goals as goal

pub loop-kind-preserved : goal.loop-kind-preserved
loop-kind-preserved c =
    let word = c.args.word.now in
    let other = ap (bytes_eq word) (sym c.kind_name.ensures) ∙ sym c.is_word.ensures ∙ c.if-is_word.false in
    sym (named_in-next kind_word KINDS c.loop-kind.kind-index Map word c.loop-kind-test.true other) ∙ c.loop-kind.invariant
