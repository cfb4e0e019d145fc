use Rattle.std.proofs.Common.{subst}
use Rattle.text_lines.specs.LineGrammar.{IsWordEnd}
use Rattle.text_lines.specs.LineReading.{IsStuck, IsWordAt, NextWord}
use Rattle.text_lines.proofs.WordReading.{Chain-last, NextWord-shorter, words_read, SpellsWords-chain, ¬IsWordStart-end}
use Rattle.text_lines.proofs.word_reading.scan.Goals as goal

pub returns-then-is_word_end : goal.returns-then-is_word_end
returns-then-is_word_end c =
    SpellsWords-chain c.args.line.now c.loop-next.words c.loop-next.rest.now c.loop-next.invariant (subst IsWordEnd c.behind_gap-next.ensures c.if-is_word_end.ensures.yes)

pub returns-in_default : goal.returns-in_default
returns-in_default c words h =
    let none = subst (IsStuck IsWordAt) c.behind_gap-next.ensures (rw c.in_default.is at c.in_ok-word.ensures.none) in
    let end = (words_read c.args.line.now c.loop-next.words c.loop-next.rest.now c.loop-next.invariant none words h).1 in
    ¬IsWordStart-end _ (rw c.behind_gap-next.ensures end) c.if-is_word_end.ensures.no

next : (c : goal.In_ok-push) → NextWord c.loop-next.rest.now c.in-Some.word c.in-Some.behind.now
next c = rw c.behind_gap-next.ensures at (rw c.in-Some.is at c.in_ok-word.ensures.word)

pub loop-next-smaller : goal.loop-next-smaller
loop-next-smaller c = NextWord-shorter c.loop-next.rest.now c.in-Some.word c.in-Some.behind.now (next c)

pub loop-next-preserved : goal.loop-next-preserved
loop-next-preserved c = rw c.in_ok-push.ensures.ok (Chain-last NextWord _ _ _ _ _ c.loop-next.invariant (next c))
