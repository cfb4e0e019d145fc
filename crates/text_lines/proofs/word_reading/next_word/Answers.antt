use Rattle.std.proofs.Common.{arith, inl, inr}
use Rattle.text_lines.proofs.WordReading.{¬IsWordAt-literal, quote_first}
use Rattle.text_lines.proofs.word_reading.next_word.Goals as goal
use Rattle.text_lines.proofs.word_reading.next_word.Goals.{in_default-via-in-Some+else-len-le-MAX_TEXT, in_default-via-in_default}

pub returns-clause-none : goal.returns-clause-none
returns-clause-none c =
    ¬IsWordAt-literal c.args.line.now _ c.in_ok-bytes-2.bytes c.in_ok-bytes-2.rest.now (quote_first c.args.line.now c.requires (omega arith)) c.in_ok-bytes-2.ensures.bytes c.in_ok-bytes-2.ensures.no_more
    (elim c.in_default.branch [
      | in_default-via-in-Some+else-len-le-MAX_TEXT w ↦ λ last e. inr (omega arith)
      | in_default-via-in_default w ↦ λ last e. inl (w.in_default.ensures.none last e)
    ])
