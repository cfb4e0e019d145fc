use Rattle.std.proofs.Common.{inr, refl}
use Rattle.text_lines.specs.LineGrammar.{IsLine, IsUnspelled}
use Rattle.text_lines.proofs.WordReading.{IsLine-unique, ¬HasLineFault-IsLine, ¬IsGarbled-clean}
use Rattle.text_lines.proofs.CanonicalLines.{AreLineWords-IsLine, IsLine-written}
use Rattle.text_lines.proofs.word_reading.read_words.Goals as goal

is_line : (c : goal.In-Some) → IsLine c.args.line.now c.in-Some.words
is_line c = (c.if-is_garbled.ensures.clean.0, c.if-is_garbled.ensures.clean.1, rw c.in-Some.is at c.in_ok-words.ensures)

is_unspelled : (c : goal.In-None) → IsUnspelled c.args.line.now
is_unspelled c =
    let clean = c.if-is_garbled.ensures.clean in
    (¬IsGarbled-clean c.args.line.now clean.0 clean.1, rw c.in-None.is at c.in_ok-words.ensures)

pub returns-then-is_garbled-clause-words_always : goal.returns-then-is_garbled-clause-words_always
returns-then-is_garbled-clause-words_always c words h = absurd (¬IsGarbled-clean c.args.line.now h.0 h.1 c.if-is_garbled.ensures.garbled)

pub returns-then-is_garbled-clause-canonical : goal.returns-then-is_garbled-clause-canonical
returns-then-is_garbled-clause-canonical c depth words h e =
    let line = IsLine-written c.args.line.now depth words h e in
    absurd (¬IsGarbled-clean c.args.line.now line.0 line.1 c.if-is_garbled.ensures.garbled)

pub returns-in-Some-clause-words : goal.returns-in-Some-clause-words
returns-in-Some-clause-words c = is_line c

pub returns-in-Some-clause-words_always : goal.returns-in-Some-clause-words_always
returns-in-Some-clause-words_always c words h = IsLine-unique c.args.line.now c.in-Some.words words (is_line c) h

pub returns-in-Some-clause-fault_always : goal.returns-in-Some-clause-fault_always
returns-in-Some-clause-fault_always c what h = ¬HasLineFault-IsLine c.args.line.now c.in-Some.words what (is_line c) h

pub returns-in-Some-clause-writable : goal.returns-in-Some-clause-writable
returns-in-Some-clause-writable c = AreLineWords-IsLine c.args.line.now c.in-Some.words (is_line c)

pub returns-in-Some-clause-canonical : goal.returns-in-Some-clause-canonical
returns-in-Some-clause-canonical c depth words h e =
    IsLine-unique c.args.line.now c.in-Some.words words (is_line c) (IsLine-written c.args.line.now depth words h e)

pub returns-in-None-clause-fault : goal.returns-in-None-clause-fault
returns-in-None-clause-fault c = inr (refl, is_unspelled c)

pub returns-in-None-clause-words_always : goal.returns-in-None-clause-words_always
returns-in-None-clause-words_always c words h = absurd ((is_unspelled c).1 words h.2)

pub returns-in-None-clause-canonical : goal.returns-in-None-clause-canonical
returns-in-None-clause-canonical c depth words h e = absurd ((is_unspelled c).1 words (IsLine-written c.args.line.now depth words h e).2)
