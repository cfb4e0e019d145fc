use Rattle.std.proofs.Common.{◌≡◌, ◌∙◌, sym, ap, Some}
use Rattle.pact_words.specs.Words.{asked, asked_of, kind_in, texts_of}
use Rattle.pact_words.proofs.AskedOrRefused.{kind_of_first, none_found}
use Rattle.pact_words.proofs.TakenWords.{taken_in_range}
use Rattle.pact_words.proofs.reading.read_words.Goals as goal

pub returns-clause-answers : goal.returns-clause-answers
returns-clause-answers c =
    let k = c.in-Some-kind_named.kind in
    let words = texts_of c.args.words.now in
    let named : kind_in words ≡ Some k = kind_of_first c.args.words.now c.in-Some.first.now k (sym c.in-Some.ensures.value) (sym c.in-Some-kind_named.ensures) in
    none_found k words named c.in_ok-matches.ensures.taken (ap (asked_of k) (sym c.in_ok-matches.ensures.found) ∙ sym c.in-None.ensures)

pub returns-in-Some-command_in-clause-in_range : goal.returns-in-Some-command_in-clause-in_range
returns-in-Some-command_in-clause-in_range c =
    let k = c.in-Some-kind_named.kind in
    taken_in_range k (texts_of c.args.words.now) (asked c.in-Some-command_in.command) c.in_ok-matches.ensures.taken
    (ap (asked_of k) (sym c.in_ok-matches.ensures.found) ∙ sym c.in-Some-command_in.ensures)
