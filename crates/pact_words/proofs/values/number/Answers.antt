use Rattle.std.specs.Str.Parse.{ParsesUnsigned, ExplainsUnsignedError, HasUnsignedDigitsIfOk}
use Rattle.clap.specs.Words.{found_of}
use Rattle.pact_words.specs.FoundValues.{number_said}
use Rattle.pact_words.proofs.SaidValues.{parsed_said, read-said}
use Rattle.pact_words.proofs.values.number.Goals as goal

pub returns : goal.returns
returns c = read-said number_said (found_of c.args.matches.now) c.args.name.now c.get_one.result c.get_one.ensures.none
    (λ t e. parsed_said _ (λ text r. ParsesUnsigned 32 10 text r × ExplainsUnsignedError 10 text r × HasUnsignedDigitsIfOk text r) t c.get_one.result (λ u x g. g.0) (c.get_one.ensures.value t e))
