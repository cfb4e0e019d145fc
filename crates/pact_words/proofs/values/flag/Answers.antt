use Rattle.clap.specs.Words.{found_of}
use Rattle.pact_words.specs.FoundValues.{flag_said}
use Rattle.pact_words.proofs.SaidValues.{parsed_flag, read-said}
use Rattle.pact_words.proofs.values.flag.Goals as goal

pub returns : goal.returns
returns c = read-said flag_said (found_of c.args.matches.now) c.args.name.now c.get_one.result c.get_one.ensures.none (λ t e. parsed_flag _ t c.get_one.result (c.get_one.ensures.value t e))
