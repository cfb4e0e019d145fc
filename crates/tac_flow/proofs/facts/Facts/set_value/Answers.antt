use Rattle.std.proofs.Common.{map}
use Rattle.std.proofs.lemmas.List.{map-set}
use Rattle.tac_flow.specs.Views.{known_of, held_of}
use Rattle.tac_flow.proofs.facts.Facts.set_value.Goals as goal

pub returns : goal.returns
returns c = λ i. record { values = map-set known_of c.args.self.now.values c.args.to c.args.value i; records = map held_of c.args.self.now.records }
