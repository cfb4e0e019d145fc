use Rattle.std.proofs.Common.{map}
use Rattle.std.proofs.lemmas.List.{map-set}
use Rattle.tac_flow.specs.Views.{known_of, held_of}
use Rattle.tac_flow.proofs.facts.Facts.set_record.Goals as goal

pub returns : goal.returns
returns c = λ i. record { values = map known_of c.args.self.now.values; records = map-set held_of c.args.self.now.records c.args.to c.args.row i }
