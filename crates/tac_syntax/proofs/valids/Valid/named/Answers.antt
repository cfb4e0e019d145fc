use Rattle.tac_syntax.proofs.Naming.{NamesBelow-valid}
use Rattle.tac_syntax.proofs.valids.Valid.named.Goals as goal

pub named_in-requires : goal.named_in-requires
named_in-requires c = record { fields = c.self.invariant.few_fields; below = NamesBelow-valid c.self.inside.function c.self.inside.fields c.self.invariant }
