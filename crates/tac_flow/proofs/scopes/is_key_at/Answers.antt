use Rattle.std.proofs.Common.{sym, arith, ◌∙◌}
use Rattle.std.proofs.lemmas.Bool.{le-ltb}
use Rattle.tac_flow.proofs.KeyPositions.{is_key_at-past}
use Rattle.tac_flow.proofs.scopes.is_key_at.Goals as goal

pub returns-else-at-len : goal.returns-else-at-len
returns-else-at-len c = le-ltb c.args.at c.len.result c.if-at-len.false ∙ sym (is_key_at-past c.args.keys.now c.args.at c.args.field (omega (arith, c.if-at-len.false, c.len.ensures.len)))
