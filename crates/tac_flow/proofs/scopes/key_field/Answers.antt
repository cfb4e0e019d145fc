use Rattle.std.proofs.Common.{sym, arith, ◌∙◌}
use Rattle.tac_flow.proofs.KeyPositions.{is_key_at-past}
use Rattle.tac_flow.proofs.scopes.key_field.Goals as goal

pub returns-else-at-len : goal.returns-else-at-len
returns-else-at-len c = λ i k. (c.empty.ensures k ∙ sym (is_key_at-past c.args.keys.now c.args.at k (omega (arith, c.if-at-len.false, c.len.ensures.len)))) i
