use Rattle.std.proofs.Common.{◌<◌, sym, ◌∙◌, get_or, subst, []}
use Rattle.pact_record.specs.Record.{key_of}
use Rattle.local_strategy.specs.Grouped.{order_of}
use Rattle.local_strategy.proofs.GroupLaws.{equal_keys}
use Rattle.local_strategy.proofs.scanning.find.Goals as goal

pub returns-then-eq : goal.returns-then-eq
returns-then-eq c = (
  subst (λ l. c.loop-n.n < l) c.len-n-end.ensures.count c.loop-n-test.true,
  equal_keys (get_or (order_of c.args.groups.now.keys c.args.groups.now.groups) c.loop-n.n []) (key_of c.args.keys.now c.args.row.now) c.key_compare.result c.key_compare.ensures (sym c.eq.ensures ∙ c.if-eq.true),
)
