use Rattle.std.proofs.Common.{◌+◌, ap, sym, ◌∙◌, refl, arith}
use Rattle.pact_record.specs.Record.{at_field, key_of}
use Rattle.pact_record.proofs.KeyOrder.{at_field-key_of, length-key_of}
use Rattle.pact_bag.proofs.NullKeys.{not_null, other_at}
use Rattle.pact_bag.proofs.null_keys.has_null.Goals as goal

pub loop-n-preserved : goal.loop-n-preserved
loop-n-preserved c =
    let n = c.loop-n.n in
    let keys = c.args.keys.now in
    let row = c.args.row.now in
    let here = c.get.ensures ∙ ap (at_field row) c.at.ensures.at ∙ sym (at_field-key_of n keys row (omega (arith, c.len-n-end.ensures.len, c.loop-n-test.true))) in
    c.loop-n.invariant ∙ other_at (key_of keys row) n (n + 1) refl (omega (arith, c.len-n-end.ensures.len, c.loop-n-test.true, length-key_of keys row))
    (not_null c.get.result.now (at_field (key_of keys row) n) c.is_null.result here c.is_null.ensures c.if-is_null.false)
