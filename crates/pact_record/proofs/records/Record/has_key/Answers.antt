use Rattle.std.proofs.Common.{ap, sym, ◌∙◌, refl, arith, ◌+◌}
use Rattle.pact_record.specs.Value.{value_cmp}
use Rattle.pact_record.specs.Record.{at_field, key_of}
use Rattle.pact_record.proofs.KeyOrder.{at_field-key_of, compared-equal, compared-unlike, length-key_of}
use Rattle.pact_record.proofs.records.Record.has_key.Goals as goal

pub returns-then-ne : goal.returns-then-ne
returns-then-ne c =
    let n = c.loop-n.n in
    let keys = c.args.keys.now in
    let row = c.args.self.now in
    let key = c.args.key.now in
    let left = c.get.ensures ∙ ap (at_field row) c.at.ensures.at ∙ sym (at_field-key_of n keys row (omega (arith, c.len-n-end.ensures.len))) in
    let right = c.get-in-loop-n.ensures in
    compared-unlike n (key_of keys row) key c.compare.result (length-key_of keys row ∙ sym c.requires.length)
    (omega (arith, c.len-n-end.ensures.len, length-key_of keys row)) c.loop-n.invariant (c.compare.ensures ∙ (λ i. value_cmp (left i) (right i))) (sym c.ne.ensures ∙ c.if-ne.true)

pub loop-n-preserved : goal.loop-n-preserved
loop-n-preserved c =
    let n = c.loop-n.n in
    let keys = c.args.keys.now in
    let row = c.args.self.now in
    let key = c.args.key.now in
    let left = c.get.ensures ∙ ap (at_field row) c.at.ensures.at ∙ sym (at_field-key_of n keys row (omega (arith, c.len-n-end.ensures.len))) in
    let right = c.get-in-loop-n.ensures in
    compared-equal n (n + 1) (key_of keys row) key c.compare.result refl (length-key_of keys row ∙ sym c.requires.length)
    (omega (arith, c.len-n-end.ensures.len, length-key_of keys row)) c.loop-n.invariant (c.compare.ensures ∙ (λ i. value_cmp (left i) (right i))) (sym c.ne.ensures ∙ c.if-ne.false)
