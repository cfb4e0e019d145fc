use Rattle.std.proofs.Common.{ap, sym, ◌∙◌, refl, arith, ◌+◌}
use Rattle.pact_record.specs.Value.{value_cmp}
use Rattle.pact_record.specs.Record.{at_field, key_of}
use Rattle.pact_record.proofs.KeyOrder.{at_field-key_of, compared-differs, compared-equal, length-key_of}
use Rattle.pact_record.proofs.records.Record.key_compare.Goals as goal

pub returns-then-ne : goal.returns-then-ne
returns-then-ne c =
    let n = c.loop-n.n in
    let keys = c.args.keys.now in
    let others = c.args.other_keys.now in
    let l = c.args.self.now in
    let r = c.args.other.now in
    let left = c.get-left.ensures ∙ ap (at_field l) c.at.ensures.at ∙ sym (at_field-key_of n keys l (omega (arith, c.len-n-end.ensures.len))) in
    let right = c.get-right.ensures ∙ ap (at_field r) c.at-in-loop-n.ensures.at ∙ sym (at_field-key_of n others r (omega (arith, c.len-n-end.ensures.len, c.requires.length))) in
    sym (compared-differs n (key_of keys l) (key_of others r) c.compare-found.result (length-key_of keys l ∙ c.requires.length ∙ sym (length-key_of others r))
    (omega (arith, c.len-n-end.ensures.len, length-key_of keys l)) c.loop-n.invariant (c.compare-found.ensures ∙ (λ i. value_cmp (left i) (right i))) (sym c.ne.ensures ∙ c.if-ne.true))

pub loop-n-preserved : goal.loop-n-preserved
loop-n-preserved c =
    let n = c.loop-n.n in
    let keys = c.args.keys.now in
    let others = c.args.other_keys.now in
    let l = c.args.self.now in
    let r = c.args.other.now in
    let left = c.get-left.ensures ∙ ap (at_field l) c.at.ensures.at ∙ sym (at_field-key_of n keys l (omega (arith, c.len-n-end.ensures.len))) in
    let right = c.get-right.ensures ∙ ap (at_field r) c.at-in-loop-n.ensures.at ∙ sym (at_field-key_of n others r (omega (arith, c.len-n-end.ensures.len, c.requires.length))) in
    compared-equal n (n + 1) (key_of keys l) (key_of others r) c.compare-found.result refl (length-key_of keys l ∙ c.requires.length ∙ sym (length-key_of others r))
    (omega (arith, c.len-n-end.ensures.len, length-key_of keys l)) c.loop-n.invariant (c.compare-found.ensures ∙ (λ i. value_cmp (left i) (right i))) (sym c.ne.ensures ∙ c.if-ne.false)
