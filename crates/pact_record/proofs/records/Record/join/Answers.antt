use Rattle.std.proofs.Common.{ap, ◌+◌, ℕ, ◌∙◌, arith, ◌++◌, ◌∷◌, []}
use Rattle.std.proofs.lemmas.List.{take_all}
use Rattle.pact_record.specs.Record.{joined_record, joined_value}
use Rattle.pact_record.proofs.JoinedRecords.{joined_record-next, length-joined_record}
use Rattle.pact_record.proofs.records.Record.join.Goals as goal

pub loop-field-preserved : goal.loop-field-preserved
loop-field-preserved c =
    let l = c.args.left.now in
    let r = c.args.right.now in
    let value = c.in_ok-copy.ensures ∙ c.or.ensures ∙ (λ i. joined_value (c.get.ensures i) (c.get-in-loop-field.ensures i)) in (
      c.push_reserved.ensures.items ∙ (λ i. c.loop-field.invariant.0 i ++ value i ∷ []) ∙ joined_record-next l r c.loop-field.field c.requires (omega (arith, c.len-field-end.ensures.len)),
      c.push_reserved.ensures.len ∙ ap (λ (n : ℕ). n + 1) c.loop-field.invariant.1,
      c.push_reserved.ensures.capacity ∙ c.loop-field.invariant.2,
    )

pub returns : goal.returns
returns c =
    let l = c.args.left.now in
    let r = c.args.right.now in
    c.from_vec.ensures ∙ c.loop-field.invariant.0 ∙ take_all c.loop-field.field (joined_record l r) (omega (arith, length-joined_record l r c.requires, c.len-field-end.ensures.len))
