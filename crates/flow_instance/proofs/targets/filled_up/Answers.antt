use Rattle.std.proofs.Common.{◌<◌, ℕ, subst, ◌∙◌}
use Rattle.pact_record.specs.declared.records.TheConstants.{MAX_FIELDS}
use Rattle.flow_instance.proofs.FilledRecords.{filled-more}
use Rattle.flow_instance.proofs.targets.filled_up.Goals as goal

pub loop-field-preserved : goal.loop-field-preserved
loop-field-preserved c =
    c.set.ensures ∙ filled-more c.args.row.now c.loop-field.filled MAX_FIELDS c.loop-field.field c.in_ok-copy.field-0 (subst (λ (n : ℕ). c.loop-field.field < n) c.len-field-end.ensures.len c.loop-field-test.true) c.len-field-end.ensures.few (c.in_ok-copy.ensures ∙ c.get.ensures) c.loop-field.invariant
