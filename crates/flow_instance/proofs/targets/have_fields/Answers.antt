use Rattle.std.proofs.Common.{subst, ◌∙◌, ℕ}
use Rattle.pact_record.specs.Widths.{AreBelow}
use Rattle.flow_instance.proofs.FilledRecords.{first_width}
use Rattle.flow_instance.proofs.targets.have_fields.Goals as goal

pub returns-clause-below : goal.returns-clause-below
returns-clause-below c = λ are fields wide.
    subst (λ (n : ℕ). AreBelow n c.args.keys.now) (c.len-2.ensures.len ∙ first_width fields c.args.rows.now c.at.result.now c.at.ensures wide) (c.are_below-2.ensures.below.0 are)
