use Rattle.std.proofs.Common.{◌∙◌, sym}
use Rattle.pact_record.specs.FieldSets.{has_field}
use Rattle.combine_rule.proofs.SetsOfAll.{all_but}
use Rattle.combine_rule.proofs.fields.has_all.Goals as goal

pub returns-then-not-is_inside : goal.returns-then-not-is_inside
returns-then-not-is_inside c =
    sym (all_but (has_field c.args.set) c.args.fields c.loop-k.k c.loop-k-test.true (sym c.is_inside.ensures ∙ c.if-not-is_inside.true))
