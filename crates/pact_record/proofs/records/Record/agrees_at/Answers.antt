use Rattle.std.proofs.Common.{◌∙◌, sym, rules}
use Rattle.pact_record.specs.Record.{at_field}
use Rattle.pact_record.specs.Value.{value_cmp}
use Rattle.pact_record.proofs.EqualValues.{same_value, value_itself}
use Rattle.pact_record.proofs.records.Record.agrees_at.Goals as goal

pub returns-else-not-has : goal.returns-else-not-has
returns-else-not-has c =
    let a = at_field c.args.self.now c.args.field in
    let b = at_field c.args.other.now c.args.field in
    let found = c.compare.ensures ∙ (λ i. value_cmp (c.get.ensures i) (c.get-else-not-has.ensures i)) in (
      (λ h has. same_value a b c.compare.result found (sym c.eq.ensures ∙ h)),
      (λ agree. c.eq.ensures ∙ value_itself a b c.compare.result found (agree (search rules))),
    )
