use Rattle.std.proofs.Common.{ap, sym, ◌∙◌}
use Rattle.plan_printer.specs.FoundText.{with_commas}
use Rattle.plan_printer.proofs.ListedFields.{listed, passed_over}
use Rattle.plan_printer.proofs.RisingFields.{rising_fields-zero}
use Rattle.plan_printer.proofs.findings.fields_text.Goals as goal
use Rattle.plan_printer.proofs.findings.fields_text.Goals.{then-has+in_ok-push_listed, else-has}

pub loop-field-init : goal.loop-field-init
loop-field-init c = c.new-text.ensures ∙ sym (ap with_commas (rising_fields-zero c.args.set))

pub loop-field-preserved : goal.loop-field-preserved
loop-field-preserved c = elim c.if-has.branch [
  | then-has+in_ok-push_listed w ↦ listed c.args.set c.loop-field.field c.loop-field.text c.if-has.text c.loop-field-test.true (sym c.has.ensures.has ∙ w.if-has.true) c.loop-field.invariant (w.text-is ∙ w.in_ok-push_listed.ensures)
  | else-has w ↦ passed_over c.args.set c.loop-field.field c.loop-field.text c.if-has.text (sym c.has.ensures.has ∙ w.if-has.false) c.loop-field.invariant w.text-is
]
