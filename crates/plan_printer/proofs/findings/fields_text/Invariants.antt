use Rattle.std.proofs.Common.{◌≡◌}
use Rattle.plan_printer.specs.FoundText.{rising_fields, with_commas}
use Rattle.plan_printer.proofs.findings.fields_text.Given as goal

abbrev pub invariant-loop-field : goal.invariant-loop-field
invariant-loop-field l = l.text ≡ with_commas (rising_fields l.set l.field)
