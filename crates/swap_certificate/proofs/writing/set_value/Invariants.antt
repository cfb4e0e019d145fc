use Rattle.std.proofs.Common.{◌≡◌, map}
use Rattle.serde_json.specs.View.{view}
use Rattle.plan_printer.specs.FoundText.{rising_fields}
use Rattle.swap_certificate.specs.Shape.{whole}
use Rattle.swap_certificate.proofs.writing.set_value.Given as goal

abbrev pub invariant-loop-field : goal.invariant-loop-field
invariant-loop-field l = map view l.fields.items ≡ map whole (rising_fields l.set l.field)
