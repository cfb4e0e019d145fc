use Rattle.std.proofs.Common.{◌++◌, [], ◌∷◌, map, sym, ap, ◌∙◌}
use Rattle.std.proofs.lemmas.List.{map-append}
use Rattle.serde_json.specs.View.{view}
use Rattle.swap_certificate.specs.Shape.{whole}
use Rattle.plan_printer.proofs.RisingFields.{rising_fields-zero}
use Rattle.swap_certificate.proofs.CertificateValues.{wholes-with, wholes-without}
use Rattle.swap_certificate.proofs.writing.set_value.Goals.{then-has+in_ok-push, else-has}
use Rattle.swap_certificate.proofs.writing.set_value.Goals as goal

pub loop-field-init : goal.loop-field-init
loop-field-init c = ap (map view) c.new-fields.ensures.items ∙ sym (ap (map whole) (rising_fields-zero c.args.set))

pub loop-field-preserved : goal.loop-field-preserved
loop-field-preserved c = elim c.if-has.branch [
  | then-has+in_ok-push w ↦
      ap (λ v. map view v.items) w.fields-is ∙ ap (map view) w.in_ok-push.ensures.items ∙ map-append view c.loop-field.fields.items (w.from.result ∷ [])
      ∙ (λ i. c.loop-field.invariant i ++ w.from.ensures i ∷ []) ∙ sym (wholes-with c.args.set c.loop-field.field (sym c.has.ensures.has ∙ w.if-has.true))
  | else-has w ↦ ap (λ v. map view v.items) w.fields-is ∙ c.loop-field.invariant ∙ sym (wholes-without c.args.set c.loop-field.field (sym c.has.ensures.has ∙ w.if-has.false))
]
