use Rattle.std.proofs.Common.{◌≡◌, ◌∙◌, ap, ℕ, List, length, subst, sym, take}
use Rattle.std.specs.List.{AllByRecursion}
use Rattle.std.proofs.lemmas.List.{length-map}
use Rattle.pact_record.specs.declared.values.Value.{Value}
use Rattle.pact_record.specs.Record.{at_field}
use Rattle.pact_bag.proofs.Widths.{cut-widths}
use Rattle.pact_bag.proofs.rows.project.Goals as goal

pub push-requires : goal.push-requires
push-requires c =
    let fields = c.args.fields.now in
    let as_many : length c.in_ok-project_row.field-0 ≡ length fields = ap length c.in_ok-project_row.ensures ∙ length-map fields (at_field c.row-item.result) in
    subst (λ (n : ℕ). AllByRecursion (λ (held : List Value). length held ≡ n) c.loop-row.made) (sym as_many)
    (subst (λ (made : List (List Value)). AllByRecursion (λ held. length held ≡ length fields) made) (sym c.loop-row.invariant) (cut-widths fields (take c.loop-row.row-index c.rows-row-items.result.now)))
