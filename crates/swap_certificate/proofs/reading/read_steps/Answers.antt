use Rattle.std.proofs.Common.{map, ap, sym, ◌∙◌}
use Rattle.serde_json.specs.View.{view}
use Rattle.swap_certificate.specs.Shape.{step_data}
use Rattle.swap_certificate.proofs.ReadBack.{same_items}
use Rattle.swap_certificate.proofs.reading.read_steps.Goals as goal

pub returns-clause-none : goal.returns-clause-none
returns-clause-none c fails steps all e =
    let same = same_items (view c.args.value.now) (map view c.in-Some.items.now.items) (map step_data steps) (sym c.in-Some.ensures) e in
    c.steps_of.ensures.none fails steps all (ap (map view) c.deref.ensures.value ∙ same)
