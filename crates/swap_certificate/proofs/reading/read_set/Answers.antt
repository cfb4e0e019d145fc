use Rattle.std.proofs.Common.{map, sym, subst}
use Rattle.serde_json.specs.View.{view}
use Rattle.serde_json.specs.declared.value.Value.{Value}
use Rattle.std.specs.Prelude.{List}
use Rattle.swap_certificate.specs.RisingData.{RisesFrom}
use Rattle.swap_certificate.proofs.ReadBack.{if_none-weaker, set-rises}
use Rattle.swap_certificate.proofs.reading.read_set.Goals as goal

pub returns-clause-none : goal.returns-clause-none
returns-clause-none c =
    if_none-weaker c.rising_set.result
    (λ h set small e. h (subst (λ (items : List Value). RisesFrom c.args.limit 0 (map view items)) (sym c.deref.ensures.value)
    (set-rises c.args.limit (view c.args.value.now) (map view c.in_ok-as_array.field-0.now.items) set c.requires.limit.1 small (sym c.in_ok-as_array.ensures) e)))
    c.rising_set.ensures.none
