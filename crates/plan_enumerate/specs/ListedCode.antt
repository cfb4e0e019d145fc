-- How a list of plans is stored in the logic.
use Rattle.std.specs.Prelude.{Bool, List, refl}
use Rattle.std.specs.Coded.{Coded, code_by, coded×, coded_bool, coded_list}
use Rattle.plan_enumerate.specs.contracts.entries.Entry.{the_row as entry_row}
use Rattle.plan_enumerate.specs.declared.entries.Entry.{Entry}
use Rattle.plan_enumerate.specs.Listing.{ListedPlans}

abbrev pub coded_listed : Coded ListedPlans
coded_listed =
    code_by (List Entry × Bool) (coded× (coded_list entry_row.coded) coded_bool)
    (λ l. (l.entries, l.complete)) (λ p. record { entries = p.0; complete = p.1 }) (λ _. refl)
