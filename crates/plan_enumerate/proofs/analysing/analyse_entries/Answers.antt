use Rattle.std.proofs.Common.{◌≡◌, ◌+◌, ◌∷◌, [], List, Some, length, length-append, slice_get, ap, subst, sym, ◌∙◌}
use Rattle.ship_strategy.specs.declared.tables.Table.{Table}
use Rattle.plan_enumerate.specs.KnownPlans.{AreTablesOf}
use Rattle.plan_enumerate.specs.Listing.{plans_of}
use Rattle.plan_enumerate.proofs.AnalysedPlans.{one_more_known}
use Rattle.plan_enumerate.proofs.LongerLists.{IsAt-entry}
use Rattle.plan_enumerate.proofs.analysing.analyse_entries.Goals as goal

pub loop-entry-preserved : goal.loop-entry-preserved
loop-entry-preserved c =
    let p = c.args.program.now in
    let plans = plans_of c.args.entries.now in
    let tables = c.loop-entry.known in
    let table = c.fill.new.table in
    let entry = c.at.result in
    let long = c.loop-entry.invariant.0 in
    let more = c.in_ok-push.ensures in
    let at = subst (λ n. slice_get plans n ≡ Some entry.plan) (sym long) (IsAt-entry c.args.entries.now c.loop-entry.entry entry c.at.ensures) in (
      ap (λ (xs : List Table). length xs) more ∙ length-append tables (table ∷ []) ∙ ap (λ n. n + 1) long,
      subst (AreTablesOf p plans) (sym more) (one_more_known p plans tables entry.plan table c.loop-entry.invariant.1 at c.in_ok-fill.ensures.table),
      c.in_ok-fill.ensures.findings,
    )
