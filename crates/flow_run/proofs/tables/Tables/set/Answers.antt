use Rattle.std.proofs.Common.{[], ◌<◌, length, subst, sym, ◌∙◌}
use Rattle.std.proofs.lemmas.List.{get_or_default}
use Rattle.flow_run.specs.Tables.{HasPlace, IsShaped}
use Rattle.flow_run.proofs.BlankTables.{still_shaped}
use Rattle.flow_run.proofs.tables.Tables.set.Goals as goal

pub returns-clause-places : goal.returns-clause-places
returns-clause-places g c = λ m n o shaped.
    let items = c.self.inside.all.items in
    let less : c.args.a < length items = subst (λ l. c.args.a < length l) (sym c.self.view_is) c.requires.table in
    let is = c.index_mut.ensures.value ∙ get_or_default items c.args.a c.index_mut.result.now [] less in
    still_shaped m n o items c.args.a c.set.new.self less (λ j k p. c.set.ensures.places j k (subst (λ t. HasPlace t j k) (sym is) p))
    (subst (IsShaped m n o) (sym c.self.view_is) shaped)
