use Rattle.std.proofs.Common.{List, ◌∷◌, [], ◌++◌, ap, subst, ◌∙◌}
use Rattle.plan_enumerate.specs.declared.entries.Entry.{Entry}
use Rattle.plan_enumerate.specs.EntryTable.{entries_of}
use Rattle.plan_enumerate.specs.Listing.{IsListed}
use Rattle.plan_enumerate.proofs.TableOfPlans.{entries_of-insert_entry}
use Rattle.plan_enumerate.proofs.entries.Entries.push.Goals as goal

pub returns : goal.returns
returns c =
    let e = c.args.entry in
    ap entries_of c.in_ok-insert.ensures.entries
    ∙ entries_of-insert_entry c.self.inside.origins.entries e.plan (record { from = e.from; by = e.by }) (λ h. c.requires (subst (IsListed e.plan) c.self.view_is h))
    ∙ ap (λ (es : List Entry). es ++ e ∷ []) c.self.view_is
