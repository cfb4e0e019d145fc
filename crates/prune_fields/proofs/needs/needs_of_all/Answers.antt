use Rattle.std.proofs.Common.{ℕ, ◌∙◌, ap}
use Rattle.pact_record.specs.FieldSets.{has_field}
use Rattle.pact_record.specs.Keys.{is_listed}
use Rattle.tac_syntax.specs.Contexts.{FieldSet}
use Rattle.prune_fields.specs.Needs.{needs_from}
use Rattle.prune_fields.specs.NeedTables.{needs_in}
use Rattle.prune_fields.proofs.EnteredNeeds.{entered_at}
use Rattle.prune_fields.proofs.needs.needs_of_all.Goals as goal

pub returns : goal.returns
returns c n there =
    let p = c.args.program.now in
    let t = c.args.plan.now in
    ap (λ (needs : ℕ → FieldSet). needs n) c.enter.ensures
    ∙ entered_at p (has_field c.listed.result) t (needs_in c.blank-table.result) n there
    ∙ ap (λ (set : FieldSet). needs_from p set t n) (c.listed.ensures ∙ ap is_listed c.sink.ensures.sink)
