use Rattle.std.proofs.Common.{sym, ◌∙◌}
use Rattle.flow_instance.specs.Keeping.{may_match}
use Rattle.flow_instance.proofs.KeptRecords.{row_added, row_passed}
use Rattle.flow_instance.proofs.OnOkTogether.{on_ok_three}
use Rattle.flow_instance.proofs.keeping.keep_row.Goals as goal

pub returns-then-not-may_match : goal.returns-then-not-may_match
returns-then-not-may_match g c =
    row_passed g.L.Local.rows g.L.Local.key_fields g.L.Local.is_sealed (may_match c.args.nulls c.args.keys.now) c.args.row c.args.kept.now (sym c.may_match.ensures ∙ c.if-not-may_match.true) c.requires.not_sealed

pub returns : goal.returns
returns g c =
    on_ok_three c.add.result
    (λ rows keys not_sealed. row_added g.L.Local.rows g.L.Local.key_fields g.L.Local.is_sealed (may_match c.args.nulls c.args.keys.now) c.args.row c.args.kept.now c.add.new.self (sym c.may_match.ensures ∙ c.if-not-may_match.false) rows keys not_sealed)
    c.add.ensures.rows c.add.ensures.keys c.add.ensures.not_sealed
