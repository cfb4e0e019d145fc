use Rattle.std.proofs.Common.{List, [], get_or, ap, sym, ◌∙◌, subst, arith}
use Rattle.pact_record.specs.declared.values.Value.{Value}
use Rattle.pact_record.specs.Record.{at_field}
use Rattle.pact_record.proofs.JoinedRecords.{at_field-nulls}
use Rattle.tac_interp.specs.Registers.{IsAsWide, RecordsData, lent_of, row_of}
use Rattle.tac_interp.proofs.HeldRecords.{IsAsWide-held, row-held, row-unset}
use Rattle.tac_interp.proofs.registers.RecordRegisters.field.Goals as goal

pub returns-then-at-len : goal.returns-then-at-len
returns-then-at-len c =
    let s = c.self.inside in
    let lent = lent_of s.source.lent in
    c.self.invariant.blank ∙ sym (at_field-nulls s.source.fields c.args.field)
    ∙ ap (λ (row : List Value). at_field row c.args.field) (row-unset s.source.fields c.args.at lent s.held.items c.requires.place (omega (arith, c.if-at-len.true, c.len.ensures, s.held.ok.0)))
    ∙ ap (λ (r : RecordsData). at_field (get_or r.records c.args.at []) c.args.field) c.self.view_is

pub returns-in-Blank : goal.returns-in-Blank
returns-in-Blank c =
    let s = c.self.inside in
    let lent = lent_of s.source.lent in
    c.self.invariant.blank ∙ sym (at_field-nulls s.source.fields c.args.field)
    ∙ ap (λ (row : List Value). at_field row c.args.field)
    (ap (row_of s.source.fields lent) (sym c.in-Blank.is) ∙ row-held s.source.fields c.args.at lent c.index.result.now s.held.items c.requires.place (omega (arith, c.if-at-len.false, c.len.ensures, s.held.ok.0)) c.index.ensures)
    ∙ ap (λ (r : RecordsData). at_field (get_or r.records c.args.at []) c.args.field) c.self.view_is

pub returns-in-Own : goal.returns-in-Own
returns-in-Own c =
    let s = c.self.inside in
    let lent = lent_of s.source.lent in
    c.get.ensures
    ∙ ap (λ (row : List Value). at_field row c.args.field)
    (ap (row_of s.source.fields lent) (sym c.in-Own.is) ∙ row-held s.source.fields c.args.at lent c.index.result.now s.held.items c.requires.place (omega (arith, c.if-at-len.false, c.len.ensures, s.held.ok.0)) c.index.ensures)
    ∙ ap (λ (r : RecordsData). at_field (get_or r.records c.args.at []) c.args.field) c.self.view_is

pub lent_record-requires : goal.lent_record-requires
lent_record-requires c =
    let s = c.self.inside in
    let lent = lent_of s.source.lent in
    subst (IsAsWide s.source.fields lent) c.in-Lent.is
    (IsAsWide-held s.source.fields c.args.at lent c.index.result.now s.held.items (omega (arith, c.if-at-len.false, c.len.ensures, s.held.ok.0)) c.index.ensures c.self.invariant.widths)

pub returns-in-Lent : goal.returns-in-Lent
returns-in-Lent c =
    let s = c.self.inside in
    let lent = lent_of s.source.lent in
    c.get-in-Lent.ensures
    ∙ ap (λ (row : List Value). at_field row c.args.field)
    (c.lent_record.ensures ∙ ap (row_of s.source.fields lent) (sym c.in-Lent.is) ∙ row-held s.source.fields c.args.at lent c.index.result.now s.held.items c.requires.place (omega (arith, c.if-at-len.false, c.len.ensures, s.held.ok.0)) c.index.ensures)
    ∙ ap (λ (r : RecordsData). at_field (get_or r.records c.args.at []) c.args.field) c.self.view_is
