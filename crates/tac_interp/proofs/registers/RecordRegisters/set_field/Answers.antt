use Rattle.std.proofs.Common.{◌≡◌, List, [], get_or, slice_set, ap, ◌∙◌, arith}
use Rattle.std.proofs.lemmas.List.{length-set}
use Rattle.std.proofs.lemmas.Result.{IfOk-weaker}
use Rattle.pact_record.specs.declared.values.Value.{Value}
use Rattle.tac_interp.specs.Registers.{RecordsData, lent_of, row_of, with_record}
use Rattle.tac_interp.proofs.HeldRecords.{AreAsWide-set, IsAsWide-held, row-reached, rows_of, rows-set}
use Rattle.tac_interp.proofs.registers.RecordRegisters.set_field.Goals as goal

pub invariant_of-self : goal.invariant_of-self
invariant_of-self c = record {
  fields_fit = c.self.invariant.fields_fit;
  few = c.in_err-reach_record.ensures.few c.self.invariant.few;
  widths = c.in_err-reach_record.ensures.widths c.self.inside.source.fields (lent_of c.self.inside.source.lent) c.self.invariant.widths;
  blank = c.self.invariant.blank;
}

pub set_in-requires-clause-width : goal.set_in-requires-clause-width
set_in-requires-clause-width c =
    let s = c.self.inside in
    let lent = lent_of s.source.lent in
    let reached = c.reach_record.new.held in
    IsAsWide-held s.source.fields c.args.at lent c.index_mut.result.now reached.items (omega (arith, c.in_ok-reach_record.ensures.there, reached.ok.0)) c.index_mut.ensures.value
    (c.in_ok-reach_record.ensures.widths s.source.fields lent c.self.invariant.widths)

pub invariant_of-self-2 : goal.invariant_of-self-2
invariant_of-self-2 c =
    let s = c.self.inside in
    let lent = lent_of s.source.lent in
    let reached = c.reach_record.new.held.items in
    record {
      fields_fit = c.self.invariant.fields_fit;
      few = omega (arith, length-set reached c.args.at c.set_in.new.held, c.in_ok-reach_record.ensures.few c.self.invariant.few);
      widths = AreAsWide-set s.source.fields c.args.at lent c.set_in.new.held reached (c.in_ok-reach_record.ensures.widths s.source.fields lent c.self.invariant.widths) c.set_in.ensures.width;
      blank = c.self.invariant.blank;
    }

pub returns-clause-set : goal.returns-clause-set
returns-clause-set c =
    let s = c.self.inside in
    let fields = s.source.fields in
    let lent = lent_of s.source.lent in
    let at = c.args.at in
    let reached = c.reach_record.new.held.items in
    let before : row_of fields lent c.index_mut.result.now ≡ get_or (rows_of fields lent s.held.items) at [] =
    row-reached fields at lent c.index_mut.result.now s.held.items reached c.requires.place c.in_ok-reach_record.ensures.reached c.index_mut.ensures.value in
    IfOk-weaker c.set_in.result _ _ (λ u e.
    ap (λ (l : List (List Value)). record { fields = fields; lent = lent; records = l })
    (rows-set fields at lent c.set_in.new.held (slice_set (get_or (rows_of fields lent s.held.items) at []) c.args.field c.args.value) s.held.items reached c.requires.place c.in_ok-reach_record.ensures.reached
    (e ∙ ap (λ (r : List Value). slice_set r c.args.field c.args.value) before))
    ∙ ap (λ (r : RecordsData). with_record r at (slice_set (get_or r.records at []) c.args.field c.args.value)) c.self.view_is)
    c.set_in.ensures.set
