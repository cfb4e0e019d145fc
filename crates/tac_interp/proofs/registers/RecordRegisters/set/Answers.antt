use Rattle.std.proofs.Common.{List, refl, ap, ◌∙◌, sym, subst, arith}
use Rattle.std.proofs.lemmas.List.{length-set}
use Rattle.pact_record.specs.declared.values.Value.{Value}
use Rattle.tac_interp.specs.Registers.{IsAsWide, RecordsData, lent_of, row_of, with_record}
use Rattle.tac_interp.proofs.HeldRecords.{AreAsWide-set, rows-set}
use Rattle.tac_interp.proofs.registers.RecordRegisters.set.Goals as goal

pub invariant_of-self : goal.invariant_of-self
invariant_of-self c = record {
  fields_fit = c.self.invariant.fields_fit;
  few = c.in_err-reach_record.ensures.few c.self.invariant.few;
  widths = c.in_err-reach_record.ensures.widths c.self.inside.source.fields (lent_of c.self.inside.source.lent) c.self.invariant.widths;
  blank = c.self.invariant.blank;
}

pub invariant_of-self-2 : goal.invariant_of-self-2
invariant_of-self-2 c =
    let s = c.self.inside in
    let lent = lent_of s.source.lent in
    let reached = c.reach_record.new.held.items in
    let wide = subst (λ (r : RecordsData). IsAsWide r.fields r.lent c.args.held) (sym c.self.view_is) c.requires.width in
    record {
      fields_fit = c.self.invariant.fields_fit;
      few = omega (arith, length-set reached c.args.at c.args.held, c.in_ok-reach_record.ensures.few c.self.invariant.few);
      widths = AreAsWide-set s.source.fields c.args.at lent c.args.held reached (c.in_ok-reach_record.ensures.widths s.source.fields lent c.self.invariant.widths) wide;
      blank = c.self.invariant.blank;
    }

pub returns-clause-set : goal.returns-clause-set
returns-clause-set c =
    let s = c.self.inside in
    let lent = lent_of s.source.lent in
    ap (λ (l : List (List Value)). record { fields = s.source.fields; lent = lent; records = l })
    (rows-set s.source.fields c.args.at lent c.args.held (row_of s.source.fields lent c.args.held) s.held.items c.reach_record.new.held.items c.requires.place c.in_ok-reach_record.ensures.reached refl)
    ∙ ap (λ (r : RecordsData). with_record r c.args.at (row_of r.fields r.lent c.args.held)) c.self.view_is
