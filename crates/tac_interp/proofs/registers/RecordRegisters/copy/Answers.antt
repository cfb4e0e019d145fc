use Rattle.std.proofs.Common.{[], get_or, ap, ◌∙◌, arith}
use Rattle.std.proofs.lemmas.Result.{IfOk-weaker}
use Rattle.tac_interp.specs.Registers.{RecordsData, lent_of}
use Rattle.tac_interp.proofs.HeldRecords.{IsAsWide-held, row-held, row-unset}
use Rattle.tac_interp.proofs.registers.RecordRegisters.copy.Goals as goal

pub returns-then-at-len-clause-record : goal.returns-then-at-len-clause-record
returns-then-at-len-clause-record c =
    let s = c.self.inside in
    let unset = row-unset s.source.fields c.args.at (lent_of s.source.lent) s.held.items c.requires (omega (arith, c.if-at-len.true, c.len.ensures, s.held.ok.0)) in
    IfOk-weaker c.empty.result _ _ (λ row e. e ∙ unset ∙ ap (λ (r : RecordsData). get_or r.records c.args.at []) c.self.view_is) c.empty.ensures

pub copy_of-requires-clause-width : goal.copy_of-requires-clause-width
copy_of-requires-clause-width c =
    let s = c.self.inside in
    IsAsWide-held s.source.fields c.args.at (lent_of s.source.lent) c.index.result.now s.held.items (omega (arith, c.if-at-len.false, c.len.ensures, s.held.ok.0)) c.index.ensures c.self.invariant.widths

pub returns-clause-record : goal.returns-clause-record
returns-clause-record c =
    let s = c.self.inside in
    let held = row-held s.source.fields c.args.at (lent_of s.source.lent) c.index.result.now s.held.items c.requires (omega (arith, c.if-at-len.false, c.len.ensures, s.held.ok.0)) c.index.ensures in
    IfOk-weaker c.copy_of.result _ _ (λ row e. e ∙ held ∙ ap (λ (r : RecordsData). get_or r.records c.args.at []) c.self.view_is) c.copy_of.ensures.record
