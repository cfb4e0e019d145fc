use Rattle.std.proofs.Common.{◌≡◌, List, [], get_or, length, ap, ◌∙◌, subst, arith}
use Rattle.std.proofs.lemmas.Result.{IfOk-weaker}
use Rattle.pact_record.specs.declared.values.Value.{Value}
use Rattle.tac_interp.specs.Registers.{IsTaken, RecordsData, lent_of, row_of}
use Rattle.tac_interp.proofs.HeldRecords.{length-empty, row-held, row-unset, rows_of}
use Rattle.tac_interp.proofs.registers.RecordRegisters.take.Goals as goal

pub returns-then-at-len-clause-record : goal.returns-then-at-len-clause-record
returns-then-at-len-clause-record c =
    let s = c.self.inside in
    let unset = row-unset s.source.fields c.args.at (lent_of s.source.lent) s.held.items c.requires (omega (arith, c.if-at-len.true, c.len.ensures, s.held.ok.0)) in (
      c.in_ok-empty.ensures ∙ unset ∙ ap (λ (r : RecordsData). get_or r.records c.args.at []) c.self.view_is,
      ap length c.in_ok-empty.ensures ∙ length-empty s.source.fields ∙ ap (λ (r : RecordsData). r.fields) c.self.view_is,
    )

pub returns-clause-record : goal.returns-clause-record
returns-clause-record c =
    let s = c.self.inside in
    let fields = s.source.fields in
    let lent = lent_of s.source.lent in
    let held = row-held fields c.args.at lent c.index_mut.result.now s.held.items c.requires (omega (arith, c.if-at-len.false, c.len.ensures, s.held.ok.0)) c.index_mut.ensures.value in
    let same : row_of fields lent c.replace-held.result ≡ get_or (rows_of fields lent s.held.items) c.args.at [] = ap (row_of fields lent) c.replace-held.ensures.value ∙ held in
    IfOk-weaker c.row_from.result _ _ (λ taken h.
    subst (λ (r : RecordsData). IsTaken r.fields r.lent (get_or r.records c.args.at []) taken) c.self.view_is
    (subst (λ (row : List Value). IsTaken fields lent row taken) same h))
    c.row_from.ensures
