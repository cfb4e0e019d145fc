use Rattle.std.proofs.Common.{ap, sym, ◌∙◌, subst, length}
use Rattle.std.proofs.lemmas.Result.{IfOk-weaker}
use Rattle.pact_record.specs.Record.{joined_record}
use Rattle.tac_syntax.specs.Call.{Store}
use Rattle.tac_syntax.specs.CallInputs.{IsOfPair}
use Rattle.tac_interp.specs.Machine.{input_of}
use Rattle.tac_syntax.specs.Ready.{HasRecord}
use Rattle.tac_interp.proofs.InputRecords.{joined_width}
use Rattle.tac_interp.proofs.machines.Machine.copy_of.Goals as goal

pub returns-in-Join-clause-width : goal.returns-in-Join-clause-width
returns-in-Join-clause-width c =
    let input = input_of c.self.inside.input in
    let pair = subst IsOfPair (sym (ap (λ (s : Store). s.input) c.self.view_is)) (subst (HasRecord c.args.self.now) c.in-Join.is c.requires) in
    IfOk-weaker c.join.result _ _ (λ row e.
    ap length e ∙ (λ i. length (joined_record (c.left.ensures i) (c.right.ensures i))) ∙ joined_width c.self.inside.records.fields input pair c.self.invariant.0.input_width ∙ ap (λ (s : Store). s.fields) c.self.view_is)
    c.join.ensures
