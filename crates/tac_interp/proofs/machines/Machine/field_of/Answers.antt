use Rattle.std.proofs.Common.{ap, sym, ◌∙◌, subst}
use Rattle.pact_record.specs.Record.{at_field}
use Rattle.tac_syntax.specs.Call.{Store, named_record}
use Rattle.tac_syntax.specs.CallInputs.{IsOfPair}
use Rattle.tac_interp.specs.Machine.{input_of}
use Rattle.tac_syntax.specs.Ready.{HasRecord}
use Rattle.tac_interp.proofs.InputRecords.{joined_field}
use Rattle.tac_interp.proofs.machines.Machine.field_of.Goals as goal

pub returns-in-Join : goal.returns-in-Join
returns-in-Join c =
    let input = input_of c.self.inside.input in
    let join = c.in-Join.is in
    let pair = subst IsOfPair (sym (ap (λ (s : Store). s.input) c.self.view_is)) (subst (HasRecord c.args.self.now) join c.requires.there) in
    joined_field c.self.inside.records.fields c.args.field input c.get-left.result.now c.get.result.now c.or.result.now c.left.result.now c.right.result.now pair c.self.invariant.0.input_width
    c.left.ensures c.right.ensures c.get-left.ensures c.get.ensures c.or.ensures
    ∙ (λ i. at_field (named_record (c.self.view_is i) (sym join i)) c.args.field)
