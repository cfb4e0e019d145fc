use Rattle.std.proofs.Common.{◌-◌, List, length, ap, ◌∙◌, subst, arith, Bor}
use Rattle.std.proofs.lemmas.List.{length-map}
use Rattle.pact_record.specs.declared.values.Value.{Value}
use Rattle.tac_syntax.specs.Call.{Store}
use Rattle.tac_syntax.specs.Ready.{HasRecord}
use Rattle.tac_interp.proofs.Loops.{length-loop}
use Rattle.tac_interp.proofs.machines.Machine.given.Goals as goal

pub returns-in-Loop-clause-width : goal.returns-in-Loop-clause-width
returns-in-Loop-clause-width c =
    let h = subst (HasRecord c.args.self.now) c.in-Loop.is c.requires.there in
    let same = ap (λ (s : Store). length s.loops) c.self.view_is in
    let n = length-map c.self.inside.loops.items (λ (r : Bor (List Value)). r.now) in
    length-loop c.self.inside.records.fields (c.in-Loop.name - 1) c.self.inside.loops.items c.index.result.now c.self.invariant.0.loop_widths (omega (arith, h, same, n)) c.index.ensures
    ∙ ap (λ (s : Store). s.fields) c.self.view_is
