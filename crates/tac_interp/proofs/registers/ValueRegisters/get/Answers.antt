use Rattle.std.proofs.Common.{List, get_or, ap, sym, ◌∙◌, arith}
use Rattle.pact_record.specs.declared.values.Value.{Value}
use Rattle.pact_record.specs.declared.values.Value.TheVariants.{Null}
use Rattle.tac_syntax.specs.Limits.{value_registers}
use Rattle.tac_interp.proofs.FilledRegisters.{get_or-unset, get_or-held}
use Rattle.tac_interp.proofs.registers.ValueRegisters.get.Goals as goal

pub returns-then-at-len : goal.returns-then-at-len
returns-then-at-len c =
    c.self.invariant.1 ∙ sym (get_or-unset value_registers c.args.at Null Null c.self.inside.held.items c.requires (omega (arith, c.if-at-len.true, c.len.ensures, c.self.inside.held.ok.0)))
    ∙ ap (λ (l : List Value). get_or l c.args.at Null) c.self.view_is

pub returns : goal.returns
returns c =
    get_or-held value_registers c.args.at Null Null c.index.result.now c.self.inside.held.items c.requires (omega (arith, c.if-at-len.false, c.len.ensures, c.self.inside.held.ok.0)) c.index.ensures
    ∙ ap (λ (l : List Value). get_or l c.args.at Null) c.self.view_is
