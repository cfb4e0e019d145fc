use Rattle.std.proofs.Common.{◌+◌, List, slice_set, ap, ◌∙◌, arith}
use Rattle.pact_record.specs.declared.values.Value.{Value}
use Rattle.pact_record.specs.declared.values.Value.TheVariants.{Null}
use Rattle.tac_syntax.specs.Limits.{value_registers}
use Rattle.tac_interp.specs.Registers.{filled}
use Rattle.tac_interp.proofs.FilledRegisters.{set-filled}
use Rattle.tac_interp.proofs.registers.ValueRegisters.set_other.Goals as goal

pub returns : goal.returns
returns c =
    ap (λ (l : List Value). filled value_registers Null (slice_set l c.args.at c.args.value)) c.in_ok-reach_value.ensures.reached
    ∙ set-filled value_registers (c.args.at + 1) c.args.at Null c.args.value c.self.inside.held.items (omega arith) c.requires
    ∙ ap (λ (l : List Value). slice_set l c.args.at c.args.value) c.self.view_is
