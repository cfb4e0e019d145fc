use Rattle.std.proofs.Common.{◌+◌, List, ℤ, of_z, to_z, to_z-of_z, w64, slice_set, ap, ◌∙◌, arith}
use Rattle.pact_record.specs.declared.values.Value.{Value}
use Rattle.pact_record.specs.declared.values.Value.TheVariants.{Int, Null}
use Rattle.tac_syntax.specs.Limits.{value_registers}
use Rattle.tac_interp.specs.Registers.{filled}
use Rattle.tac_interp.proofs.FilledRegisters.{set-filled}
use Rattle.tac_interp.proofs.registers.ValueRegisters.set_number.Goals as goal

pub returns : goal.returns
returns c =
    let value = Int (to_z w64 (of_z w64 c.args.number)) in
    ap (λ (l : List Value). filled value_registers Null (slice_set l c.args.at value)) c.in_ok-reach_value.ensures.reached
    ∙ set-filled value_registers (c.args.at + 1) c.args.at Null value c.self.inside.held.items (omega arith) c.requires
    ∙ ap (λ (l : List Value). slice_set l c.args.at value) c.self.view_is
    ∙ ap (λ (z : ℤ). slice_set c.args.self.now c.args.at (Int z)) (to_z-of_z c.ranges.number)
