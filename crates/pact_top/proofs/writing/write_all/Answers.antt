use Rattle.std.proofs.Common.{◌-◌, arith, length-take, length-drop}
use Rattle.pact_top.proofs.WrittenParts.{gains_more}
use Rattle.pact_top.proofs.writing.write_all.Goals as goal

pub loop-at-preserved : goal.loop-at-preserved
loop-at-preserved g c =
    let takes = c.in_ok-at.ensures.takes in
    let fits = simp (length-take, length-drop) at takes.fits in
    record {
      within = omega (arith, fits, c.loop-at.invariant.within, c.min-end.ensures);
      gained = gains_more _ _ _ c.args.bytes.now c.loop-at.at (c.min-end.result - c.loop-at.at) c.in_ok-at.field-0 c.loop-at.invariant.gained (omega (arith, fits)) takes;
      later = omega (arith, c.write.ensures.cause.later, c.loop-at.invariant.later);
    }
