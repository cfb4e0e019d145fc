use Rattle.std.proofs.Common.{rules, arith, refl, [], ◌∷◌, ◌++◌}
use Rattle.text_marks.proofs.FaultPlaces.{next_and, none_and}
use Rattle.text_marks.proofs.fault_marks.faulty_word.Goals as goal

pub loop-word-init : goal.loop-word-init
loop-word-init c = (omega arith, c.requires.inside.0, [], refl, (λ _ _. tt))

pub loop-word-preserved : goal.loop-word-preserved
loop-word-preserved c = (
  omega (arith, c.loop-word.invariant.0, c.in-Some.ensures.some.1, c.in-Some.ensures.some.2),
  c.in-Some.ensures.some.3,
  c.loop-word.invariant.2 ++ c.in-Some.word ∷ [],
  next_and c.args.text.now c.args.fault.line c.args.end c.args.start c.loop-word.at c.loop-word.invariant.2 c.in-Some.word c.loop-word.invariant.3 c.in-Some.ensures.next,
  none_and c.args.text.now c.args.fault c.loop-word.invariant.2 c.in-Some.word c.loop-word.invariant.4 (search rules),
)
