use Rattle.std.specs.List.{AllByRecursion}
use Rattle.text_marks.specs.Marks.{IsCure}
use Rattle.text_marks.proofs.curing.close_cures.Given as goal

abbrev pub invariant-loop-word : goal.invariant-loop-word
invariant-loop-word l = AllByRecursion (λ word. IsCure l.mark.from l.mark.to l.text word.now) l.words.items
