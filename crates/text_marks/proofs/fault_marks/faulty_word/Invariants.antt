use Rattle.std.proofs.Common.{◌≤◌, ◌-◌, List}
use Rattle.text_marks.specs.LineParts.{AreNextWords}
use Rattle.text_marks.specs.Marks.{HaveNoFault}
use Rattle.text_marks.specs.declared.marks.Mark.{Mark}
use Rattle.text_marks.proofs.fault_marks.faulty_word.Given as goal

abbrev pub invariant-loop-word : goal.invariant-loop-word
invariant-loop-word l =
    (l.start ≤ l.at) × (l.at ≤ l.end) × (before : List Mark) × AreNextWords l.text l.fault.line l.end l.start before l.at × HaveNoFault l.text l.fault before

abbrev pub decreases-loop-word : goal.decreases-loop-word
decreases-loop-word l = l.end - l.at
