use Rattle.std.proofs.Common.{◌≡◌, ◌∙◌, arith, rules, inl, refl, sym}
use Rattle.text_marks.proofs.FaultPlaces.{byte_mark}
use Rattle.text_marks.proofs.fault_marks.faulty_byte.Goals as goal

pub returns-then-branch : goal.returns-then-branch
returns-then-branch c =
    byte_mark c.args.text.now c.args.fault c.args.start c.args.end c.args.end c.in-Some.byte c.requires.inside c.requires.line c.in-Some.ensures.inside c.in-Some.ensures.one (λ four. let no : 1 ≡ 4 = sym c.requires.byte ∙ four in absurd (omega (arith, no))) (search rules)
    (c.args.start, c.args.end, c.requires.line, inl (c.requires.byte, refl))
