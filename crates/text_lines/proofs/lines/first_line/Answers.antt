use Rattle.std.proofs.Common.{rules, ap, ◌∙◌, ◌∷◌, List, ℕ, sym, subst, false, ◌≡◌, arith}
use Rattle.std.proofs.lemmas.List.{drop_all, take_all}
use Rattle.text_lines.specs.TextLines.{lines_of}
use Rattle.text_lines.proofs.TextLines.{has_feed, first_at_feed, lines_of-last}
use Rattle.text_lines.proofs.lines.first_line.Goals as goal

pub returns-then-text-at-eq10-clause-lines : goal.returns-then-text-at-eq10-clause-lines
returns-then-text-at-eq10-clause-lines c =
    rw (c.split_at.ensures.front, c.split_at-then-text-at-eq10.ensures.back)
    (first_at_feed c.args.text.now c.loop-at.at c.loop-at-test.true (search rules) c.loop-at.invariant)

pub returns-clause-lines : goal.returns-clause-lines
returns-clause-lines c =
    let text = c.args.text.now in
    let none = subst (λ (x : List ℕ). has_feed x ≡ false) (take_all c.loop-at.at text c.loop-at-test.false) c.loop-at.invariant in
    rw c.split_at-2.ensures.back (lines_of-last text c.requires none ∙ ap (λ (x : List ℕ). text ∷ lines_of x) (sym (drop_all _ text (omega arith))))
