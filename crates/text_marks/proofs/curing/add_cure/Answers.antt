use Rattle.std.proofs.Common.{ℕ, List, Bor}
use Rattle.text_marks.specs.Marks.{IsCure}
use Rattle.text_marks.proofs.Trying.{and_one}
use Rattle.text_marks.proofs.curing.add_cure.Goals as goal

pub returns-in_ok-push : goal.returns-in_ok-push
returns-in_ok-push c =
    rw c.in_ok-push.ensures.items (and_one (λ (word : Bor (List ℕ)). IsCure c.args.mark.now.from c.args.mark.now.to c.args.text.now word.now) c.args.words.now.items c.args.word c.requires.words (c.in_ok-is_cure.ensures c.if-branch.true))
