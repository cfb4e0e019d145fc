use Rattle.std.proofs.Common.{inl, inr}
use Rattle.std.proofs.lemmas.Result.{IfOk-weaker}
use Rattle.text_marks.specs.declared.expected.Expected.TheVariants.{FileName, Name}
use Rattle.text_marks.proofs.Listing.{pushed_listed}
use Rattle.text_marks.proofs.expecting.add_words.Goals as goal

pub returns-then-branch-clause-tried : goal.returns-then-branch-clause-tried
returns-then-branch-clause-tried c = inl (pushed_listed FileName c.args.found.now c.push.new.self c.in_ok-push.ensures.ok)

pub returns-then-branch-2-clause-tried : goal.returns-then-branch-2-clause-tried
returns-then-branch-2-clause-tried c = inr (inl (pushed_listed Name c.args.found.now c.push-then-branch-2.new.self c.in_ok-push-2.ensures.ok))

pub returns-clause-tried : goal.returns-clause-tried
returns-clause-tried c = IfOk-weaker c.add_other.result _ _ (λ x h. inr (inr h)) c.add_other.ensures.tried
