use Rattle.std.proofs.Common.{sym, ◌∙◌}
use Rattle.tac_flow.proofs.SameFacts.{one_state}
use Rattle.tac_flow.proofs.SameKept.{same_kept}
use Rattle.tac_flow.proofs.memos.begin.Goals as goal

pub returns-in-Some-clause-same : goal.returns-in-Some-clause-same
returns-in-Some-clause-same c = λ p.
    same_kept c.args.large c.args.memos.now c.args.n _ c.in-Some.memo c.join.new.self c.if-not-large.false c.requires.n (sym c.index-memos-n.is ∙ c.in-Some.is) (one_state c.join.new.self c.in-Some.memo (sym c.eq.ensures ∙ p))
