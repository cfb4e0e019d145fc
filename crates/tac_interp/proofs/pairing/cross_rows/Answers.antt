use Rattle.std.proofs.Common.{◌∙◌, true}
use Rattle.std.proofs.lemmas.Result.{IfOk-weaker}
use Rattle.pact_bag.specs.Pairs.{crossed, matched}
use Rattle.tac_syntax.specs.Call.{Out, of_pair}
use Rattle.tac_interp.proofs.pairing.cross_rows.Goals as goal

pub returns-clause-given : goal.returns-clause-given
returns-clause-given c =
    IfOk-weaker c.match_rows.result _ _ (λ out e.
    e ∙ (λ i. crossed (matched true (λ l r. Out c.args.f.now.fields c.args.f.now.function.body (of_pair l r)) (c.new.ensures i) (c.new-2.ensures i)) c.args.lefts.now c.args.rights.now))
    c.match_rows.ensures.given
