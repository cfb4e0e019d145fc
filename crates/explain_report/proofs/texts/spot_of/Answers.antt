use Rattle.explain_report.proofs.texts.spot_of.Goals as goal

pub returns : goal.returns
returns c = record { mark = c.in_ok-mark.ensures.marked; expected = c.in_ok-expected.ensures.right; whole = c.in_ok-expected.ensures.whole }
