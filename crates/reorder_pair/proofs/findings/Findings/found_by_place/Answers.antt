use Rattle.std.proofs.lemmas.Result.{IfOk-weaker}
use Rattle.reorder_pair.proofs.findings.Findings.found_by_place.Goals as goal

pub returns-clause-kept : goal.returns-clause-kept
returns-clause-kept c = IfOk-weaker c.found_under.result _ _ (λ s h. c.place_of-placed.ensures.place c.args.self.now c.found_under.new.self s h) c.found_under.ensures.kept
