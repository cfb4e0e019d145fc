use Rattle.std.proofs.lemmas.Result.{IfOk-weaker}
use Rattle.plan_enumerate.proofs.PastExchanges.{IfNone-here, IsAt-added, IsRuleAt-get_or, past_illegal, past_legal}
use Rattle.plan_enumerate.proofs.ReachedPlans.{few_entries}
use Rattle.plan_enumerate.proofs.enumerating.add_neighbour.Goals as goal

pub add-requires : goal.add-requires
add-requires c = record { room = few_entries c.args.program.now c.args.limit c.args.entries.now c.requires.some c.requires.walked.grows }

pub returns-in_default-clause-walked : goal.returns-in_default-clause-walked
returns-in_default-clause-walked c =
    let a = c.args in
    let none = IfNone-here c.in_ok-by.field-0 _ c.in_default.is c.in_ok-by.ensures.none in
    past_illegal a.program.now a.limit a.entries.now a.from a.at a.n _ a.plan.now c.requires.entry (IsRuleAt-get_or c.all.result.now a.n _ c.all.ensures c.requires.rule) none c.requires.walked

pub returns-clause-walked : goal.returns-clause-walked
returns-clause-walked c =
    let a = c.args in
    let p = a.program.now in
    let rule = IsRuleAt-get_or c.all.result.now a.n _ c.all.ensures c.requires.rule in
    IfOk-weaker c.add.result _ _ (λ added adds. past_legal p a.limit a.entries.now c.add.new.self a.from a.at a.n _ a.plan.now c.neighbour.result added c.requires.entry rule c.neighbour.ensures adds c.requires.walked) c.add.ensures

pub returns-clause-entry : goal.returns-clause-entry
returns-clause-entry c =
    let a = c.args in
    IfOk-weaker c.add.result _ _ (λ added adds. IsAt-added a.limit a.entries.now c.add.new.self a.from a.plan.now c.neighbour.result added adds c.requires.entry) c.add.ensures
