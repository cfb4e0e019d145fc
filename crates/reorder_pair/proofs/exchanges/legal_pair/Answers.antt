use Rattle.std.proofs.Common.{inl, refl}
use Rattle.reorder_pair.proofs.JudgedExchanges.{pair-IsLegalFor, shared-IsRefusal}
use Rattle.reorder_pair.proofs.LegalExchanges.{legal-KeepAnswers}
use Rattle.reorder_pair.proofs.OneFinding.{legal_or_refused}
use Rattle.reorder_pair.proofs.exchanges.legal_pair.Goals as goal

pub returns-in_default-clause-refused : goal.returns-in_default-clause-refused
returns-in_default-clause-refused c = inl (c.in_default.ensures.none, refl)

pub returns-in-Ok-clause-answers : goal.returns-in-Ok-clause-answers
returns-in-Ok-clause-answers c =
    let a = c.args in
    let both = c.in-Some in
    let legal = pair-IsLegalFor a.program.now a.plan.now a.at a.rule both.upper both.lower c.requires.pair both.ensures.found c.in-Ok.ensures.passes in
    legal-KeepAnswers a.program.now c.fields-fields.ensures.keeps a.plan.now c.requires.plan a.at a.rule c.requires.pair (both.upper, both.lower, legal)

pub returns-in-Err-clause-refused : goal.returns-in-Err-clause-refused
returns-in-Err-clause-refused c =
    let a = c.args in
    let both = c.in-Some in
    shared-IsRefusal a.program.now a.plan.now a.at a.rule both.upper both.lower c.in-Err.why both.ensures.found c.in-Err.ensures.fails

pub returns-in-Err-clause-legal_always : goal.returns-in-Err-clause-legal_always
returns-in-Err-clause-legal_always c legal = absurd (legal_or_refused c.args.program.now c.args.plan.now c.args.at c.args.rule c.in-Err.why legal (returns-in-Err-clause-refused c))
