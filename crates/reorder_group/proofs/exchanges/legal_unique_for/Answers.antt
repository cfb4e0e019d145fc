use Rattle.std.proofs.Common.{refl}
use Rattle.reorder_pair.proofs.JudgedExchanges.{shared-IsRefusal}
use Rattle.reorder_pair.proofs.OneFinding.{legal_or_refused}
use Rattle.reorder_group.proofs.JudgedMatches.{judged_legal, judged_refused}
use Rattle.reorder_group.proofs.LegalExchanges.{unique-KeepAnswers}
use Rattle.reorder_group.proofs.exchanges.legal_unique_for.Goals as goal

pub returns-in-Err-clause-refused : goal.returns-in-Err-clause-refused
returns-in-Err-clause-refused c =
    let a = c.args in
    shared-IsRefusal a.program.now a.plan.now a.at a.rule a.upper.now a.lower.now c.in-Err.why c.requires.found c.in-Err.ensures.fails

pub returns-in-Err-clause-legal_always : goal.returns-in-Err-clause-legal_always
returns-in-Err-clause-legal_always c legal = absurd (legal_or_refused c.args.program.now c.args.plan.now c.args.at c.args.rule c.in-Err.why legal (returns-in-Err-clause-refused c))

pub returns-in-Ok-clause-legal : goal.returns-in-Ok-clause-legal
returns-in-Ok-clause-legal c =
    let a = c.args in
    record {
      same_rule = refl;
      place = refl;
      legal = judged_legal a.program.now a.plan.now a.at a.rule c.subtree-before.result c.exchanged_tree-after.result c.subtree-before.ensures c.exchanged_tree-after.ensures a.upper.now a.lower.now c.requires.found
          c.in_default.ensures.passes c.in-Ok.ensures.passes;
    }

pub returns-in-Ok-clause-answers : goal.returns-in-Ok-clause-answers
returns-in-Ok-clause-answers c =
    let a = c.args in
    unique-KeepAnswers a.program.now c.fields-fields.ensures.keeps a.plan.now c.requires.plan a.at a.rule c.requires.rule (a.upper.now, a.lower.now, (returns-in-Ok-clause-legal c).legal)

pub returns-in-Err-past_match-clause-refused : goal.returns-in-Err-past_match-clause-refused
returns-in-Err-past_match-clause-refused c =
    let a = c.args in
    judged_refused a.program.now a.plan.now a.at a.rule c.subtree-before.result c.exchanged_tree-after.result c.subtree-before.ensures c.exchanged_tree-after.ensures a.upper.now a.lower.now c.requires.found
    c.in_default.ensures.passes c.in-Err-past_match.why c.in-Err-past_match.ensures.fails

pub returns-in-Err-past_match-clause-legal_always : goal.returns-in-Err-past_match-clause-legal_always
returns-in-Err-past_match-clause-legal_always c legal =
    absurd (legal_or_refused c.args.program.now c.args.plan.now c.args.at c.args.rule c.in-Err-past_match.why legal (returns-in-Err-past_match-clause-refused c))
