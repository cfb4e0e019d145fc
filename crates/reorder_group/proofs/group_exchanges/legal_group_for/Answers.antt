use Rattle.std.proofs.Common.{refl}
use Rattle.reorder_pair.proofs.JudgedExchanges.{shared-IsRefusal}
use Rattle.reorder_pair.proofs.OneFinding.{legal_or_refused}
use Rattle.reorder_group.proofs.JudgedGroups.{judged_legal, judged_refused}
use Rattle.reorder_group.proofs.LegalPastGroups.{legal-KeepAnswers}
use Rattle.reorder_group.proofs.group_exchanges.legal_group_for.Goals as goal

pub returns-in-Err-clause-refused : goal.returns-in-Err-clause-refused
returns-in-Err-clause-refused c =
    let a = c.args in
    shared-IsRefusal a.program.now a.plan.now a.at a.rule a.upper.now a.lower.now c.in-Err.why c.requires.found c.in-Err.ensures.fails

pub returns-in-Err-clause-legal_always : goal.returns-in-Err-clause-legal_always
returns-in-Err-clause-legal_always c legal = absurd (legal_or_refused c.args.program.now c.args.plan.now c.args.at c.args.rule c.in-Err.why legal (returns-in-Err-clause-refused c))

pub returns-in-Ok-clause-legal : goal.returns-in-Ok-clause-legal
returns-in-Ok-clause-legal c =
    let a = c.args in
    record {
      same_rule = refl;
      place = refl;
      legal = judged_legal a.program.now a.plan.now a.at a.rule c.requires.rule c.root-below.result c.exchanged_tree.result c.root-below.ensures.root c.exchanged_tree.ensures a.upper.now a.lower.now c.requires.found
          c.in_default.ensures.passes c.in-Ok.ensures.passes;
    }

pub returns-in-Ok-clause-answers : goal.returns-in-Ok-clause-answers
returns-in-Ok-clause-answers c =
    let a = c.args in
    legal-KeepAnswers a.program.now c.fields-fields.ensures.keeps a.plan.now c.requires.plan a.at a.rule c.requires.rule (a.upper.now, a.lower.now, (returns-in-Ok-clause-legal c).legal)

pub returns-in-Err-past_groups-clause-refused : goal.returns-in-Err-past_groups-clause-refused
returns-in-Err-past_groups-clause-refused c =
    let a = c.args in
    judged_refused a.program.now a.plan.now a.at a.rule c.requires.rule c.root-below.result c.exchanged_tree.result c.root-below.ensures.root c.exchanged_tree.ensures a.upper.now a.lower.now c.requires.found
    c.in_default.ensures.passes c.in-Err-past_groups.why c.in-Err-past_groups.ensures.fails

pub returns-in-Err-past_groups-clause-legal_always : goal.returns-in-Err-past_groups-clause-legal_always
returns-in-Err-past_groups-clause-legal_always c legal =
    absurd (legal_or_refused c.args.program.now c.args.plan.now c.args.at c.args.rule c.in-Err-past_groups.why legal (returns-in-Err-past_groups-clause-refused c))
