use Rattle.std.proofs.Common.{take}
use Rattle.std.proofs.lemmas.Bool.{iff_false}
use Rattle.program_check.proofs.FirstBreaks.{first_at, none-all, none-more}
use Rattle.program_check.proofs.OperatorsInPlan.{broken-in, has_place, kept-in}
use Rattle.program_check.proofs.first_breaks.first_attribute_break.Goals as goal

pub breaks_attributes-requires-clause-place : goal.breaks_attributes-requires-clause-place
breaks_attributes-requires-clause-place c =
    has_place c.args.candidate.now.draft c.args.plan.now c.decls-decl-items.result.now c.loop-n.n c.decl-item.result c.requires.plan c.loop-n-test.true c.decl-item.is c.decls-decl-items.ensures.decls

pub returns-then-breaks_attributes-clause-some : goal.returns-then-breaks_attributes-clause-some
returns-then-breaks_attributes-clause-some c =
    let k = c.args.candidate.now in
    let decls = c.decls-decl-items.result.now in
    let decl = c.decl-item.result in
    first_at c.args.rule k decls c.loop-n.n decl c.loop-n-test.true c.decl-item.is c.decls-decl-items.ensures.decls c.loop-n.invariant
    (broken-in c.args.rule k c.args.plan.now (take c.loop-n.n decls) decl c.requires.plan (c.breaks_attributes.ensures.0 c.if-breaks_attributes.true))

pub loop-n-preserved : goal.loop-n-preserved
loop-n-preserved c =
    let k = c.args.candidate.now in
    let decls = c.decls-decl-items.result.now in
    let decl = c.decl-item.result in
    none-more c.args.rule k decls c.loop-n.n decl c.loop-n-test.true c.decl-item.is c.loop-n.invariant
    (kept-in c.args.rule k c.args.plan.now (take c.loop-n.n decls) decl c.requires.late c.requires.plan (iff_false c.breaks_attributes.ensures c.if-breaks_attributes.false))

pub returns-clause-none : goal.returns-clause-none
returns-clause-none c =
    none-all c.args.rule c.args.candidate.now c.decls-decl-items.result.now c.loop-n.n c.loop-n-test.false c.decls-decl-items.ensures.decls c.loop-n.invariant
