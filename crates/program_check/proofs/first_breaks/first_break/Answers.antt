use Rattle.std.proofs.Common.{◌≡◌, false, true, ap, sym, ◌∙◌, take, arith}
use Rattle.program_check.specs.declared.counts.Counts.{Counts}
use Rattle.program_check.specs.RuleTests.{breaks, counts_of}
use Rattle.program_check.proofs.FirstBreaks.{broken-so, counts-le, counts-more, first_at, kept-so, none-all, none-more}
use Rattle.program_check.proofs.first_breaks.first_break.Goals as goal

pub returns-then-is_broken-clause-some : goal.returns-then-is_broken-clause-some
returns-then-is_broken-clause-some c =
    let k = c.args.candidate.now in
    let decls = c.decls-decl-items.result.now in
    let decl = c.decl-item.result in
    let told : breaks c.args.rule k.draft (counts_of (take c.loop-n.n decls)) decl ≡ true =
    ap (λ (counts : Counts). breaks c.args.rule k.draft counts decl) (sym c.loop-n.invariant.0) ∙ sym c.is_broken.ensures ∙ c.if-is_broken.true in
    first_at c.args.rule k decls c.loop-n.n decl c.loop-n-test.true c.decl-item.is c.decls-decl-items.ensures.decls c.loop-n.invariant.1
    (broken-so c.args.rule k.draft k.valids (take c.loop-n.n decls) decl c.requires.early told)

pub with-counts-requires-clause-functions : goal.with-counts-requires-clause-functions
with-counts-requires-clause-functions c =
    let few = counts-le c.decls-decl-items.result.now c.loop-n.n c.loop-n.counts (omega arith) c.loop-n.invariant.0 in
    omega (arith, few.few_functions)

pub with-counts-requires-clause-operators : goal.with-counts-requires-clause-operators
with-counts-requires-clause-operators c =
    let few = counts-le c.decls-decl-items.result.now c.loop-n.n c.loop-n.counts (omega arith) c.loop-n.invariant.0 in
    omega (arith, few.few_operators)

pub with-counts-requires-clause-pairs : goal.with-counts-requires-clause-pairs
with-counts-requires-clause-pairs c =
    let few = counts-le c.decls-decl-items.result.now c.loop-n.n c.loop-n.counts (omega arith) c.loop-n.invariant.0 in
    omega (arith, few.few_pairs)

pub loop-n-preserved : goal.loop-n-preserved
loop-n-preserved c =
    let k = c.args.candidate.now in
    let decls = c.decls-decl-items.result.now in
    let decl = c.decl-item.result in
    let told : breaks c.args.rule k.draft (counts_of (take c.loop-n.n decls)) decl ≡ false =
    ap (λ (counts : Counts). breaks c.args.rule k.draft counts decl) (sym c.loop-n.invariant.0) ∙ sym c.is_broken.ensures ∙ c.if-is_broken.false in (
      counts-more decls c.loop-n.n decl c.loop-n.counts c.with-counts.result c.loop-n-test.true c.decl-item.is c.loop-n.invariant.0
          c.with-counts.ensures.functions c.with-counts.ensures.operators c.with-counts.ensures.pairs,
      none-more c.args.rule k decls c.loop-n.n decl c.loop-n-test.true c.decl-item.is c.loop-n.invariant.1
          (kept-so c.args.rule k.draft k.valids (take c.loop-n.n decls) decl c.requires.early told),
    )

pub returns-clause-none : goal.returns-clause-none
returns-clause-none c =
    none-all c.args.rule c.args.candidate.now c.decls-decl-items.result.now c.loop-n.n c.loop-n-test.false c.decls-decl-items.ensures.decls c.loop-n.invariant.1
