use Rattle.std.proofs.Common.{◌∙◌, sym, subst, arith}
use Rattle.pact_operators.specs.Inputs.{AreInputsOf}
use Rattle.pact_operators.specs.Programs.{ProgramData}
use Rattle.iterate_plan.specs.Rounds.{AllowsOn}
use Rattle.iterate_plan.proofs.OneIteration.{one_iteration}
use Rattle.iterate_run.specs.NextRows.{AreNextRows}
use Rattle.iterate_run.proofs.RoundsSoFar.{ends_full, ends_stable, first_round, later_inputs, next_round, place_there}
use Rattle.iterate_run.proofs.iterating.iterate.Goals as goal

pub loop-count-init : goal.loop-count-init
loop-count-init g c =
    let p = g.R.Round.program c.args.round.now in
    let round = c.in_ok-rows in (
      round.ensures.same,
      first_round p c.args.inputs c.args.source c.args.columns.now c.args.stable round.rows c.requires.inputs round.ensures.allowed,
      round.ensures.ready,
    )

pub at-requires : goal.at-requires
at-requires g c = place_there c.loop-count.invariant.1 c.requires.source

pub returns-in_default-clause-rounds : goal.returns-in_default-clause-rounds
returns-in_default-clause-rounds g c =
    let given = subst (AreNextRows c.args.columns.now c.at.result.now c.loop-count.rows c.args.stable) c.in_default.is c.in_ok-next.ensures in
    ends_stable c.loop-count.invariant.1 c.at.ensures given (omega (arith, c.loop-count-test.true))

pub returns-in_default-clause-only : goal.returns-in_default-clause-only
returns-in_default-clause-only g c = λ one other count is.
    one_iteration (g.R.Round.program c.args.round.now) one c.args.inputs c.args.source c.args.columns.now c.args.rounds c.args.stable
    c.loop-count.rows other c.loop-count.count count (returns-in_default-clause-rounds g c) is

pub set-requires : goal.set-requires
set-requires g c = place_there c.loop-count.invariant.1 c.requires.source

pub round-requires-in-loop-count-clause-inputs : goal.round-requires-in-loop-count-clause-inputs
round-requires-in-loop-count-clause-inputs g c =
    let given = subst (AreNextRows c.args.columns.now c.at.result.now c.loop-count.rows c.args.stable) c.in-Some.is c.in_ok-next.ensures in
    let later = later_inputs c.loop-count.invariant.1 c.at.ensures c.requires.program c.requires.source given c.set.ensures in
    subst (λ (q : ProgramData). AreInputsOf q c.set.new.self) (sym c.loop-count.invariant.0) later

pub loop-count-preserved : goal.loop-count-preserved
loop-count-preserved g c =
    let given = subst (AreNextRows c.args.columns.now c.at.result.now c.loop-count.rows c.args.stable) c.in-Some.is c.in_ok-next.ensures in
    let round = c.in_ok-rows-2 in
    let allowed = subst (λ (q : ProgramData). AllowsOn q c.set.new.self round.rows) c.loop-count.invariant.0 round.ensures.allowed in (
      round.ensures.same ∙ c.loop-count.invariant.0,
      next_round c.loop-count.invariant.1 c.at.ensures c.requires.program c.requires.source given c.set.ensures round.rows allowed,
      round.ensures.ready,
    )

pub returns-clause-rounds : goal.returns-clause-rounds
returns-clause-rounds g c =
    ends_full c.loop-count.invariant.1
    (grind (arith, c.loop-count-test.false, c.loop-count.auto.count, c.loop-count.auto.count-end, c.requires.rounds))

pub returns-clause-only : goal.returns-clause-only
returns-clause-only g c = λ one other count is.
    one_iteration (g.R.Round.program c.args.round.now) one c.args.inputs c.args.source c.args.columns.now c.args.rounds c.args.stable
    c.loop-count.rows other c.args.rounds count (returns-clause-rounds g c) is
