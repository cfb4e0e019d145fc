use Rattle.std.proofs.Common.{arith, subst}
use Rattle.flow_core.specs.Outcomes.{GoesOn}
use Rattle.flow_core.proofs.RunAlone.{reached_end, reached_long, reached_more, reached_none}
use Rattle.flow_core.proofs.alone.run_to_end.Goals as goal

pub loop-turn-init : goal.loop-turn-init
loop-turn-init g c = reached_none c.args.world.now c.requires

pub loop-turn-preserved : goal.loop-turn-preserved
loop-turn-preserved g c =
    let u = c.loop-turn.world in
    let v = c.go_on.new.world in
    reached_more c.args.world.now u v c.loop-turn._turn c.loop-turn.invariant (subst (λ b. GoesOn u b v) c.if-not-branch.false c.in_ok-go_on.ensures)

pub returns-then-not-branch : goal.returns-then-not-branch
returns-then-not-branch g c =
    let u = c.loop-turn.world in
    let v = c.go_on.new.world in
    reached_end c.args.world.now u v c.loop-turn._turn c.loop-turn.invariant (subst (λ b. GoesOn u b v) c.if-not-branch.true c.in_ok-go_on.ensures)

pub returns : goal.returns
returns g c = λ p inputs h st.
    let few = reached_long c.args.world.now c.loop-turn.world c.loop-turn._turn c.requires c.loop-turn.invariant p inputs h st in
    omega (arith, few, c.loop-turn-test.false)
