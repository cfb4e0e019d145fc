use Rattle.pact_top.specs.declared.rewriting.RunOutcome.{RunOutcome}
use Rattle.pact_top.proofs.RunPlans.{IsRunnable, combined_can, pruned_can, run_left, runnable_can}
use Rattle.pact_top.proofs.rewriting.run_rewritten.Goals as goal

pub run-requires-clause-can : goal.run-requires-clause-can
run-requires-clause-can g c =
    let p = c.args.program.now in
    let x = c.args.physical.now in
    let count = c.args.options.workers in
    let first : IsRunnable p x c.args.inputs count = record { plan = c.requires.plan; inputs = c.requires.inputs; workers = c.requires.workers } in
    let second = pruned_can c.args.rewrites.prune p c.in_ok-pruned.pruned x c.in_ok-pruned.small c.in_ok-pruned.kept.items c.args.inputs count first c.in_ok-pruned.ensures in
    let third = combined_can c.args.rewrites.combine c.in_ok-pruned.pruned c.in_ok-rewritten.rewritten c.in_ok-pruned.small c.in_ok-rewritten.last c.in_ok-rewritten.combined.items c.args.inputs count second c.in_ok-rewritten.ensures in
    runnable_can c.in_ok-rewritten.rewritten c.in_ok-rewritten.last c.args.inputs c.args.options third c.requires.options

pub returns : goal.returns
returns g c =
    let left : RunOutcome = record { outcome = c.in_ok-outcome.outcome; kept = c.in_ok-pruned.kept; combined = c.in_ok-rewritten.combined } in
    let p = c.args.program.now in
    let x = c.args.physical.now in
    let count = c.args.options.workers in
    let first : IsRunnable p x c.args.inputs count = record { plan = c.requires.plan; inputs = c.requires.inputs; workers = c.requires.workers } in
    let second = pruned_can c.args.rewrites.prune p c.in_ok-pruned.pruned x c.in_ok-pruned.small c.in_ok-pruned.kept.items c.args.inputs count first c.in_ok-pruned.ensures in
    run_left c.args.rewrites.prune c.args.rewrites.combine p c.in_ok-pruned.pruned c.in_ok-rewritten.rewritten x c.in_ok-pruned.small c.in_ok-rewritten.last c.args.inputs left
    c.requires.legal c.requires.inputs second.inputs c.in_ok-pruned.ensures c.in_ok-rewritten.ensures c.in_ok-outcome.ensures
