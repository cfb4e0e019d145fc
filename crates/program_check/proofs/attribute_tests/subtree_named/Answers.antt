use Rattle.std.proofs.Common.{◌≡◌, arith}
use Rattle.pact_operators.specs.Resolved.{node_names, place_among}
use Rattle.plan_trees.proofs.Ships.{below_limit}
use Rattle.program_check.proofs.attribute_tests.subtree_named.Goals as goal

pub overflow_cast-place_among : goal.overflow_cast-place_among
overflow_cast-place_among c =
    let below = below_limit (place_among c.args.name.now (node_names c.args.candidate.now.draft.decls)) c.args.plan.now c.root-root.ensures.plan c.requires in
    let same : c.place_among.result ≡ place_among c.args.name.now (node_names c.args.candidate.now.draft.decls) = cc (c.place_among.ensures.place, c.nodes.ensures, c.bytes.ensures.text) in
    omega (arith, below, same)
