use Rattle.std.proofs.Common.{◌≡◌, ap, map, ◌∙◌}
use Rattle.program_check.specs.PlanReads.{inputs_as}
use Rattle.pact_operators.specs.Resolved.{inputs_of, node_names}
use Rattle.program_check.proofs.PlanFromRules.{planned, some_sink, written}
use Rattle.program_check.proofs.written_plans.written_plan.Goals as goal

pub bounds-sinks-0 : goal.bounds-sinks-0
bounds-sinks-0 c = some_sink c.args.candidate.now c.sinks.result.now c.requires c.sinks.ensures

pub tree_at-requires : goal.tree_at-requires
tree_at-requires c =
    let k = c.args.candidate.now in
    let inputs : map inputs_as c.deref.result.now ≡ inputs_of (node_names k.draft.decls) k.draft.decls =
    ap (map inputs_as) c.deref.ensures.value ∙ c.in_ok-reads.ensures ∙ (λ i. inputs_of (c.nodes-nodes.ensures i) (c.decls.ensures.decls i)) in
    planned k (map inputs_as c.deref.result.now) c.sinks.result.now c.index-sinks-0.result c.bytes.result.now c.nodes-nodes.result.now c.place_among-root.result c.requires inputs c.sinks.ensures
    c.index-sinks-0.is c.bytes.ensures.text c.nodes-nodes.ensures c.place_among-root.ensures.place

pub returns : goal.returns
returns c =
    let k = c.args.candidate.now in
    let inputs : map inputs_as c.deref.result.now ≡ inputs_of (node_names k.draft.decls) k.draft.decls =
    ap (map inputs_as) c.deref.ensures.value ∙ c.in_ok-reads.ensures ∙ (λ i. inputs_of (c.nodes-nodes.ensures i) (c.decls.ensures.decls i)) in
    written k (map inputs_as c.deref.result.now) c.sinks.result.now c.index-sinks-0.result c.bytes.result.now c.nodes-nodes.result.now c.place_among-root.result c.tree_at.result c.requires inputs
    c.sinks.ensures c.index-sinks-0.is c.bytes.ensures.text c.nodes-nodes.ensures c.place_among-root.ensures.place c.tree_at.ensures.follows c.tree_at.ensures.root
