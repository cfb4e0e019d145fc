use Rattle.std.proofs.Common.{ap, sym, ◌∙◌}
use Rattle.flow_instance.specs.Worlds.{first_of, reader_of}
use Rattle.flow_core.proofs.ReadersOfEdges.{read_at_left, read_at_right, read_below, read_below_two, read_here}
use Rattle.flow_core.proofs.plan_tables.+reader_of.Goals as goal

pub returns-then-edge-root : goal.returns-then-edge-root
returns-then-edge-root t c = read_here c.args.plan.now c.args.edge c.in-OverOne.at c.in-OverOne.input (sym c.parts.ensures.parts ∙ c.in-OverOne.is) (c.if-edge-root.true ∙ c.root.ensures.root)

pub returns-else-edge-root : goal.returns-else-edge-root
returns-else-edge-root t c =
    read_below c.args.plan.now c.args.edge c.in-OverOne.at c.in-OverOne.input c.reader_of.result (sym c.parts.ensures.parts ∙ c.in-OverOne.is) (λ e. c.if-edge-root.false (e ∙ sym c.root.ensures.root)) c.reader_of.ensures

pub returns-then-edge-root-2 : goal.returns-then-edge-root-2
returns-then-edge-root-2 t c =
    read_at_left c.args.plan.now c.args.edge c.in-OverTwo.at c.in-OverTwo.left c.in-OverTwo.right (sym c.parts.ensures.parts ∙ c.in-OverTwo.is) (c.if-edge-root-2.true ∙ c.root-in-OverTwo.ensures.root)

pub returns-then-edge-root-3 : goal.returns-then-edge-root-3
returns-then-edge-root-3 t c =
    read_at_right c.args.plan.now c.args.edge c.in-OverTwo.at c.in-OverTwo.left c.in-OverTwo.right (sym c.parts.ensures.parts ∙ c.in-OverTwo.is)
    (λ e. c.if-edge-root-2.false (e ∙ sym c.root-in-OverTwo.ensures.root)) (c.if-edge-root-3.true ∙ c.root-in-OverTwo-2.ensures.root)

pub returns-in-Some : goal.returns-in-Some
returns-in-Some t c =
    read_below_two c.args.plan.now c.args.edge c.in-OverTwo.at c.in-OverTwo.left c.in-OverTwo.right _ (sym c.parts.ensures.parts ∙ c.in-OverTwo.is)
    (λ e. c.if-edge-root-2.false (e ∙ sym c.root-in-OverTwo.ensures.root)) (λ e. c.if-edge-root-3.false (e ∙ sym c.root-in-OverTwo-2.ensures.root))
    (sym (ap (λ o. first_of o (reader_of c.args.edge c.in-OverTwo.right)) (sym c.reader_of-in-OverTwo.ensures ∙ c.in-Some.is)))

pub returns-in_default : goal.returns-in_default
returns-in_default t c =
    read_below_two c.args.plan.now c.args.edge c.in-OverTwo.at c.in-OverTwo.left c.in-OverTwo.right _ (sym c.parts.ensures.parts ∙ c.in-OverTwo.is)
    (λ e. c.if-edge-root-2.false (e ∙ sym c.root-in-OverTwo.ensures.root)) (λ e. c.if-edge-root-3.false (e ∙ sym c.root-in-OverTwo-2.ensures.root))
    (c.reader_of-in-OverTwo-2.ensures ∙ sym (ap (λ o. first_of o (reader_of c.args.edge c.in-OverTwo.right)) (sym c.reader_of-in-OverTwo.ensures ∙ c.in_default.is)))
