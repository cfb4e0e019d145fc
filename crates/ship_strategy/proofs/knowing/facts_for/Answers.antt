use Rattle.std.proofs.Common.{subst, sym}
use Rattle.pact_record.specs.Widths.{AreBelow}
use Rattle.pact_operators.proofs.PlanContexts.{keys-below}
use Rattle.ship_strategy.proofs.knowing.facts_for.Goals as goal

pub sets_unless_source-found-requires-clause-fields : goal.sets_unless_source-found-requires-clause-fields
sets_unless_source-found-requires-clause-fields c operator =
    let p = c.args.program.now in
    let keys = keys-below p.fields p.functions p.ops c.args.at c.fields-fields.ensures.keeps.ops operator in
    record {
      left = c.requires.left;
      right = c.requires.right;
      left_keys = subst (AreBelow p.fields) (sym c.kind_and_keys-kind.ensures.left_keys) keys.0;
      right_keys = subst (AreBelow p.fields) (sym c.kind_and_keys-kind.ensures.right_keys) keys.1;
    }
