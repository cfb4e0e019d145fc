use Rattle.std.proofs.Common.{◌<◌, List, length, refl, ap, sym, subst}
use Rattle.pact_operators.specs.PlanOps.{kind_in, left_keys_in, right_keys_in}
use Rattle.pact_operators.specs.declared.operators.Op.{Op}
use Rattle.flow_instance.proofs.PartsOfPlans.{number_below, read_op}
use Rattle.flow_instance.proofs.plan_parts.part_at.Goals as goal

pub function_at-requires : goal.function_at-requires
function_at-requires c = number_below c.args.program.now.ops c.args.at c.args.physical.now.tree c.requires.has c.requires.plan.arity

pub bounds-ops-at : goal.bounds-ops-at
bounds-ops-at c = subst (λ (l : List Op). c.args.at < length l) (sym c.ops.ensures.ops) (number_below c.args.program.now.ops c.args.at c.args.physical.now.tree c.requires.has c.requires.plan.arity)

pub returns : goal.returns
returns c =
    let found = read_op c.args.program.now c.args.at c.ops.result.now c.index-ops-at.result c.ops.ensures.ops (number_below c.args.program.now.ops c.args.at c.args.physical.now.tree c.requires.has c.requires.plan.arity) c.index-ops-at.is in
    record {
      at = refl;
      kind = sym (ap kind_in found);
      called = c.in_ok-called.ensures;
      left_keys = sym (ap left_keys_in found);
      right_keys = sym (ap right_keys_in found);
      nulls = c.nulls_match.ensures;
      fields = c.fields.ensures.fields;
      worker = refl;
      workers = c.workers.ensures.workers;
      batch = refl;
      ports = c.in_ok-ports.ensures;
      out = c.ship.ensures.ship;
    }
