use Rattle.std.proofs.Common.{ap, refl}
use Rattle.std.specs.Prelude.{Some}
use Rattle.plan_trees.specs.declared.physicals.Ship.{Ship}
use Rattle.plan_trees.specs.declared.physicals.Ship.TheVariants.{Forward}
use Rattle.plan_trees.specs.Plans.{node_limit}
use Rattle.plan_trees.proofs.Ships.{get_or_blank}
use Rattle.plan_trees.proofs.physicals.Physical.forward.Goals as goal

pub invariant_of-result : goal.invariant_of-result
invariant_of-result c = record {
  plan = c.root-root.ensures.plan;
  some_worker = c.requires.0;
  few_workers = c.requires.1;
  long = refl;
  rest = λ at _. get_or_blank node_limit at Forward;
}

pub returns-clause-ships : goal.returns-clause-ships
returns-clause-ships c = λ at edge. rw edge (ap (λ (ship : Ship). Some ship) (get_or_blank node_limit at Forward))
