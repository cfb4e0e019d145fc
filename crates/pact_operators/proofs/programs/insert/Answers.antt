use Rattle.std.proofs.Common.{◌≡◌, ◌∙◌, ℕ, length, ap, sym, subst, arith}
use Rattle.plan_trees.specs.Distinct.{IsAbsent}
use Rattle.plan_trees.specs.Inserted.{inserted}
use Rattle.plan_trees.specs.Physicals.{PhysicalData}
use Rattle.plan_trees.specs.Plans.{PlanTree, nodes}
use Rattle.pact_operators.specs.Insertions.{inserted_into}
use Rattle.pact_operators.specs.Programs.{IsProgram}
use Rattle.pact_operators.proofs.InsertedPrograms.{absent_new, inserted_program}
use Rattle.pact_operators.proofs.NumbersInPlans.{next_below}
use Rattle.pact_operators.proofs.programs.insert.Goals as goal

pub overflow_cast-new : goal.overflow_cast-new
overflow_cast-new c =
    let p = c.args.program in
    let lt = next_below p.functions p.ops c.args.physical.tree c.requires.plan c.requires.room in
    let same = ap length c.ops.ensures.ops in
    omega (arith, lt, same)

pub insert-requires-clause-new_below : goal.insert-requires-clause-new_below
insert-requires-clause-new_below c =
    let p = c.args.program in
    let lt = next_below p.functions p.ops c.args.physical.tree c.requires.plan c.requires.room in
    let same = ap length c.ops.ensures.ops in
    omega (arith, lt, same)

pub insert-requires-clause-absent : goal.insert-requires-clause-absent
insert-requires-clause-absent c =
    subst (λ (n : ℕ). IsAbsent n (nodes c.args.physical.tree)) (sym (ap length c.ops.ensures.ops))
    (absent_new c.args.program c.ops.ensures.keeps c.args.physical.tree c.args.below c.args.op c.args.function c.function-valid.ensures.valid c.requires)

pub with_operator-requires-clause-program : goal.with_operator-requires-clause-program
with_operator-requires-clause-program c =
    let p = c.args.program in
    let tree : c.plan.result.now ≡ inserted c.args.below (length p.ops) c.args.physical.tree =
    c.plan.ensures ∙ ap (λ (d : PhysicalData). d.tree) c.insert.ensures.value ∙ ap (λ (n : ℕ). inserted c.args.below n c.args.physical.tree) (ap length c.ops.ensures.ops) in
    subst (λ (t : PlanTree). IsProgram (inserted_into p c.args.op c.args.function t)) (sym tree)
    (inserted_program p c.ops.ensures.keeps c.args.physical.tree c.args.below c.args.op c.args.function c.function-valid.ensures.valid c.requires)
