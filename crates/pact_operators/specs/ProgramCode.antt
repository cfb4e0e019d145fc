-- How a program is stored in the logic.
use Rattle.std.specs.Prelude.{ℕ, List, refl}
use Rattle.std.specs.Coded.{Coded, code_by, coded×, coded_list, coded_ℕ}
use Rattle.tac_syntax.specs.Sealed.{coded_with_fields}
use Rattle.tac_syntax.specs.Valid.{WithFields}
use Rattle.pact_operators.specs.declared.operators.Op.{Op}
use Rattle.pact_operators.specs.contracts.operators.Op.{the_row as op_row}
use Rattle.plan_trees.specs.PlanCode.{coded_plan}
use Rattle.plan_trees.specs.Plans.{PlanTree}
use Rattle.pact_operators.specs.Programs.{ProgramData}

abbrev pub coded_program : Coded ProgramData
coded_program =
    code_by (ℕ × (ℕ × (List WithFields × (List Op × (PlanTree × List ℕ)))))
    (coded× coded_ℕ (coded× coded_ℕ (coded× (coded_list coded_with_fields) (coded× (coded_list op_row.coded) (coded× coded_plan (coded_list coded_ℕ))))))
    (λ p. (p.version, (p.fields, (p.functions, (p.ops, (p.plan, p.sink))))))
    (λ p. record { version = p.0; fields = p.1.0; functions = p.1.1.0; ops = p.1.1.1.0; plan = p.1.1.1.1.0; sink = p.1.1.1.1.1 })
    (λ _. refl)
