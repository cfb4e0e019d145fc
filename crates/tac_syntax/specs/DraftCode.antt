-- How a program as it is declared is stored in the logic.
use Rattle.std.specs.Prelude.{ℕ, List, refl}
use Rattle.std.specs.Coded.{Coded, code_by, coded×, coded_list, coded_ℕ}
use Rattle.tac_syntax.specs.declared.functions.Function.{Function}
use Rattle.tac_syntax.specs.contracts.functions.Function.{the_row as function_row}
use Rattle.tac_syntax.specs.declared.declarations.Decl.{Decl}
use Rattle.tac_syntax.specs.contracts.declarations.Decl.{the_row as decl_row}
use Rattle.tac_syntax.specs.Drafts.{DraftData}

abbrev pub coded_draft : Coded DraftData
coded_draft =
    code_by (ℕ × (ℕ × (List Function × List Decl))) (coded× coded_ℕ (coded× coded_ℕ (coded× (coded_list function_row.coded) (coded_list decl_row.coded))))
    (λ d. (d.version, (d.fields, (d.functions, d.decls)))) (λ p. record { version = p.0; fields = p.1.0; functions = p.1.1.0; decls = p.1.1.1 }) (λ _. refl)
