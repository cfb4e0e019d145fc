-- How a body that is being built is stored in the logic.
use Rattle.std.specs.Prelude.{List, refl}
use Rattle.std.specs.Coded.{Coded, code_by, coded×, coded_list}
use Rattle.tac_syntax.specs.Code.{Code}
use Rattle.tac_syntax.specs.Coding.{coded_code}
use Rattle.tac_text.specs.declared.building.Block.{Block}
use Rattle.tac_text.specs.contracts.building.Block.{the_row}
use Rattle.tac_text.specs.Places.{Build}

abbrev pub coded_build : Coded Build
coded_build = code_by (List Block × Code) (coded× (coded_list the_row.coded) coded_code) (λ b. (b.blocks, b.body)) (λ p. record { blocks = p.0; body = p.1 }) (λ _. refl)
