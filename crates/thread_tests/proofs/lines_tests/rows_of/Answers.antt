use Rattle.std.proofs.Common.{◌≡◌, ◌<◌, List, [], ◌∷◌, length, arith}
use Rattle.std.specs.List.{AllByRecursion}
use Rattle.pact_record.proofs.Lists.{AllByRecursion-weaker}
use Rattle.pact_record.specs.declared.values.Value.{Value}
use Rattle.thread_tests.proofs.lines_tests.rows_of.Goals as goal

pub returns : goal.returns
returns c =
    let wide : List Value → Type 0 = λ row. length row ≡ 2 in
    let within : List Value → Type 0 = λ row. AllByRecursion (λ field. field < length row) (0 ∷ 1 ∷ []) in
    AllByRecursion-weaker wide within c.loop-n.rows
    (λ row e. (omega (arith, e), (omega (arith, e), tt)))
    c.loop-n.invariant
