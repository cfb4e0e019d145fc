-- Calls that return the lines of a bag.
use Rattle.std.specs.Borrow.{Bor}
use Rattle.std.specs.Prelude.{ℕ, List, Result, IfOk}
use Rattle.bag_lines.specs.Lines.{AreLines, CanFormat}
use Rattle.pact_record.specs.declared.values.Value.{Value}

-- may be called for any bag, and returns its lines
pub record IsFormatter {E : Type 0} (Pre : List (List Value) → Bor (List ℕ) → Type 0)
    (Post : List (List Value) → Bor (List ℕ) → Result (List ℕ) E → Type 0) : Type 0 where
  pub pre : (bag : List (List Value)) (fields : Bor (List ℕ)) → CanFormat fields.now bag → Pre bag fields
  pub post : (bag : List (List Value)) (fields : Bor (List ℕ)) (result : Result (List ℕ) E) → CanFormat fields.now bag
      → Post bag fields result → IfOk result (AreLines fields.now bag)
