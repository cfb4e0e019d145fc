-- A walk over a body of which some statements are left.
use Rattle.std.proofs.Common.{◌≡◌, ◌<◌, ◌≤◌, ◌+◌, ℕ, List, length, drop, get_or, Ok, Err, ap, sym, ◌∙◌, arith}
use Rattle.tac_syntax.specs.declared.rules.Rule.{Rule}
use Rattle.tac_syntax.specs.declared.statements.Stmt.{Stmt}
use Rattle.tac_syntax.specs.Code.{count_of}
use Rattle.tac_syntax.specs.Trees.{statement_of, only, code_of}
use Rattle.tac_validate.specs.declared.places.Place.{Place}
use Rattle.tac_validate.specs.declared.walks.Broken.{Broken}
use Rattle.tac_validate.specs.Stands.{IsAround, place_of}
use Rattle.tac_validate.specs.Walks.{walked}
use Rattle.tac_syntax.proofs.Bodies.{code_of-drop, count_of-onto}
use Rattle.tac_validate.proofs.WalksOfBodies.{number_after, walked-next, walked-found}

-- The statements that are left, from the next number on, lead to the same result as all of them.
pub record GoesOn (rule : Rule) (place : Place) (number : ℕ) (stmts : List Stmt) (next : ℕ) (left : List Stmt) : Type 0 where
  pub found : walked rule next (place_of place) (code_of left) ≡ walked rule number (place_of place) (code_of stmts)
  pub numbers : next + count_of (code_of left) ≡ number + count_of (code_of stmts)
  pub around : IsAround place next

-- for a statement that keeps the rule
pub goes_on-next : (rule : Rule) (place : Place) (number : ℕ) (stmts : List Stmt) (next k after : ℕ) (stmt : Stmt)
    → GoesOn rule place number stmts next (drop k stmts) → k < length stmts → stmt ≡ get_or stmts k stmt
    → walked rule next (place_of place) (only stmt) ≡ Ok after
    → GoesOn rule place number stmts after (drop (k + 1) stmts)
goes_on-next rule place number stmts next k after stmt on h is kept =
    let is_after = number_after rule next after (place_of place) (only stmt) kept in
    let split = code_of-drop stmts k stmt h is in
    let left = code_of (drop (k + 1) stmts) in
    record {
      found =
          sym (walked-next rule next after (place_of place) (statement_of stmt) left kept)
          ∙ ap (walked rule next (place_of place)) (sym split)
          ∙ on.found;
      numbers = omega (arith, on.numbers, ap count_of split, count_of-onto (statement_of stmt) left);
      around = record { ifs = omega (arith, on.around.ifs); loops = omega (arith, on.around.loops); lists = omega (arith, on.around.lists) };
    }

-- for a statement that breaks it
pub goes_on-found : (rule : Rule) (place : Place) (number : ℕ) (stmts : List Stmt) (next k : ℕ) (b : Broken) (stmt : Stmt)
    → GoesOn rule place number stmts next (drop k stmts) → k < length stmts → stmt ≡ get_or stmts k stmt
    → walked rule next (place_of place) (only stmt) ≡ Err b
    → walked rule number (place_of place) (code_of stmts) ≡ Err b
goes_on-found rule place number stmts next k b stmt on h is broken =
    sym on.found
    ∙ ap (walked rule next (place_of place)) (code_of-drop stmts k stmt h is)
    ∙ walked-found rule next b (place_of place) (statement_of stmt) (code_of (drop (k + 1) stmts)) broken

-- The statement's number, and those of the statements inside it, are among those of the whole body.
pub goes_on-number : (rule : Rule) (place : Place) (number : ℕ) (stmts : List Stmt) (next k : ℕ) (stmt : Stmt)
    → GoesOn rule place number stmts next (drop k stmts) → k < length stmts → stmt ≡ get_or stmts k stmt
    → next + count_of (only stmt) ≤ number + count_of (code_of stmts)
goes_on-number rule place number stmts next k stmt on h is =
    omega (arith, on.numbers, ap count_of (code_of-drop stmts k stmt h is), count_of-onto (statement_of stmt) (code_of (drop (k + 1) stmts)))
