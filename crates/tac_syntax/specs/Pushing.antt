-- Why a statement isn't appended to a body.
use Rattle.std.specs.Prelude.{◌≡◌, ◌<◌, ◌≤◌}
use Rattle.tac_syntax.specs.declared.statements.Stmt.{Stmt}
use Rattle.tac_syntax.specs.declared.statements.NotPushed.{NotPushed}
use Rattle.tac_syntax.specs.declared.statements.NotPushed.TheVariants.{Deep, Memory}
use Rattle.tac_syntax.specs.Code.{nesting}
use Rattle.tac_syntax.specs.Trees.{only}
use Rattle.tac_syntax.specs.Limits.{nesting_limit}

-- The statement is handed back. The reason is depth exactly if the statement would exceed the limit.
abbrev pub IsNotPushed : Stmt → NotPushed → Type 0
IsNotPushed stmt (Deep back) = (back ≡ stmt) × (nesting_limit < nesting (only stmt))
IsNotPushed stmt (Memory back) = (back ≡ stmt) × (nesting (only stmt) ≤ nesting_limit)
