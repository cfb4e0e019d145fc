use Rattle.std.proofs.Common.{◌≡◌, ◌++◌, ◌+◌, ◌*◌, drop}
use Rattle.tac_syntax.specs.Coding.{tall}
use Rattle.tac_syntax.specs.Trees.{code_of, only}
use Rattle.tac_text.specs.FunctionSpelling.{body_text}
use Rattle.tac_text.proofs.function_writing.+write.Given as goal

abbrev pub decreases-write_lines : goal.decreases-write_lines
decreases-write_lines l = 2 * tall l.body.now + 1

abbrev pub decreases-write_stmt : goal.decreases-write_stmt
decreases-write_stmt l = 2 * tall (only l.stmt.now)

abbrev pub invariant-write_lines-loop-stmt : goal.invariant-write_lines-loop-stmt
invariant-write_lines-loop-stmt l = l.out ++ body_text l.depth (code_of (drop l.stmt-index l.stmt-items)) ≡ l.fn.out ++ body_text l.depth l.body
