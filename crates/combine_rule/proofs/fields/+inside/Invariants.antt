use Rattle.std.proofs.Common.{◌≡◌, ◌+◌, ◌*◌, drop}
use Rattle.pact_record.specs.FieldSets.{has_field}
use Rattle.tac_syntax.specs.Coding.{tall}
use Rattle.tac_syntax.specs.Trees.{only, code_of}
use Rattle.combine_rule.specs.Tests.{sets_inside}
use Rattle.combine_rule.proofs.fields.+inside.Given as goal

abbrev pub decreases-sets_inside : goal.decreases-sets_inside
decreases-sets_inside l = 2 * tall (only l.stmt.now)

abbrev pub decreases-all_inside : goal.decreases-all_inside
decreases-all_inside l = 2 * tall (code_of l.stmts.now) + 1

abbrev pub invariant-all_inside-loop-stmt : goal.invariant-all_inside-loop-stmt
invariant-all_inside-loop-stmt l = sets_inside l.fields (has_field l.set) (code_of (drop l.stmt-index l.stmts)) ≡ sets_inside l.fields (has_field l.set) (code_of l.stmts)
