use Rattle.std.proofs.Common.{◌↔◌, ◌⊎◌, ◌+◌, ◌*◌, ℕ, IsTrue, drop}
use Rattle.pact_record.specs.FieldSets.{has_field}
use Rattle.tac_syntax.specs.Bounded.{Names}
use Rattle.tac_syntax.specs.Coding.{tall}
use Rattle.tac_syntax.specs.Trees.{code_of, only}
use Rattle.tac_syntax.proofs.named_fields.+named.Given as goal

abbrev pub decreases-named_in : goal.decreases-named_in
decreases-named_in l = 2 * tall l.body.now + 1

abbrev pub decreases-named_by : goal.decreases-named_by
decreases-named_by l = 2 * tall (only l.stmt.now)

abbrev pub invariant-named_in-loop-stmt : goal.invariant-named_in-loop-stmt
invariant-named_in-loop-stmt l = (k : ℕ) → (IsTrue (has_field l.found k) ⊎ Names l.fn.fields k (code_of (drop l.stmt-index l.stmt-items))) ↔ Names l.fn.fields k (code_of l.stmt-items)
