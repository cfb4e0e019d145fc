use Rattle.std.proofs.Common.{◌≡◌, not, drop}
use Rattle.std.specs.List.{list_any}
use Rattle.pact_record.specs.FieldSets.{has_field}
use Rattle.program_check.proofs.attribute_tests.is_some_absent.Given as goal

abbrev pub invariant-loop-key : goal.invariant-loop-key
invariant-loop-key l = list_any (λ k. not (has_field l.fields k)) (drop l.key-index l.keys) ≡ list_any (λ k. not (has_field l.fields k)) l.keys
