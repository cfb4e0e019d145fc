use Rattle.std.proofs.Common.{◌≤◌, ℕ, sym, subst}
use Rattle.pact_record.specs.declared.records.TheConstants.{MAX_FIELDS}
use Rattle.tac_syntax.proofs.FieldLimits.{some_limit, wide_limit}
use Rattle.swap_certificate.proofs.reading.shaped.Goals as goal

pub read_steps-requires : goal.read_steps-requires
read_steps-requires c = record { limit = subst (λ (n : ℕ). (1 ≤ n) × (n ≤ MAX_FIELDS)) (sym c.field_limit.ensures) (some_limit c.in-Some-read_version.version, wide_limit c.in-Some-read_version.version) }
