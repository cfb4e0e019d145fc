-- How many fields a program may have.
use Rattle.std.proofs.Common.{◌≤◌, ◌==◌, ℕ, Bool, true, false, if◌then◌else◌, arith}
use Rattle.pact_record.specs.declared.records.TheConstants.{MAX_FIELDS}
use Rattle.tac_syntax.specs.Versions.{field_limit}

within_record : (wide : Bool) → (if wide then MAX_FIELDS else 64) ≤ MAX_FIELDS
within_record true = omega arith
within_record false = omega arith

-- no more than a record can have
pub wide_limit : (version : ℕ) → field_limit version ≤ MAX_FIELDS
wide_limit version = within_record (version == 2)

not_none : (wide : Bool) → 1 ≤ (if wide then MAX_FIELDS else 64)
not_none true = omega arith
not_none false = omega arith

pub some_limit : (version : ℕ) → 1 ≤ field_limit version
some_limit version = not_none (version == 2)
