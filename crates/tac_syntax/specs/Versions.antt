-- The versions of the language.
use Rattle.std.specs.Prelude.{◌≡◌, ◌==◌, ◌⊎◌, ℕ, if◌then◌else◌}
use Rattle.pact_record.specs.declared.records.TheConstants.{MAX_FIELDS}

abbrev pub IsVersion : ℕ → Type 0
IsVersion version = (version ≡ 1) ⊎ (version ≡ 2)

-- the most fields of a program, columns of a source, and fields of a sink
abbrev pub field_limit : ℕ → ℕ
field_limit version = if version == 2 then MAX_FIELDS else 64
