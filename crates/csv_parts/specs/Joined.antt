-- The result for a text that was cut in two, from the results for its two parts.
use Rattle.std.specs.Prelude.{◌≡◌, ◌⊎◌, ◌+◌, ◌++◌, ℕ, List, length, Result, Ok, Err}
use Rattle.pact_record.specs.declared.values.Value.{Value}
use Rattle.csv_source.specs.declared.reading.BadRow.{BadRow}
use Rattle.csv_source.specs.declared.reading.BadRow.TheVariants as bads

-- the bad row of the rest, numbered in the whole text, whose prefix has this number of rows
abbrev pub IsRenumbered : ℕ → BadRow → BadRow → Type 0
IsRenumbered rows (bads.At row column why) bad = (bad ≡ bads.At (row + rows) column why) ⊎ (bad ≡ bads.Memory)
IsRenumbered rows bads.Memory bad = bad ≡ bads.Memory

-- the rows of the prefix followed by those of the rest, or the bad row of the rest
abbrev pub IsJoined : List (List Value) → Result (List (List Value)) BadRow → Result (List (List Value)) BadRow → Type 0
IsJoined prefix (Ok more) (Ok rows) = rows ≡ prefix ++ more
IsJoined prefix (Ok more) (Err bad) = bad ≡ bads.Memory
IsJoined prefix (Err of_rest) (Err bad) = IsRenumbered (length prefix) of_rest bad
IsJoined prefix (Err of_rest) (Ok rows) = ⊥
