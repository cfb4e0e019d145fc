-- The bytes of a text, wherever they are stored. No public clause cites this module.
use Rattle.std.specs.Prelude.{ℕ, List}
use Rattle.pact_record.specs.declared.text_storage.Storage.{Storage}
use Rattle.pact_record.specs.declared.text_storage.Storage.TheVariants.{InPlace, Small, Medium, Large, Longer}

abbrev pub stored_bytes : Storage → List ℕ
stored_bytes (InPlace bytes) = bytes
stored_bytes (Small b) = b.value
stored_bytes (Medium b) = b.value
stored_bytes (Large b) = b.value
stored_bytes (Longer b) = b.value.items
