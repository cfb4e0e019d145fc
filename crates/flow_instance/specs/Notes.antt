-- Lists of notes.
use Rattle.std.specs.Prelude.{◌≡◌, ◌<◌, ℕ, Bool, true, false, List, [], ◌∷◌, ◌++◌, length}
use Rattle.pact_record.specs.Widths.{AreWide}
use Rattle.pact_operators.specs.Allowed.{Bag}
use Rattle.flow_instance.specs.declared.notes.Note.{Note}
use Rattle.flow_instance.specs.declared.notes.Note.TheVariants.{Batch, End}

-- the records of the batches
abbrev pub rows_of : List Note → Bag
rows_of [] = []
rows_of (Batch rows ∷ notes) = rows ++ rows_of notes
rows_of (End ∷ notes) = rows_of notes

-- whether the list has an end mark
abbrev pub has_end : List Note → Bool
has_end [] = false
has_end (Batch rows ∷ notes) = has_end notes
has_end (End ∷ notes) = true

-- A list of nonempty batches, each record of which has this number of fields, and at most one end mark, which is last.
abbrev pub AreNotes : ℕ → List Note → Type 0
AreNotes fields [] = Unit {0}
AreNotes fields (Batch rows ∷ notes) = (0 < length rows) × AreWide fields rows × AreNotes fields notes
AreNotes fields (End ∷ notes) = notes ≡ []

-- a note that such a list may have
abbrev pub IsNote : ℕ → Note → Type 0
IsNote fields (Batch rows) = (0 < length rows) × AreWide fields rows
IsNote fields End = Unit {0}
