-- The rule of a pipe: what was put is what was taken, followed by what the queue holds, and each record has the pipe's number of values.
use Rattle.std.specs.Prelude.{◌≡◌, ℕ, Bool, true, List, ◌++◌}
use mathlib.Core.Option.{some}
use lib.ListN.{get_elem?}
use Rattle.flow_instance.specs.declared.notes.Note.{Note}
use Rattle.batch_channel.specs.declared.rules.View.{View}
use Rattle.std.specs.List.{AllByRecursion}
use Rattle.flow_instance.specs.Notes.{IsNote}

-- each record of the notes has this number of values
abbrev pub HoldsNotes : ℕ → List Note → Type 0
HoldsNotes fields notes = AllByRecursion (IsNote fields) notes

-- what a pass knows, made from its parts
abbrev pub view_of : Bool → Bool → List Note → List Note → View
view_of puts takes put taken = record { puts = puts; takes = takes; put = put; taken = taken }

-- Only one pass, the writer, has a view that may put, and that view knows the notes put. Only one pass, the reader, has
-- a view that may take, and that view knows the notes taken.
pub record IsView (writer reader : ℕ) (put taken : List Note) (pass : ℕ) (v : View) : Type 0 where
  pub puts : v.puts ≡ true → (pass ≡ writer) × (v.put ≡ put)
  pub takes : v.takes ≡ true → (pass ≡ reader) × (v.taken ≡ taken)

-- The rule, for the queue's notes, the oldest first, and the view of each pass.
pub record IsPiped (fields : ℕ) (items : List Note) (views : List View) : Type 0 where
  pub writer : ℕ
  pub reader : ℕ
  pub put : List Note
  pub taken : List Note
  pub whole : put ≡ taken ++ items
  pub notes : HoldsNotes fields items
  pub knows : (pass : ℕ) (v : View) → get_elem? views pass ≡ some v → IsView writer reader put taken pass v

-- at one moment of the call the queue held the last of the notes put
abbrev pub IsBehind : View → List Note → Type 0
IsBehind v items = (taken : List Note) × (v.put ≡ taken ++ items)
