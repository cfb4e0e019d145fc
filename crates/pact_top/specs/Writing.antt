-- What writing a whole text to a sink results in.
-- `Gains`, `GainsFront` and `WritesLine` speak only of sinks that show their bytes. They say nothing of a sink whose bytes
-- aren't modelled (`None`).
use Rattle.std.specs.Prelude.{◌≡◌, ◌≤◌, ◌⊎◌, ℕ, List, ◌++◌, length, take, Option, Some, None, IfSome, Result, Ok, Err}
use Rattle.pact_outside.specs.Outside.{Rose}

-- a sink took these bytes
abbrev pub Gains : Option (List ℕ) → Option (List ℕ) → List ℕ → Type 0
Gains old new bytes = IfSome old (λ all. new ≡ Some (all ++ bytes))

-- a sink took a prefix of these bytes
abbrev pub GainsFront : Option (List ℕ) → Option (List ℕ) → List ℕ → Type 0
GainsFront old new bytes = IfSome old (λ all. (n : ℕ) × (n ≤ length bytes) × (new ≡ Some (all ++ take n bytes)))

-- a sink took a whole line; or its faults rose, and it took a prefix of the line
abbrev pub WritesLine : Option (List ℕ) → Option (List ℕ) → ℕ → ℕ → List ℕ → Type 0
WritesLine old new before now line = Gains old new line ⊎ (GainsFront old new line × Rose before now)

-- a sink took the text, if there is one, and is unchanged otherwise
abbrev pub GainsMore : Option (List ℕ) → Option (List ℕ) → Option (List ℕ) → Type 0
GainsMore old new None = new ≡ old
GainsMore old new (Some text) = Gains old new text

-- a sink failed after a prefix of a text, and then took a line, or a prefix of it
pub record WritesLineAfter (old new : Option (List ℕ)) (before now : ℕ) (text line : List ℕ) : Type 0 where
  pub middle : Option (List ℕ)
  pub faults : ℕ
  pub front : GainsFront old middle text
  pub rose : Rose before faults
  pub later : faults ≤ now
  pub told : WritesLine middle new faults now line

-- what a sink took of the text: the whole of it, or a prefix if the sink failed
abbrev pub WriteEnds : {T E : Type 0} → (old new : Option (List ℕ)) → (before now : ℕ) → List ℕ → Result T E → Type 0
WriteEnds old new before now text (Ok done) = Gains old new text
WriteEnds old new before now text (Err failed) = GainsFront old new text × Rose before now

-- a call that writes a text
pub record Writes {T E : Type 0} (old new : Option (List ℕ)) (before now : ℕ) (text : List ℕ) (result : Result T E) : Type 0 where
  pub later : before ≤ now
  pub ends : WriteEnds old new before now text result
