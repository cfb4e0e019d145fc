-- Lines of a text that take a reader from one state to another. A saying is what one line can say. A reader is given by
-- the words of each saying, by the sayings that are allowed in a state, and by the state after each.
use Rattle.std.specs.Prelude.{◌≡◌, ◌≢◌, ◌⊎◌, ℕ, List, [], ◌∷◌, Option, None}
use Rattle.text_lines.specs.CanonicalLines.{AreLineWords}
use Rattle.text_lines.specs.LineGrammar.{LineWord}
use Rattle.text_lines.specs.TextLines.{HasWords}

-- Each saying is allowed in the state before it.
abbrev pub Steps : {State Saying : Type 0} → (State → Saying → Type 0) → (State → Saying → State) → State → List Saying → State → Type 0
Steps May step s [] t = s ≡ t
Steps May step s (l ∷ ls) t = May s l × Steps May step (step s l) ls t

-- A line without words leaves the state as it is.
abbrev pub Runs : {State Saying : Type 0} → (Saying → List LineWord) → (State → Saying → Type 0) → (State → Saying → State) → State → List (List ℕ) → State → Type 0
Runs words May step s [] t = s ≡ t
Runs {Saying = Saying} words May step s (line ∷ lines) t =
    (HasWords line [] × Runs words May step s lines t) ⊎ ((l : Saying) × HasWords line (words l) × May s l × Runs words May step (step s l) lines t)

-- An allowed saying has words, and no two sayings that are allowed in one state have the same words.
pub record AreSayings {State Saying : Type 0} (words : Saying → List LineWord) (May : State → Saying → Type 0) : Type 0 where
  pub some : (s : State) (l : Saying) → May s l → words l ≢ []
  pub unique : (s : State) (l m : Saying) → May s l → May s m → words l ≡ words m → l ≡ m

-- Words that a line can have are faultless in a state exactly if there are none, or if they are those of a saying that
-- is allowed there.
pub record TellsFaults {State Saying : Type 0} (words : Saying → List LineWord) (May : State → Saying → Type 0) (fault : State → List LineWord → Option ℕ) : Type 0 where
  pub none : (s : State) → fault s [] ≡ None
  pub sound : (s : State) (l : Saying) → May s l → fault s (words l) ≡ None
  pub complete : (s : State) (ws : List LineWord) → ws ≢ [] → AreLineWords ws → fault s ws ≡ None → (l : Saying) × (ws ≡ words l) × May s l
