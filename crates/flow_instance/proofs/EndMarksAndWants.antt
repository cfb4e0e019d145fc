-- End marks in lists of notes, and what an instance wants.
use Rattle.std.proofs.Common.{◌≡◌, ◌≢◌, ℕ, Bool, true, false, List, [], ◌∷◌, ◌++◌, refl, subst}
use Rattle.std.specs.List.{AllByRecursion}
use Rattle.pact_operators.specs.Allowed.{Bag}
use Rattle.flow_instance.specs.declared.notes.Note.{Note}
use Rattle.flow_instance.specs.declared.notes.Note.TheVariants.{Batch, End as EndNote}
use Rattle.flow_instance.specs.declared.notes.Want.TheVariants.{Take, Put, End, Done}
use Rattle.flow_instance.specs.Instances.{want_by}
use Rattle.flow_instance.specs.Notes.{has_end, AreNotes}

-- no note follows an end mark
pub nothing_behind : (fields : ℕ) (xs ys : List Note) → AreNotes fields (xs ++ ys) → has_end xs ≡ true → ys ≡ []
nothing_behind fields [] ys h e = absurd cc
nothing_behind fields (Batch rows ∷ xs) ys h e = nothing_behind fields xs ys h.2 e
nothing_behind fields (EndNote ∷ []) ys h e = h
nothing_behind fields (EndNote ∷ x ∷ xs) ys h e = absurd (cc)

-- ---- what an instance wants

pub takes_first : (ws : List (ℕ × Bag)) (ms : List ℕ) (b f : Bool) → ((to : ℕ) → want_by ws ms false b f ≢ Put to) → want_by ws ms false b f ≡ Take 0
takes_first (w ∷ ws) ms b f h = absurd (h w.0 refl)
takes_first [] (m ∷ ms) b f h = absurd (h m refl)
takes_first [] [] b f h = refl

pub takes_second : (ws : List (ℕ × Bag)) (ms : List ℕ) (f : Bool) → ((to : ℕ) → want_by ws ms true false f ≢ Put to) → want_by ws ms true false f ≡ Take 1
takes_second (w ∷ ws) ms f h = absurd (h w.0 refl)
takes_second [] (m ∷ ms) f h = absurd (h m refl)
takes_second [] [] f h = refl

pub ends : (ws : List (ℕ × Bag)) (ms : List ℕ) (f : Bool) → ((to : ℕ) → want_by ws ms true true f ≢ Put to) → want_by ws ms true true f ≢ End → want_by ws ms true true f ≡ Done
ends (w ∷ ws) ms f h e = absurd (h w.0 refl)
ends [] (m ∷ ms) f h e = absurd (h m refl)
ends [] [] false h e = absurd (e refl)
ends [] [] true h e = refl

-- the state of a finished instance
pub record IsFinished (ws : List (ℕ × Bag)) (ms : List ℕ) (a b f : Bool) : Type 0 where
  pub waiting : ws ≡ []
  pub marks : ms ≡ []
  pub first : a ≡ true
  pub second : b ≡ true
  pub finished : f ≡ true

pub finished_by : (ws : List (ℕ × Bag)) (ms : List ℕ) (a b f : Bool) → want_by ws ms a b f ≡ Done → IsFinished ws ms a b f
finished_by [] [] true true true e = record { waiting = refl; marks = refl; first = refl; second = refl; finished = refl }
finished_by ws ms a b f e = absurd (cc)

-- if a property holds for the receiver of each note that waits, it holds for the receiver of the next put
pub put_to : (P : ℕ → Type 0) (Q : ℕ × Bag → Type 0) (ws : List (ℕ × Bag)) (ms : List ℕ) (a b f : Bool) (to : ℕ) → ((w : ℕ × Bag) → Q w → P w.0) → AllByRecursion Q ws → AllByRecursion P ms
    → want_by ws ms a b f ≡ Put to → P to
put_to P Q (w ∷ ws) ms a b f to h p q e = let same : w.0 ≡ to = cc in subst P same (h w p.0)
put_to P Q [] (m ∷ ms) a b f to h p q e = let same : m ≡ to = cc in subst P same q.0
put_to P Q [] [] false b f to h p q e = absurd (cc)
put_to P Q [] [] true false f to h p q e = absurd (cc)
put_to P Q [] [] true true false to h p q e = absurd (cc)
put_to P Q [] [] true true true to h p q e = absurd (cc)
