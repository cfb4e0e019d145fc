-- The lines of a text take a reader through one run, and the state that it reaches determines the first fault.
use Rattle.std.proofs.Common.{◌≡◌, ◌≢◌, inl, inr, ℕ, ◌+◌, max, List, [], ◌∷◌, ◌++◌, map, length, Option, Some, refl, sym, subst, ◌∙◌, append_assoc, append-nil}
use Rattle.text_lines.specs.CanonicalLines.{AreLineWords, canonical_line}
use Rattle.text_lines.specs.declared.faults.NotRead.{NotRead}
use Rattle.text_lines.specs.declared.faults.NotRead.TheVariants.{Fault, Memory}
use Rattle.text_lines.specs.LineGrammar.{LineWord}
use Rattle.text_lines.specs.TextLines.{HasWords, Say, trimmed}
use Rattle.text_lines.specs.FirstFaults.{IsStart, IsFaultless, HasFault, IsPlaceBehind, IsFaultyLine, EndsEarly, IsLineFault, told_at, TellsFirst}
use Rattle.text_lines.specs.LineReading.{HasCause}
use Rattle.text_lines.specs.Runs.{Steps, Runs, AreSayings, TellsFaults}
use Rattle.text_lines.proofs.WordReading.{IsLine-unique, ¬HasLineFault-IsLine}
use Rattle.text_lines.proofs.CanonicalLines.{AreLineWords-IsLine, HasWords-canonical_line}

-- ---- runs

pub Runs-append : {State Saying : Type 0} (words : Saying → List LineWord) (May : State → Saying → Type 0) (step : State → Saying → State) (s t u : State) (a b : List (List ℕ))
    → Runs words May step s a t → Runs words May step t b u → Runs words May step s (a ++ b) u
Runs-append words May step s t u [] b p q = subst (λ (x : _). Runs words May step x b u) (sym p) q
Runs-append words May step s t u (line ∷ a) b (inl p) q = inl (p.0, Runs-append words May step s t u a b p.1 q)
Runs-append words May step s t u (line ∷ a) b (inr p) q = inr (p.0, p.1, p.2, Runs-append words May step (step s p.0) t u a b p.3 q)

pub Runs-parts : {State Saying : Type 0} (words : Saying → List LineWord) (May : State → Saying → Type 0) (step : State → Saying → State) (s u : State) (a b : List (List ℕ))
    → Runs words May step s (a ++ b) u → (t : State) × Runs words May step s a t × Runs words May step t b u
Runs-parts words May step s u [] b p = (s, refl, p)
Runs-parts words May step s u (line ∷ a) b (inl p) = let q = Runs-parts words May step s u a b p.1 in (q.0, inl (p.0, q.1), q.2)
Runs-parts words May step s u (line ∷ a) b (inr p) = let q = Runs-parts words May step (step s p.0) u a b p.3 in (q.0, inr (p.0, p.1, p.2, q.1), q.2)

-- A line without words says nothing.
silent : {State Saying : Type 0} (words : Saying → List LineWord) (May : State → Saying → Type 0) → AreSayings words May
    → (s : State) (l : Saying) (line : List ℕ) → HasWords line [] → May s l → ¬ HasWords line (words l)
silent words May h s l line none may some = h.some s l may (IsLine-unique (trimmed line) (words l) [] some none)

pub Runs-unique : {State Saying : Type 0} (words : Saying → List LineWord) (May : State → Saying → Type 0) (step : State → Saying → State) → AreSayings words May
    → (s t u : State) (lines : List (List ℕ)) → Runs words May step s lines t → Runs words May step s lines u → t ≡ u
Runs-unique words May step h s t u [] p q = sym p ∙ q
Runs-unique words May step h s t u (line ∷ lines) (inl p) (inl q) = Runs-unique words May step h s t u lines p.1 q.1
Runs-unique words May step h s t u (line ∷ lines) (inl p) (inr q) = absurd (silent words May h s q.0 line p.0 q.2 q.1)
Runs-unique words May step h s t u (line ∷ lines) (inr p) (inl q) = absurd (silent words May h s p.0 line q.0 p.2 p.1)
Runs-unique words May step h s t u (line ∷ lines) (inr p) (inr q) =
    let same = h.unique s p.0 q.0 p.2 q.2 (IsLine-unique (trimmed line) (words p.0) (words q.0) p.1 q.1) in
    Runs-unique words May step h (step s p.0) t u lines p.3 (subst (λ (l : _). Runs words May step (step s l) lines u) (sym same) q.3)

-- Lines take a reader along if each of their sayings is allowed.
pub Runs-said : {State Saying : Type 0} (words : Saying → List LineWord) (May : State → Saying → Type 0) (step : State → Saying → State) (s t : State) (lines : List (List ℕ)) (said : List (List LineWord)) (ls : List Saying)
    → Say lines said → said ≡ map words ls → Steps May step s ls t → Runs words May step s lines t
Runs-said words May step s t [] said [] p e q = q
Runs-said words May step s t [] said (l ∷ ls) p e q = let bad : words l ∷ map words ls ≡ [] = sym e ∙ p in absurd cc
Runs-said words May step s t (line ∷ lines) said ls (inl p) e q = inl (p.0, Runs-said words May step s t lines said ls p.1 e q)
Runs-said words May step s t (line ∷ lines) said [] (inr p) e q = let bad : p.0 ∷ p.1 ≡ [] = sym p.2 ∙ e in absurd cc
Runs-said words May step s t (line ∷ lines) said (l ∷ ls) (inr p) e q =
    let both : p.0 ∷ p.1 ≡ words l ∷ map words ls = sym p.2 ∙ e in
    let first : p.0 ≡ words l = cc in
    let others : p.1 ≡ map words ls = cc in
    inr (l, subst (HasWords line) first p.4, q.0, Runs-said words May step (step s l) t lines p.1 ls p.5 others q.1)

pub said_by_run : {State Saying : Type 0} (words : Saying → List LineWord) (May : State → Saying → Type 0) (step : State → Saying → State) → AreSayings words May
    → (s t : State) (lines : List (List ℕ)) → Runs words May step s lines t → (ls : List Saying) × Say lines (map words ls) × Steps May step s ls t
said_by_run words May step h s t [] p = ([], refl, p)
said_by_run words May step h s t (line ∷ lines) (inl p) = let q = said_by_run words May step h s t lines p.1 in (q.0, inl (p.0, q.1), q.2)
said_by_run words May step h s t (line ∷ lines) (inr p) =
    let q = said_by_run words May step h (step s p.0) t lines p.3 in
    (p.0 ∷ q.0, inr (words p.0, map words q.0, refl, h.some s p.0 p.2, p.1, q.1), (p.2, q.2))

-- ---- steps

pub Steps-append : {State Saying : Type 0} (May : State → Saying → Type 0) (step : State → Saying → State) (s t u : State) (a b : List Saying)
    → Steps May step s a t → Steps May step t b u → Steps May step s (a ++ b) u
Steps-append May step s t u [] b p q = subst (λ (x : _). Steps May step x b u) (sym p) q
Steps-append May step s t u (l ∷ a) b p q = (p.0, Steps-append May step (step s l) t u a b p.1 q)

-- A property that one more step keeps is kept by all steps.
pub Steps-kept : {State Saying : Type 0} (May : State → Saying → Type 0) (step : State → Saying → State) (P : State → List Saying → Type 0)
    → ((s : State) (l : Saying) (ls : List Saying) → P s ls → May s l → P (step s l) (ls ++ l ∷ [])) → (s t : State) (ls more : List Saying) → P s ls → Steps May step s more t → P t (ls ++ more)
Steps-kept May step P on s t ls [] h p = subst (P t) (sym (append-nil ls)) (subst (λ (x : _). P x ls) p h)
Steps-kept May step P on s t ls (l ∷ more) h p = subst (P t) (append_assoc ls (l ∷ []) more) (Steps-kept May step P on (step s l) t (ls ++ l ∷ []) more (on s l ls h p.0) p.1)

-- Allowed sayings can be written as a text.
written_steps : {State Saying : Type 0} (words : Saying → List LineWord) (May : State → Saying → Type 0) (step : State → Saying → State) → ((s : State) (l : Saying) → May s l → AreLineWords (words l))
    → (s t : State) (ls : List Saying) → Steps May step s ls t → (lines : List (List ℕ)) × Runs words May step s lines t
written_steps words May step good s t [] p = ([], p)
written_steps words May step good s t (l ∷ ls) p =
    let rest = written_steps words May step good (step s l) t ls p.1 in
    (canonical_line 0 (words l) ∷ rest.0, inr (l, HasWords-canonical_line 0 (words l) (good s l p.0), p.0, rest.1))

-- Lines begin a whole text if steps to a whole one can follow theirs.
pub IsStart-run : {State Saying : Type 0} (Whole : List (List ℕ) → Type 0) (words : Saying → List LineWord) (May : State → Saying → Type 0) (step : State → Saying → State) (start : State)
    → AreSayings words May → ((s : State) (l : Saying) → May s l → AreLineWords (words l))
    → ((s : State) (ls : List Saying) → Steps May step start ls s → (more : List Saying) × (t : State) × Steps May step s more t × ((text : List (List ℕ)) → Runs words May step start text t → Whole text))
    → (front : List (List ℕ)) (s : State) → Runs words May step start front s → IsStart Whole front
IsStart-run Whole words May step start h good finish front s run =
    let said = said_by_run words May step h start s front run in
    let rest = finish s said.0 said.2 in
    let more = written_steps words May step good s rest.1 rest.0 rest.2 in
    (more.0, rest.3 (front ++ more.0) (Runs-append words May step start s rest.1 front more.0 run more.1))

-- ---- faults

-- A grammar and a reader of it: each whole text takes the reader somewhere, and each text that takes it somewhere can
-- become whole.
pub record Reads {State Saying : Type 0} (Whole : List (List ℕ) → Type 0) (words : Saying → List LineWord) (May : State → Saying → Type 0) (step : State → Saying → State) (start : State) : Type 0 where
  pub whole : (text : List (List ℕ)) → Whole text → (t : State) × Runs words May step start text t
  pub begins : (front : List (List ℕ)) (s : State) → Runs words May step start front s → IsStart Whole front

pub one_line : {State Saying : Type 0} (words : Saying → List LineWord) (May : State → Saying → Type 0) (step : State → Saying → State) (fault : State → List LineWord → Option ℕ) → TellsFaults words May fault
    → (s t : State) (line : List ℕ) (lines : List (List ℕ)) → Runs words May step s (line ∷ lines) t → IsFaultless (fault s) line
one_line words May step fault f s t line lines (inl p) = ([], p.0, f.none s)
one_line words May step fault f s t line lines (inr p) = (words p.0, p.1, f.sound s p.0 p.2)

goes_on : {State Saying : Type 0} (words : Saying → List LineWord) (May : State → Saying → Type 0) (step : State → Saying → State) (fault : State → List LineWord → Option ℕ) → TellsFaults words May fault
    → (s : State) (line : List ℕ) → IsFaultless (fault s) line → (t : State) × Runs words May step s (line ∷ []) t
goes_on words May step fault f s line ([], p, e) = (s, inl (p, refl))
goes_on words May step fault f s line (w ∷ ws, p, e) =
    let some : (w ∷ ws) ≢ [] = λ bad. absurd cc in
    let said = f.complete s (w ∷ ws) some (AreLineWords-IsLine (trimmed line) (w ∷ ws) p) e in
    (step s said.0, inr (said.0, subst (HasWords line) said.1 p, said.2, refl))

pub place_behind : {State Saying : Type 0} (Whole : List (List ℕ) → Type 0) (words : Saying → List LineWord) (May : State → Saying → Type 0) (step : State → Saying → State) (start : State) (fault : State → List LineWord → Option ℕ)
    → AreSayings words May → TellsFaults words May fault → Reads Whole words May step start
    → (front : List (List ℕ)) (s : State) → Runs words May step start front s → IsPlaceBehind Whole (fault s) front
place_behind Whole words May step start fault h f r front s run line = (
  λ begun.
      let all = r.whole ((front ++ line ∷ []) ++ begun.0) begun.1 in
      let moved = subst (λ (text : List (List ℕ)). Runs words May step start text all.0) (append_assoc front (line ∷ []) begun.0) all.1 in
      let parts = Runs-parts words May step start all.0 front (line ∷ begun.0) moved in
      let same = Runs-unique words May step h start parts.0 s front parts.1 run in
      one_line words May step fault f s all.0 line begun.0 (subst (λ (x : _). Runs words May step x (line ∷ begun.0) all.0) same parts.2),
  λ faultless.
      let more = goes_on words May step fault f s line faultless in
      r.begins (front ++ line ∷ []) more.0 (Runs-append words May step start s more.0 front (line ∷ []) run more.1),
)

-- the fault of a line that has no words
pub IsLineFault-HasCause : (fault : List LineWord → Option ℕ) (e : NotRead) (bytes line : List ℕ) → bytes ≡ trimmed line → HasCause e bytes → IsLineFault fault e line
IsLineFault-HasCause fault (Fault what) bytes line same h = inl (subst (HasCause (Fault what)) same h)
IsLineFault-HasCause fault Memory bytes line same h = tt

pub ¬HasFault-IsFaultless : (fault : List LineWord → Option ℕ) (line : List ℕ) (what : ℕ) → HasFault fault line what → ¬ IsFaultless fault line
¬HasFault-IsFaultless fault line what (inl p) h = ¬HasLineFault-IsLine (trimmed line) h.0 what h.1 p
¬HasFault-IsFaultless fault line what (inr p) h =
    let same = IsLine-unique (trimmed line) p.0 h.0 p.1 h.1 in
    let told : fault h.0 ≡ Some what = subst (λ (ws : List LineWord). fault ws ≡ Some what) same p.2 in
    let none = h.2 in
    cc

IsFaultyLine-run : {State Saying Place : Type 0} (Whole : List (List ℕ) → Type 0) (words : Saying → List LineWord) (May : State → Saying → Type 0) (step : State → Saying → State) (start : State) (place_of : State → Place) (fault : Place → List LineWord → Option ℕ)
    → AreSayings words May → TellsFaults words May (λ x. fault (place_of x)) → Reads Whole words May step start
    → (text front later : List (List ℕ)) (line : List ℕ) (number what : ℕ) (s : State) → Runs words May step start front s → text ≡ front ++ line ∷ later → number ≡ length front + 1
    → HasFault (fault (place_of s)) line what → IsFaultyLine Whole fault text number what
IsFaultyLine-run Whole words May step start place_of fault h f r text front later line number what s run lines numbered told =
    let place = place_behind Whole words May step start (λ x. fault (place_of x)) h f r front s run in
    record {
      front = front;
      line = line;
      later = later;
      place = place_of s;
      lines = lines;
      numbered = numbered;
      begins = r.begins front s run;
      no_longer = λ more. ¬HasFault-IsFaultless (fault (place_of s)) line what told ((place line).0 more);
      place_behind = place;
      told = told;
    }

-- the fault of the line after a run
pub TellsFirst-line : {State Saying Place : Type 0} (Whole : List (List ℕ) → Type 0) (words : Saying → List LineWord) (May : State → Saying → Type 0) (step : State → Saying → State) (start : State) (place_of : State → Place) (fault : Place → List LineWord → Option ℕ) (missing : Place → Option ℕ)
    → AreSayings words May → TellsFaults words May (λ x. fault (place_of x)) → Reads Whole words May step start
    → (text front later : List (List ℕ)) (line : List ℕ) (number : ℕ) (s : State) (why : NotRead) → Runs words May step start front s → text ≡ front ++ line ∷ later → number ≡ length front + 1
    → IsLineFault (fault (place_of s)) why line → TellsFirst Whole fault missing (told_at number why) text
TellsFirst-line Whole words May step start place_of fault missing h f r text front later line number s (Fault what) run lines numbered told =
    inl (IsFaultyLine-run Whole words May step start place_of fault h f r text front later line number what s run lines numbered told)
TellsFirst-line Whole words May step start place_of fault missing h f r text front later line number s Memory run lines numbered told = tt

pub EndsEarly-run : {State Saying Place : Type 0} (Whole : List (List ℕ) → Type 0) (words : Saying → List LineWord) (May : State → Saying → Type 0) (step : State → Saying → State) (start : State) (place_of : State → Place) (fault : Place → List LineWord → Option ℕ) (missing : Place → Option ℕ)
    → AreSayings words May → TellsFaults words May (λ x. fault (place_of x)) → Reads Whole words May step start
    → (text : List (List ℕ)) (number what : ℕ) (s : State) → Runs words May step start text s → ¬ Whole text → number ≡ max 1 (length text) → missing (place_of s) ≡ Some what
    → EndsEarly Whole fault missing text number what
EndsEarly-run Whole words May step start place_of fault missing h f r text number what s run unfinished numbered told = record {
  place = place_of s;
  begins = r.begins text s run;
  not_whole = unfinished;
  place_behind = place_behind Whole words May step start (λ x. fault (place_of x)) h f r text s run;
  told = told;
  numbered = numbered;
}
