-- Work in stages: which files a stage reads, which ends it can have, and how one stage follows another.
use Rattle.std.specs.Prelude.{◌≡◌, ◌++◌, ℕ, List, [], ◌∷◌}

-- a file that is opened and read, to its end or to one byte past its limit
pub record Reading : Type 0 where
  pub name : List ℕ
  pub limit : ℕ

pub data End (A : Type 0) : Type 0 where
  -- a value
  gives : (value : A) → End A
  -- a refusal, by its status and its line
  stops : (status : ℕ) → (line : List ℕ) → End A
  -- there is no file of that name
  misses : (name : List ℕ) → End A
  -- the file of that name can't be read, though it may be there
  fails : (name : List ℕ) → End A

-- `Ends readings end`: the stage reads exactly these files, one after the other, and then has this end.
pub record Stage (A : Type 0) : Type 1 where
  pub Ends : List Reading → End A → Type 0

-- After a value, the next stage determines the end. Any other end is final, and no file is read after it.
abbrev pub Follows : {A B : Type 0} → (A → Stage B) → End A → List Reading → End B → Type 0
Follows next (gives value) later end = (next value).Ends later end
Follows next (stops status line) later end = (later ≡ []) × (end ≡ stops status line)
Follows next (misses name) later end = (later ≡ []) × (end ≡ misses name)
Follows next (fails name) later end = (later ≡ []) × (end ≡ fails name)

abbrev pub and_then : {A B : Type 0} → Stage A → (A → Stage B) → Stage B
and_then {A} stage next = record {
  Ends = λ readings end. (first : End A) × (front : List Reading) × (later : List Reading) × (readings ≡ front ++ later) × stage.Ends front first × Follows next first later end;
}

abbrev pub PlainEnds : {A : Type 0} → (A → Type 0) → (ℕ → List ℕ → Type 0) → End A → Type 0
PlainEnds Gives Stops (gives value) = Gives value
PlainEnds Gives Stops (stops status line) = Stops status line
PlainEnds Gives Stops end = ⊥

-- a stage that reads no file
abbrev pub plain : {A : Type 0} → (A → Type 0) → (ℕ → List ℕ → Type 0) → Stage A
plain Gives Stops = record { Ends = λ readings end. (readings ≡ []) × PlainEnds Gives Stops end }

-- a stage that reads no file and never stops
abbrev pub give : {A : Type 0} → (A → Type 0) → Stage A
give Gives = plain Gives (λ status line. ⊥)

-- one stage for each of some items, in their order
abbrev pub each : {A B : Type 0} → (A → Stage B) → List A → Stage (List B)
each stage [] = give (λ values. values ≡ [])
each stage (item ∷ items) = and_then (stage item) (λ value. and_then (each stage items) (λ values. give (λ all. all ≡ value ∷ values)))

-- the stage can have this end, for some files read
pub record CanEnd {A : Type 0} (stage : Stage A) (end : End A) : Type 0 where
  pub readings : List Reading
  pub ends : stage.Ends readings end
