-- Instances that are listed because they may be able to go on.
use Rattle.std.specs.Prelude.{◌≡◌, ◌+◌, ◌++◌, ◌∷◌, ◌&&◌, ◌==◌, [], ℕ, Bool, true, false, cond, if◌then◌else◌, Option, None, Some, List, get_or, set}

-- The instances by the numbers of their operators and workers, the next one last. The marks say for each number and
-- worker whether the instance is on the stack.
pub record ReadyData : Type 0 where
  pub stack : List (ℕ × ℕ)
  pub marks : List (List Bool)

-- whether an instance is marked; an instance without a mark counts as marked
abbrev pub is_marked : List (List Bool) → (at worker : ℕ) → Bool
is_marked marks at worker = get_or (get_or marks at []) worker true

-- the marks, with a new mark for an instance that has one
abbrev pub with_mark : List (List Bool) → (at worker : ℕ) → Bool → List (List Bool)
with_mark marks at worker mark = set marks at (set (get_or marks at []) worker mark)

-- how often an instance is on the stack
abbrev pub times : (at worker : ℕ) → List (ℕ × ℕ) → ℕ
times at worker [] = 0
times at worker (i ∷ is) = cond ((at == i.0) && (worker == i.1)) 1 0 + times at worker is

-- Each instance that has a mark and is marked is on the stack once, and no other is on it. So the stack is never longer
-- than the number of marks.
abbrev pub IsKept : List (ℕ × ℕ) → List (List Bool) → Type 0
IsKept stack marks = (at worker : ℕ) → times at worker stack ≡ cond (get_or (get_or marks at []) worker false) 1 0

-- with the instance as the next one, and marked; if it was marked already, nothing changes
abbrev pub pushed : ReadyData → (at worker : ℕ) → ReadyData
pushed r at worker =
    if is_marked r.marks at worker then r else record { stack = r.stack ++ (at, worker) ∷ []; marks = with_mark r.marks at worker true }

-- The next one was removed and isn't marked any more; or there was none.
abbrev pub IsPopped : ReadyData → Option (ℕ × ℕ) → ReadyData → Type 0
IsPopped old None new = (old.stack ≡ []) × (new ≡ old)
IsPopped old (Some i) new = (old.stack ≡ new.stack ++ i ∷ []) × (new.marks ≡ with_mark old.marks i.0 i.1 false)
