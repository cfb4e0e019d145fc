-- Warm walks, in which a loop begins from where it settled before: the order of states by what they know, what may be
-- stored about a loop when a body is reached again, and what each walk of the code requires and does.
use Rattle.std.specs.Prelude.{◌≡◌, ◌≤◌, ◌<◌, ◌+◌, ◌++◌, ℕ, Bool, true, false, ◌⊎◌, Option, Some, None, List, [], ◌∷◌, length}
use Rattle.std.specs.List.{AllByRecursion}
use Rattle.tac_syntax.specs.Limits.{value_registers, record_registers}
use Rattle.tac_syntax.specs.Contexts.{IsBelow, AreOfFields}
use Rattle.tac_syntax.specs.Code.{Simple, set_field, Code, stop, plain, branch, again, each}
use Rattle.tac_syntax.specs.Trees.{Statement, one_line}
use Rattle.tac_flow.specs.Known.{FieldSet, Side, Base, some, nowhere, Origin, unknown, side_of, Known, Held, State, joined, dropped}
use Rattle.tac_flow.specs.Steps.{Scope, is_copy, record_at, value_at, transfer}
use Rattle.tac_flow.specs.Walks.{side_of_list, settled, walk, notes}
use Rattle.tac_flow.specs.Results.{Gathered}
use Rattle.tac_flow.specs.Gathering.{gather}
use Rattle.tac_flow.specs.Memos.{Memos, is_large, place, places, memo_at, begun, dropped_any}

-- ---- invariants of every state of a walk

abbrev pub IsSmallScope : Scope → Type 0
IsSmallScope c = AreOfFields c.fields c.left c.right c.left_keys c.right_keys

pub record IsSmallHeld (n : ℕ) (h : Held) : Type 0 where
  pub changed : IsBelow n h.changed
  pub depends : IsBelow n h.depends

abbrev pub IsSmallKnown : ℕ → Known → Type 0
IsSmallKnown n v = IsBelow n v.deps

-- each set has only fields below the bound, and all registers exist
pub record IsSmall (n : ℕ) (k : State) : Type 0 where
  pub values : AllByRecursion (IsSmallKnown n) k.values
  pub records : AllByRecursion (IsSmallHeld n) k.records
  pub value_count : length k.values ≡ value_registers
  pub record_count : length k.records ≡ record_registers

-- if no base is left, all fields have changed
abbrev pub IsLoose : ℕ → Held → Type 0
IsLoose n h = h.base ≡ nowhere → (k : ℕ) → k < n → h.changed k ≡ true

pub record IsSound (c : Scope) (k : State) : Type 0 where
  pub small : IsSmall c.fields k
  pub loose : AllByRecursion (IsLoose c.fields) k.records

-- ---- which states know less

abbrev pub Sub : FieldSet → FieldSet → Type 0
Sub s t = (k : ℕ) → s k ≡ true → t k ≡ true

-- a base is loosened to itself, to some record of its side, or to none
abbrev pub Loosens : Base → Base → Type 0
Loosens a b = (b ≡ a) ⊎ ((side : Side) × (side_of a ≡ Some side) × (b ≡ some side)) ⊎ (b ≡ nowhere)

abbrev pub Forgets : Origin → Origin → Type 0
Forgets a b = (b ≡ a) ⊎ (b ≡ unknown)

pub record KnowsLess (v w : Known) : Type 0 where
  pub deps : Sub v.deps w.deps
  pub origin : Forgets v.origin w.origin

pub record HoldsLess (g h : Held) : Type 0 where
  pub base : Loosens g.base h.base
  pub changed : Sub g.changed h.changed
  pub depends : Sub g.depends h.depends
  pub missing : (k : ℕ) → h.changed k ≡ true → g.changed k ≡ false → h.depends k ≡ true

-- place by place
abbrev pub Both : {A B : Type 0} → (A → B → Type 0) → List A → List B → Type 0
Both P [] [] = Unit {0}
Both P [] (y ∷ ys) = ⊥
Both P (x ∷ xs) [] = ⊥
Both P (x ∷ xs) (y ∷ ys) = P x y × Both P xs ys

pub record IsLess (a b : State) : Type 0 where
  pub values : Both KnowsLess a.values b.values
  pub records : Both HoldsLess a.records b.records

-- ---- fields that are put back

-- a value that is put back depends on the field
abbrev pub IsPlainCopy : Scope → Held → Known → ℕ → Type 0
IsPlainCopy c h v field = is_copy c h.base v.origin field ≡ true → v.deps field ≡ true

abbrev pub IsCleanHere : Scope → Simple → State → Type 0
IsCleanHere c (set_field to field value) k = IsPlainCopy c (record_at c.fields k to) (value_at k value) field
IsCleanHere c s k = Unit {0}

-- each value that is put back on a walk from this state depends on its field; for a loop, in its first turn
abbrev pub IsClean : Scope → List Side → Code → State → Type 0
IsClean c sides stop k = Unit {0}
IsClean c sides (plain s next) k = IsCleanHere c s k × IsClean c sides next (transfer c sides s k)
IsClean c sides (branch on body other next) k = IsClean c sides body k × IsClean c sides other k × IsClean c sides next (joined c.fields (walk c sides body k) (walk c sides other k))
IsClean c sides (again count body next) k = IsClean c sides body k × IsClean c sides next (walk c sides body (settled c.fields (walk c sides body) k))
IsClean c sides (each name list body next) k =
    let inside = sides ++ side_of_list list ∷ [] in
    IsClean c inside body (dropped name k) × IsClean c sides next (settled c.fields (λ j. dropped name (walk c inside body j)) (dropped name k))

-- ---- what is stored about loops

-- The stored state of a loop knows at least what is known where the loop settles from this state, and another turn
-- doesn't change it.
abbrev pub IsKept : Scope → (State → Type 0) → (State → State) → Option State → State → Type 0
IsKept c Q turn None k = Unit {0}
IsKept c Q turn (Some m) k = IsSound c m × IsLess m (settled c.fields turn k) × Q k × (joined c.fields m (turn m) ≡ m)

abbrev pub Fits : Scope → ℕ → List Side → Code → ℕ → Memos → State → Type 0
Fits c least sides stop n ms k = Unit {0}
Fits c least sides (plain a next) n ms k = Fits c least sides next n ms (transfer c sides a k)
Fits c least sides (branch on body other next) n ms k =
    Fits c least sides body n ms k × Fits c least sides other (n + places least body) ms k × Fits c least sides next (n + places least body + places least other) ms (joined c.fields (walk c sides body k) (walk c sides other k))
Fits c least sides (again count body next) n ms k =
    let large = is_large least body in
    (IsKept c (IsClean c sides body) (walk c sides body) (memo_at large ms n) k × Fits c least sides body (n + place large) ms (begun c.fields (memo_at large ms n) k))
    × Fits c least sides next (n + place large + places least body) ms (walk c sides body (settled c.fields (walk c sides body) k))
Fits c least sides (each name list body next) n ms k =
    let large = is_large least body in
    let inside = sides ++ side_of_list list ∷ [] in
    let turn : State → State = λ j. dropped name (walk c inside body j) in
    (IsKept c (IsClean c inside body) turn (memo_at large ms n) (dropped name k) × Fits c least inside body (n + place large) ms (begun c.fields (memo_at large ms n) (dropped name k)))
    × Fits c least sides next (n + place large + places least body) ms (settled c.fields turn (dropped name k))

-- what a warm walk has done
pub record IsWarmed (c : Scope) (least : ℕ) (sides : List Side) (code : Code) (n : ℕ) (k : State) (ms : Memos) (j : State) (after : Memos) : Type 0 where
  pub state : j ≡ walk c sides code k
  pub fits : Fits c least sides code n after k
  pub clean : IsClean c sides code k
  pub frame : (i : ℕ) → (i < n) ⊎ (n + places least code ≤ i) → after i ≡ ms i

-- A loop that was reached in state k has settled in state j.
pub record HasSettled (c : Scope) (least : ℕ) (large : Bool) (turn : State → State) (inside : List Side) (body : Code) (n : ℕ) (k : State) (first : Memos) (j : State) (ms : Memos) : Type 0 where
  pub is : j ≡ settled c.fields turn k
  pub sound : IsSound c j
  pub up : IsLess k j
  pub rests : joined c.fields j (turn j) ≡ j
  pub here : large ≡ true → ms n ≡ Some j
  pub fits : Fits c least inside body (n + place large) ms j
  pub clean : IsClean c inside body j → IsClean c inside body k
  pub frame : (i : ℕ) → (i < n) ⊎ (n + place large + places least body ≤ i) → ms i ≡ first i

-- ---- what the walks of the code require and do

-- a statement without a body inside
abbrev pub IsLine : Statement → Type 0
IsLine (one_line a) = Unit {0}
IsLine s = ⊥

pub record IsReady (c : Scope) (least : ℕ) (sides : List Side) (code : Code) (n : ℕ) (ms : Memos) (k : State) : Type 0 where
  pub scope : IsSmallScope c
  pub sound : IsSound c k
  pub fits : Fits c least sides code n ms k

pub record HasWarmed (c : Scope) (least : ℕ) (sides : List Side) (code : Code) (n : ℕ) (k : State) (ms : Memos) (j : State) (after : Memos) (g h : Gathered) : Type 0 where
  pub warmed : IsWarmed c least sides code n k ms j after
  pub noted : h ≡ gather (notes c sides code k) g

abbrev pub turn_of : Scope → List Side → Code → Option ℕ → State → State
turn_of c inside body name j = dropped_any name (walk c inside body j)

pub record IsReadyLoop (c : Scope) (least : ℕ) (inside : List Side) (body : Code) (name : Option ℕ) (n : ℕ) (ms : Memos) (k : State) : Type 0 where
  pub scope : IsSmallScope c
  pub sound : IsSound c k
  pub kept : IsKept c (IsClean c inside body) (turn_of c inside body name) (memo_at (is_large least body) ms n) k
  pub fits : Fits c least inside body (n + place (is_large least body)) ms (begun c.fields (memo_at (is_large least body) ms n) k)
