-- What is stored about the loops of a body: for each large loop the state in which it settled last. Their places are
-- numbered in text order.
use Rattle.std.specs.Prelude.{ℕ, ◌+◌, ◌==◌, Bool, true, false, leb, if◌then◌else◌, Option, Some, None, List, get_or}
use Rattle.tac_syntax.specs.Code.{Code, stop, plain, branch, again, each, count_of}
use Rattle.tac_flow.specs.declared.facts.Facts.{Facts}
use Rattle.tac_flow.specs.Known.{State, joined, dropped}
use Rattle.tac_flow.specs.Views.{state_of}

abbrev pub Memos : Type 0
Memos = ℕ → Option State

-- A loop is large if its body has at least that number of statements. Only large loops have a place.
abbrev pub is_large : ℕ → Code → Bool
is_large least body = leb least (count_of body)

abbrev pub place : Bool → ℕ
place true = 1
place false = 0

-- how many places a body needs for the loops in all its blocks
abbrev pub places : ℕ → Code → ℕ
places least stop = 0
places least (plain a next) = places least next
places least (branch on body other next) = places least body + places least other + places least next
places least (again count body next) = place (is_large least body) + places least body + places least next
places least (each name list body next) = place (is_large least body) + places least body + places least next

abbrev pub memo_at : Bool → Memos → ℕ → Option State
memo_at true ms n = ms n
memo_at false ms n = None

-- a loop begins at the state in which it is reached, joined with the state stored for it
abbrev pub begun : ℕ → Option State → State → State
begun fields None k = k
begun fields (Some m) k = joined fields k m

abbrev pub put : Bool → ℕ → State → Memos → Memos
put true n s ms i = if i == n then Some s else ms i
put false n s ms i = ms i

-- a turn of a loop ends by dropping the name that it binds, if it binds one
abbrev pub dropped_any : Option ℕ → State → State
dropped_any None k = k
dropped_any (Some name) k = dropped name k

abbrev pub kept_of : Option Facts → Option State
kept_of (Some f) = Some (state_of f)
kept_of None = None

abbrev pub memos_of : List (Option Facts) → Memos
memos_of held n = kept_of (get_or held n None)
