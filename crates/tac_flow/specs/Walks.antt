-- What the analysis learns from a body.
use Rattle.std.specs.Prelude.{ℕ, zero, suc, ◌+◌, ◌*◌, List, [], ◌∷◌, ◌++◌}
use Rattle.tac_syntax.specs.declared.statements.LoopList.{LoopList}
use Rattle.tac_syntax.specs.declared.statements.LoopList.TheVariants.{Right as RightGroup}
use Rattle.tac_syntax.specs.Limits.{value_registers, record_registers}
use Rattle.tac_syntax.specs.Code.{Simple, emit_record, Code, stop, plain, branch, again, each}
use Rattle.tac_flow.specs.Known.{FieldSet, Side, left, right, State, Held, joined, dropped}
use Rattle.tac_flow.specs.Steps.{Scope, transfer, value_at, record_at}

-- A note on the way: what decides a branch, and what is known of a record that is emitted.
pub data Note : Type 0 where
  decides : (deps : FieldSet) → Note
  emits : (held : Held) → Note

abbrev pub noted : Scope → Simple → State → List Note
noted c (emit_record from) k = emits (record_at c.fields k from) ∷ []
noted c statement k = []

abbrev pub side_of_list : LoopList → Side
side_of_list RightGroup = right
side_of_list list = left

-- ---- loops

abbrev pub repeated : ℕ → (State → State) → State → State
repeated zero f k = k
repeated (suc n) f k = repeated n f (f k)

-- The greatest number of times that a state can change. Each set of a register can grow once for each field; what a
-- value is known to equal can be lost once, and what a record began as twice.
abbrev pub walks_at_most : ℕ → ℕ
walks_at_most fields = value_registers * (fields + 1) + record_registers * (2 * fields + 2)

-- the state in which a loop's turns change nothing any more
unfoldable pub settled : ℕ → (State → State) → State → State
settled fields turn k = repeated (walks_at_most fields) (λ j. joined fields j (turn j)) k

-- ---- bodies

-- the state after a body, if the surrounding loops are over these sides
abbrev pub walk : Scope → List Side → Code → State → State
walk c sides stop k = k
walk c sides (plain a next) k = walk c sides next (transfer c sides a k)
walk c sides (branch on body other next) k = walk c sides next (joined c.fields (walk c sides body k) (walk c sides other k))
walk c sides (again count body next) k = walk c sides next (walk c sides body (settled c.fields (walk c sides body) k))
walk c sides (each name list body next) k =
    walk c sides next (settled c.fields (λ j. dropped name (walk c (sides ++ side_of_list list ∷ []) body j)) (dropped name k))

-- the notes on a body, in text order
abbrev pub notes : Scope → List Side → Code → State → List Note
notes c sides stop k = []
notes c sides (plain a next) k = noted c a k ++ notes c sides next (transfer c sides a k)
notes c sides (branch on body other next) k =
    decides (value_at k on).deps ∷ (notes c sides body k ++ (notes c sides other k ++ notes c sides next (joined c.fields (walk c sides body k) (walk c sides other k))))
notes c sides (again count body next) k =
    let j = settled c.fields (walk c sides body) k in
    notes c sides body j ++ notes c sides next (walk c sides body j)
notes c sides (each name list body next) k =
    let inside = sides ++ side_of_list list ∷ [] in
    let j = settled c.fields (λ i. dropped name (walk c inside body i)) (dropped name k) in
    notes c inside body j ++ notes c sides next j
