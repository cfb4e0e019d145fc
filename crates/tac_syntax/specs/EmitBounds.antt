-- How many records a call emits, at least and at most.
use Rattle.std.specs.Prelude.{◌≤◌, ◌<◌, ◌+◌, ◌*◌, ◌==◌, ℕ, min, max, if◌then◌else◌, length}
use Rattle.tac_syntax.specs.declared.functions.Kind.{Kind}
use Rattle.tac_syntax.specs.declared.statements.LoopList.{LoopList}
use Rattle.tac_syntax.specs.declared.statements.LoopList.TheVariants.{Group}
use Rattle.tac_syntax.specs.Call.{CallInput, Out}
use Rattle.tac_syntax.specs.CallInputs.{IsInputOf, HasSome}
use Rattle.tac_syntax.specs.Code.{Simple, emit_record, Code, stop, plain, branch, again, each}

-- All numbers are capped here; this one says no more than "many".
abbrev pub many : ℕ
many = 1000000

abbrev pub capped : ℕ → ℕ
capped n = min n many

abbrev pub emits_one : Simple → ℕ
emits_one (emit_record from) = 1
emits_one statement = 0

-- the group of a Reduce has a record; those of a CoGroup may have none
abbrev pub at_least_one : LoopList → ℕ → ℕ
at_least_one Group n = n
at_least_one list n = 0

abbrev pub least_emits : Code → ℕ
least_emits stop = 0
least_emits (plain a next) = capped (emits_one a + least_emits next)
least_emits (branch on body other next) = capped (min (least_emits body) (least_emits other) + least_emits next)
least_emits (again count body next) = capped (capped (count * least_emits body) + least_emits next)
least_emits (each name list body next) = capped (at_least_one list (least_emits body) + least_emits next)

abbrev pub most_emits : Code → ℕ
most_emits stop = 0
most_emits (plain a next) = capped (emits_one a + most_emits next)
most_emits (branch on body other next) = capped (max (most_emits body) (most_emits other) + most_emits next)
most_emits (again count body next) = capped (capped (count * most_emits body) + most_emits next)
most_emits (each name list body next) = capped ((if most_emits body == 0 then 0 else many) + most_emits next)

-- Each call emits at least `low` records, and at most `high` of them unless `high` is "many".
pub record AreBounds (kind : Kind) (fields : ℕ) (body : Code) (low high : ℕ) : Type 0 where
  pub least : (x : CallInput) → IsInputOf kind x → HasSome x → low ≤ length (Out fields body x)
  pub most : high < many → (x : CallInput) → length (Out fields body x) ≤ high
