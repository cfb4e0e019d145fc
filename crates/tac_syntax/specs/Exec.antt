-- What a call does, by recursion on the body: what its statements do to the registers and the output, one after
-- another.
use Rattle.std.specs.Prelude.{ℕ, zero, suc, if◌then◌else◌, List, [], ◌∷◌}
use Rattle.pact_record.specs.declared.values.Value.{Value}
use Rattle.pact_record.specs.Value.{is_true}
use Rattle.tac_syntax.specs.Code.{Code, stop, plain, branch, again, each}
use Rattle.tac_syntax.specs.Call.{Store, value_in, after, bind, rows_of}

-- applies a function n times
abbrev pub times : ℕ → (Store → Store) → Store → Store
times zero f s = s
times (suc n) f s = times n f (f s)

-- applies a function once for each record, which is bound to the loop's name
abbrev pub for_each : ℕ → List (List Value) → (Store → Store) → Store → Store
for_each name [] f s = s
for_each name (row ∷ rows) f s = for_each name rows f (f (bind s name row))

abbrev pub exec : Code → Store → Store
exec stop s = s
exec (plain statement next) s = exec next (after statement s)
exec (branch on body other next) s = exec next (if is_true (value_in s on) then exec body s else exec other s)
exec (again count body next) s = exec next (times count (exec body) s)
exec (each name list body next) s = exec next (for_each name (rows_of s.input list) (exec body) s)
