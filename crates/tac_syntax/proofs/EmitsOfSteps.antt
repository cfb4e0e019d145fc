-- A step emits one record at most, so a call gives no more records than it takes steps.
use Rattle.std.proofs.Common.{◌≡◌, ◌≤◌, ◌+◌, ℕ, zero, suc, List, [], ◌∷◌, length, length-append, arith}
use Rattle.std.proofs.Math.Nat.{mul-le-mul}
use Rattle.tac_syntax.specs.Call.{CallInput, CallState, Item, Out, Store, act, after, choose, longest, record_in, rows_left, run, start_state, step, step_items, turns, turns_left}
use Rattle.tac_syntax.specs.Code.{Code, Simple, again, branch, each, emit_record, plain, stop}
use Rattle.tac_syntax.specs.EmitBounds.{emits_one}

abbrev pub count : Store → ℕ
count s = length s.emitted

-- ---- one step

pub count_after : (a : Simple) (s : Store) → count (after a s) ≡ count s + emits_one a
count_after (emit_record from) s = length-append s.emitted (record_in s from ∷ [])
count_after a s = omega arith

one_at_most : (a : Simple) → emits_one a ≤ 1
one_at_most (emit_record from) = omega arith
one_at_most a = omega arith

step_emits : (s : Store) (items : List Item) → count (step_items s items).store ≤ count s + 1
step_emits s [] = omega arith
step_emits s (act a ∷ rest) = omega (arith, count_after a s, one_at_most a)
step_emits s (choose on body other ∷ rest) = omega arith
step_emits s (turns_left zero body ∷ rest) = omega arith
step_emits s (turns_left (suc n) body ∷ rest) = omega arith
step_emits s (rows_left name [] body ∷ rest) = omega arith
step_emits s (rows_left name (row ∷ rows) body ∷ rest) = omega arith

-- ---- a call

run_emits : (n : ℕ) (c : CallState) → count (run n c).store ≤ count c.store + n
run_emits zero c = omega arith
run_emits (suc n) c = omega (arith, run_emits n (step c), step_emits c.store c.items)

pub out_few : (fields : ℕ) (body : Code) (input : CallInput) → length (Out fields body input) ≤ turns (longest input) body
out_few fields body input = omega (arith, run_emits (turns (longest input) body) (start_state fields body input))

-- longer lists take more steps
turns-le : (n m : ℕ) (body : Code) → n ≤ m → turns n body ≤ turns m body
turns-le n m stop h = omega arith
turns-le n m (plain a next) h = omega (arith, turns-le n m next h)
turns-le n m (branch on body other next) h = omega (arith, turns-le n m body h, turns-le n m other h, turns-le n m next h)
turns-le n m (again count body next) h =
    let same : count ≤ count = omega arith in
    omega (arith, mul-le-mul same (turns-le n m body h), turns-le n m next h)
turns-le n m (each name list body next) h = omega (arith, h, mul-le-mul h (turns-le n m body h), turns-le n m next h)

pub few_for : (fields m : ℕ) (body : Code) (input : CallInput) → longest input ≤ m → length (Out fields body input) ≤ turns m body
few_for fields m body input h = omega (arith, out_few fields body input, turns-le (longest input) m body h)
