-- The steps of a call lead, within their bound, to what the recursion on its body gives.
use Rattle.std.proofs.Common.{◌≡◌, ◌≤◌, ◌+◌, ◌*◌, ◌-◌, ℕ, zero, suc, max, Bool, true, false, if◌then◌else◌, List, [], ◌∷◌, ◌++◌, length, refl, sym, ◌∙◌, ap, subst, append-nil, arith, zero-add, suc-add, suc-mul}
use Rattle.pact_record.specs.declared.values.Value.{Value}
use Rattle.pact_record.specs.Value.{is_true}
use Rattle.tac_syntax.specs.declared.statements.LoopList.{LoopList}
use Rattle.tac_syntax.specs.declared.statements.LoopList.TheVariants.{Group, Left as LeftGroup, Right as RightGroup}
use Rattle.tac_syntax.specs.Code.{Simple, load_int, load_text, load_null, move_value, get_field, get_at, get_key, apply_one, apply_two, new_record, copy_record, set_field, set_at, emit_record, Code, stop, plain, branch, again, each}
use Rattle.tac_syntax.specs.Call.{CallInput, of_record, of_pair, of_group, of_groups, Store, Item, act, choose, turns_left, rows_left, CallState, value_in, rows_of, after, items_of, bind, step, run, start_store, longest, turns, end_state, Out}
use Rattle.tac_syntax.specs.Exec.{times, for_each, exec}

abbrev state : Store → List Item → CallState
state s items = record { store = s; items = items }

-- The first state leads to the second within `bound` steps: what the second reaches in k steps, the first reaches in at
-- most `bound + k`.
record Leads (c d : CallState) (bound : ℕ) : Type 0 where
  more : (k : ℕ) → (n : ℕ) × (n ≤ bound + k) × (run n c ≡ run k d)

stays : (c : CallState) → Leads c c 0
stays c = record { more = λ k. (k, omega arith, refl) }

one_step : (c : CallState) → Leads c (step c) 1
one_step c = record { more = λ k. (suc k, omega arith, refl) }

joins : {c d e : CallState} {a b : ℕ} → Leads c d a → Leads d e b → Leads c e (a + b)
joins p q = record {
  more = λ k.
      let second = q.more k in
      let first = p.more second.0 in
      (first.0, omega (arith, first.1, second.1), first.2 ∙ second.2);
}

within : {c d : CallState} {a b : ℕ} → Leads c d a → a ≤ b → Leads c d b
within p h = record { more = λ k. let first = p.more k in (first.0, omega (arith, first.1, h), first.2) }

-- ---- the input stays

pub input-after : (statement : Simple) (s : Store) → (after statement s).input ≡ s.input
input-after (load_int to value) s = refl
input-after (load_text to bytes) s = refl
input-after (load_null to) s = refl
input-after (move_value to from) s = refl
input-after (get_field to from field) s = refl
input-after (get_at to from at) s = refl
input-after (get_key to at) s = refl
input-after (apply_one to op a) s = refl
input-after (apply_two to op a b) s = refl
input-after (new_record to) s = refl
input-after (copy_record to from) s = refl
input-after (set_field to field value) s = refl
input-after (set_at to at value) s = refl
input-after (emit_record from) s = refl

abbrev KeepsInput : (Store → Store) → Type 0
KeepsInput f = (s : Store) → (f s).input ≡ s.input

input-times : (n : ℕ) (f : Store → Store) → KeepsInput f → (s : Store) → (times n f s).input ≡ s.input
input-times zero f keeps s = refl
input-times (suc n) f keeps s = input-times n f keeps (f s) ∙ keeps s

input-for_each : (name : ℕ) (rows : List (List Value)) (f : Store → Store) → KeepsInput f → (s : Store) → (for_each name rows f s).input ≡ s.input
input-for_each name [] f keeps s = refl
input-for_each name (row ∷ rows) f keeps s = input-for_each name rows f keeps (f (bind s name row)) ∙ keeps (bind s name row)

input-either : (b : Bool) (x y s : Store) → x.input ≡ s.input → y.input ≡ s.input → (if b then x else y).input ≡ s.input
input-either true x y s p q = p
input-either false x y s p q = q

pub input-exec : (c : Code) (s : Store) → (exec c s).input ≡ s.input
input-exec stop s = refl
input-exec (plain statement next) s = input-exec next (after statement s) ∙ input-after statement s
input-exec (branch on body other next) s =
    input-exec next (if is_true (value_in s on) then exec body s else exec other s)
    ∙ input-either (is_true (value_in s on)) (exec body s) (exec other s) s (input-exec body s) (input-exec other s)
input-exec (again count body next) s = input-exec next (times count (exec body) s) ∙ input-times count (exec body) (input-exec body) s
input-exec (each name list body next) s =
    input-exec next (for_each name (rows_of s.input list) (exec body) s) ∙ input-for_each name (rows_of s.input list) (exec body) (input-exec body) s

-- ---- blocks

-- a body's steps on one input, with any items to do after it
abbrev Does : CallInput → Code → (Store → Store) → ℕ → Type 0
Does input body f bound = (s : Store) → s.input ≡ input → (rest : List Item) → Leads (state s (items_of input body ++ rest)) (state (f s) rest) bound

times_leads : (input : CallInput) (body : Code) (f : Store → Store) (bound : ℕ) → KeepsInput f → Does input body f bound
    → (n : ℕ) (s : Store) → s.input ≡ input → (rest : List Item) → Leads (state s (turns_left n body ∷ rest)) (state (times n f s) rest) (n + 1 + n * bound)
times_leads input body f bound keeps does zero s h rest = within (one_step (state s (turns_left zero body ∷ rest))) (omega arith)
times_leads input body f bound keeps does (suc n) s h rest =
    let first = subst (λ (i : CallInput). Leads (state s (turns_left (suc n) body ∷ rest)) (state s (items_of i body ++ (turns_left n body ∷ rest))) 1) h (one_step (state s (turns_left (suc n) body ∷ rest))) in
    let turn = does s h (turns_left n body ∷ rest) in
    let others = times_leads input body f bound keeps does n (f s) (keeps s ∙ h) rest in
    within (joins first (joins turn others)) (omega (arith, suc-mul n bound))

for_each_leads : (input : CallInput) (body : Code) (f : Store → Store) (bound : ℕ) → KeepsInput f → Does input body f bound
    → (name : ℕ) (rows : List (List Value)) (s : Store) → s.input ≡ input → (rest : List Item)
    → Leads (state s (rows_left name rows body ∷ rest)) (state (for_each name rows f s) rest) (length rows + 1 + length rows * bound)
for_each_leads input body f bound keeps does name [] s h rest = within (one_step (state s (rows_left name [] body ∷ rest))) (omega arith)
for_each_leads input body f bound keeps does name (row ∷ rows) s h rest =
    let bound_row = bind s name row in
    let first = subst (λ (i : CallInput). Leads (state s (rows_left name (row ∷ rows) body ∷ rest)) (state bound_row (items_of i body ++ (rows_left name rows body ∷ rest))) 1) h (one_step (state s (rows_left name (row ∷ rows) body ∷ rest))) in
    let turn = does bound_row h (rows_left name rows body ∷ rest) in
    let others = for_each_leads input body f bound keeps does name rows (f bound_row) (keeps bound_row ∙ h) rest in
    within (joins first (joins turn others)) (omega (arith, suc-mul (length rows) bound))

choice_leads : (b : Bool) (input : CallInput) (s x y : Store) (body other : Code) (rest : List Item) (m n : ℕ)
    → Leads (state s (items_of input body ++ rest)) (state x rest) m → Leads (state s (items_of input other ++ rest)) (state y rest) n
    → Leads (state s (items_of input (if b then body else other) ++ rest)) (state (if b then x else y) rest) (max m n)
choice_leads true input s x y body other rest m n p q = within p (omega arith)
choice_leads false input s x y body other rest m n p q = within q (omega arith)

-- ---- bodies

rows_of-longest : (input : CallInput) (list : LoopList) → length (rows_of input list) ≤ longest input
rows_of-longest (of_record row) list = omega arith
rows_of-longest (of_pair left right) list = omega arith
rows_of-longest (of_group key group) Group = omega arith
rows_of-longest (of_group key group) LeftGroup = omega arith
rows_of-longest (of_group key group) RightGroup = omega arith
rows_of-longest (of_groups key left right) Group = omega arith
rows_of-longest (of_groups key left right) LeftGroup = omega arith
rows_of-longest (of_groups key left right) RightGroup = omega arith

more_turns : (m n bound : ℕ) → m ≤ n → m + 1 + m * bound ≤ n + 1 + n * bound
more_turns m n bound h = grind (arith)

exec_leads : (input : CallInput) (c : Code) → Does input c (exec c) (turns (longest input) c)
exec_leads input stop s h rest = stays (state s rest)
exec_leads input (plain statement next) s h rest =
    joins (one_step (state s (act statement ∷ (items_of input next ++ rest)))) (exec_leads input next (after statement s) (input-after statement s ∙ h) rest)
exec_leads input (branch on body other next) s h rest =
    let v = value_in s on in
    let behind_it = items_of input next ++ rest in
    let first = subst (λ (i : CallInput). Leads (state s (choose on body other ∷ behind_it)) (state s (items_of i (if is_true v then body else other) ++ behind_it)) 1) h (one_step (state s (choose on body other ∷ behind_it))) in
    let taken = choice_leads (is_true v) input s (exec body s) (exec other s) body other behind_it (turns (longest input) body) (turns (longest input) other) (exec_leads input body s h behind_it) (exec_leads input other s h behind_it) in
    let t = if is_true v then exec body s else exec other s in
    let same = input-either (is_true v) (exec body s) (exec other s) s (input-exec body s) (input-exec other s) in
    within (joins first (joins taken (exec_leads input next t (same ∙ h) rest))) (omega arith)
exec_leads input (again count body next) s h rest =
    let bound = turns (longest input) body in
    let loop = times_leads input body (exec body) bound (input-exec body) (exec_leads input body) count s h (items_of input next ++ rest) in
    joins loop (exec_leads input next (times count (exec body) s) (input-times count (exec body) (input-exec body) s ∙ h) rest)
exec_leads input (each name list body next) s h rest =
    let bound = turns (longest input) body in
    let rows = rows_of input list in
    let loop = within (for_each_leads input body (exec body) bound (input-exec body) (exec_leads input body) name rows s h (items_of input next ++ rest)) (more_turns (length rows) (longest input) bound (rows_of-longest input list)) in
    let others = exec_leads input next (for_each name rows (exec body) s) (input-for_each name rows (exec body) (input-exec body) s ∙ h) rest in
    subst (λ (i : CallInput). Leads (state s (rows_left name rows body ∷ (items_of input next ++ rest))) (state (exec next (for_each name (rows_of i list) (exec body) s)) rest) (longest input + 1 + longest input * bound + turns (longest input) next)) (sym h) (joins loop others)

-- ---- calls

-- with no item left nothing changes
run-over : (n : ℕ) (s : Store) → run n (state s []) ≡ state s []
run-over zero s = refl
run-over (suc n) s = run-over n s

run-add : (m n : ℕ) (c : CallState) → run (m + n) c ≡ run n (run m c)
run-add zero n c = rw zero-add refl
run-add (suc m) n c = rw suc-add (run-add m n (step c))

pub end_state-exec : (fields : ℕ) (body : Code) (input : CallInput) → end_state fields body input ≡ state (exec body (start_store fields input)) []
end_state-exec fields body input =
    let s = start_store fields input in
    let bound = turns (longest input) body in
    let found = (exec_leads input body s refl []).more 0 in
    let begun = state s (items_of input body) in
    let over : run found.0 begun ≡ state (exec body s) [] = subst (λ (items : List Item). run found.0 (state s items) ≡ state (exec body s) []) (append-nil (items_of input body)) found.2 in
    let left = bound - found.0 in
    let split : bound ≡ found.0 + left = omega (arith, found.1) in
    ap (λ (n : ℕ). run n begun) split ∙ run-add found.0 left begun ∙ ap (run left) over ∙ run-over left (exec body s)

pub Out-exec : (fields : ℕ) (body : Code) (input : CallInput) → Out fields body input ≡ (exec body (start_store fields input)).emitted
Out-exec fields body input = ap (λ (c : CallState). c.store.emitted) (end_state-exec fields body input)

-- A call ends within its bound on steps.
pub end_state-items : (fields : ℕ) (body : Code) (input : CallInput) → (end_state fields body input).items ≡ []
end_state-items fields body input = ap (λ (c : CallState). c.items) (end_state-exec fields body input)
