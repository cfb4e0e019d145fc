-- Bodies that are built piece by piece.
use Rattle.std.proofs.Common.{◌≡◌, ◌≤◌, ◌<◌, ◌+◌, ℕ, zero, suc, pos, max, List, [], ◌∷◌, length, get_or, drop, refl, ap, sym, ◌∙◌, arith}
use Rattle.std.specs.Prelude.{slice_index}
use Rattle.std.proofs.lemmas.List.{drop_more}
use Rattle.pact_record.specs.declared.operations.Op2.{Op2}
use Rattle.tac_syntax.specs.declared.statements.Stmt.{Stmt}
use Rattle.tac_syntax.specs.declared.statements.LoopList.TheVariants.{Group}
use Rattle.tac_syntax.specs.declared.statements.Rec.TheVariants.{Loop}
use Rattle.tac_syntax.specs.Code.{load_int, get_field, get_key, apply_two, new_record, set_field, emit_record, Code, stop, plain, branch, again, each, joined, nesting}
use Rattle.tac_syntax.specs.Limits.{nesting_limit}
use Rattle.tac_syntax.specs.Trees.{Statement, one_line, choice, turning, going_through, onto, statement_of, only, code_of}
use Rattle.tac_syntax.proofs.Bodies.{code_of-drop, nesting-joined}
use Rattle.order_free.specs.declared.accumulators.Accumulation.{Accumulation}
use Rattle.order_free.specs.declared.accumulators.Accumulation.TheVariants.{Sum, Least, Greatest}
use Rattle.order_free.specs.Accumulators.{op_of}
use Rattle.combine_rule.specs.declared.slots.Slot.{Slot}
use Rattle.combine_rule.specs.Pieces.{front_of, loop_of, rest_of}
use Rattle.combine_rule.specs.Halves.{from_zero, zeroing, keying, giving, gathering, sending}
use Rattle.combine_rule.proofs.PiecesOfBodies.{ArePieces}

pub joined_assoc : (c d e : Code) → joined (joined c d) e ≡ joined c (joined d e)
joined_assoc stop d e = refl
joined_assoc (plain s next) d e = ap (plain s) (joined_assoc next d e)
joined_assoc (branch on body other next) d e = ap (branch on body other) (joined_assoc next d e)
joined_assoc (again count body next) d e = ap (again count body) (joined_assoc next d e)
joined_assoc (each name list body next) d e = ap (each name list body) (joined_assoc next d e)

pub joined_nothing : (c : Code) → joined c stop ≡ c
joined_nothing stop = refl
joined_nothing (plain s next) = ap (plain s) (joined_nothing next)
joined_nothing (branch on body other next) = ap (branch on body other) (joined_nothing next)
joined_nothing (again count body next) = ap (again count body) (joined_nothing next)
joined_nothing (each name list body next) = ap (each name list body) (joined_nothing next)

-- a body with one more piece at its end, and the code that follows
pub put_behind : (b more d rest : Code) → more ≡ joined b d → joined more rest ≡ joined b (joined d rest)
put_behind b more d rest e = ap (λ (x : Code). joined x rest) e ∙ joined_assoc b d rest

only-joined : (s : Statement) (c : Code) → joined (onto s stop) c ≡ onto s c
only-joined (one_line a) c = refl
only-joined (choice on body other) c = refl
only-joined (turning count body) c = refl
only-joined (going_through name list body) c = refl

-- ---- the code that follows

from_zero-joined : (by : Accumulation) (d : ℕ) (c next : Code) → joined (from_zero by d c) next ≡ from_zero by d (joined c next)
from_zero-joined Sum d c next = refl
from_zero-joined Least d c next = refl
from_zero-joined Greatest d c next = refl

pub zeroing_next : (slots : List Slot) (next : Code) → joined (zeroing slots stop) next ≡ zeroing slots next
zeroing_next [] next = refl
zeroing_next (x ∷ xs) next = from_zero-joined x.by x.register (zeroing xs stop) next ∙ ap (from_zero x.by x.register) (zeroing_next xs next)

pub keying_next : (t at : ℕ) (keys : List ℕ) (next : Code) → joined (keying t at keys stop) next ≡ keying t at keys next
keying_next t at [] next = refl
keying_next t at (k ∷ ks) next = ap (λ (c : Code). plain (get_key t at) (plain (set_field 0 k t) c)) (keying_next t (at + 1) ks next)

pub giving_next : (slots : List Slot) (next : Code) → joined (giving slots stop) next ≡ giving slots next
giving_next [] next = refl
giving_next (x ∷ xs) next = ap (plain (set_field 0 x.field x.register)) (giving_next xs next)

-- ---- one more turn of each loop

pub copies_next : (b more whole : Code) (stmts : List Stmt) (i : ℕ) (stmt copy : Stmt) → i < length stmts → stmt ≡ get_or stmts i stmt → copy ≡ stmt → more ≡ joined b (only copy)
    → joined b (code_of (drop i stmts)) ≡ whole → joined more (code_of (drop (i + 1) stmts)) ≡ whole
copies_next b more whole stmts i stmt copy lt e same now h =
    put_behind b more (only copy) (code_of (drop (i + 1) stmts)) now
    ∙ ap (λ (s : Stmt). joined b (joined (only s) (code_of (drop (i + 1) stmts)))) same
    ∙ ap (joined b) (only-joined (statement_of stmt) (code_of (drop (i + 1) stmts)) ∙ sym (code_of-drop stmts i stmt lt e))
    ∙ h

-- the code that a loop over slots appends, slot by slot
module _ (P : List Slot → Code) (one : Slot → Code → Code) (is : (x : Slot) (xs : List Slot) → P (x ∷ xs) ≡ one x (P xs)) where
  pub slots_next : (b more whole : Code) (slots : List Slot) (i : ℕ) (x : Slot) → i < length slots → x ≡ get_or slots i x → ((c : Code) → joined more c ≡ joined b (one x c))
      → joined b (P (drop i slots)) ≡ whole → joined more (P (drop (i + 1) slots)) ≡ whole
  slots_next b more whole slots i x lt e now h =
      now (P (drop (i + 1) slots))
      ∙ ap (joined b) (sym (ap P (drop_more slots i x lt ∙ ap (λ (y : Slot). y ∷ drop (i + 1) slots) (sym e)) ∙ is x (drop (i + 1) slots)))
      ∙ h

pub zeros_next : (b more whole : Code) (slots : List Slot) (i : ℕ) (x : Slot) → i < length slots → x ≡ get_or slots i x → ((c : Code) → joined more c ≡ joined b (from_zero x.by x.register c))
    → joined b (zeroing (drop i slots) stop) ≡ whole → joined more (zeroing (drop (i + 1) slots) stop) ≡ whole
zeros_next = slots_next (λ l. zeroing l stop) (λ x c. from_zero x.by x.register c) (λ x xs. refl)

pub values_next : (b more whole : Code) (slots : List Slot) (i : ℕ) (x : Slot) → i < length slots → x ≡ get_or slots i x → more ≡ joined b (plain (set_field 0 x.field x.register) stop)
    → joined b (giving (drop i slots) stop) ≡ whole → joined more (giving (drop (i + 1) slots) stop) ≡ whole
values_next b more whole slots i x lt e now h =
    slots_next (λ l. giving l stop) (λ y c. plain (set_field 0 y.field y.register) c) (λ y ys. refl) b more whole slots i x lt e
    (λ c. put_behind b more (plain (set_field 0 x.field x.register) stop) c now) h

pub gathered_next : (t : ℕ) (b some more whole : Code) (slots : List Slot) (i : ℕ) (x : Slot) → i < length slots → x ≡ get_or slots i x
    → some ≡ joined b (plain (get_field t (Loop 1) x.field) stop) → more ≡ joined some (plain (apply_two x.register (op_of x.by) x.register t) stop)
    → joined b (gathering t (drop i slots)) ≡ whole → joined more (gathering t (drop (i + 1) slots)) ≡ whole
gathered_next t b some more whole slots i x lt e first second h =
    slots_next (gathering t) (λ y c. plain (get_field t (Loop 1) y.field) (plain (apply_two y.register (op_of y.by) y.register t) c)) (λ y ys. refl) b more whole slots i x lt e
    (λ c. put_behind some more (plain (apply_two x.register (op_of x.by) x.register t) stop) c second
    ∙ put_behind b some (plain (get_field t (Loop 1) x.field) stop) (plain (apply_two x.register (op_of x.by) x.register t) c) first) h

pub keys_next : (t : ℕ) (b some more whole : Code) (keys : List ℕ) (n k : ℕ) → n < length keys → k ≡ slice_index keys n
    → some ≡ joined b (plain (get_key t n) stop) → more ≡ joined some (plain (set_field 0 k t) stop)
    → joined b (keying t n (drop n keys) stop) ≡ whole → joined more (keying t (n + 1) (drop (n + 1) keys) stop) ≡ whole
keys_next t b some more whole keys n k lt e first second h =
    let rest = keying t (n + 1) (drop (n + 1) keys) stop in
    put_behind some more (plain (set_field 0 k t) stop) rest second
    ∙ put_behind b some (plain (get_key t n) stop) (plain (set_field 0 k t) rest) first
    ∙ ap (λ (l : List ℕ). joined b (keying t n l stop)) (sym (drop_more keys n 0 lt ∙ ap (λ (y : ℕ). y ∷ drop (n + 1) keys) (sym e)))
    ∙ h

-- ---- the sender and the merger

pub sender_built : (front inner : Code) (t : ℕ) (keys : List ℕ) (slots : List Slot) (b1 b2 b3 b4 b5 b6 b7 : Code) → b1 ≡ joined stop front → b2 ≡ joined b1 (zeroing slots stop) → b3 ≡ joined b2 (each 1 Group inner stop)
    → b4 ≡ joined b3 (plain (new_record 0) stop) → b5 ≡ joined b4 (keying t 0 keys stop) → b6 ≡ joined b5 (giving slots stop) → b7 ≡ joined b6 (plain (emit_record 0) stop)
    → b7 ≡ joined front (zeroing slots (each 1 Group inner (sending t keys slots)))
sender_built front inner t keys slots b1 b2 b3 b4 b5 b6 b7 e1 e2 e3 e4 e5 e6 e7 =
    let ends = plain (emit_record 0) stop in
    let gives = giving slots ends in
    let keyed = keying t 0 keys gives in
    let sends = plain (new_record 0) keyed in
    let loops = each 1 Group inner sends in
    e7
    ∙ put_behind b5 b6 (giving slots stop) ends e6 ∙ ap (joined b5) (giving_next slots ends)
    ∙ put_behind b4 b5 (keying t 0 keys stop) gives e5 ∙ ap (joined b4) (keying_next t 0 keys gives)
    ∙ put_behind b3 b4 (plain (new_record 0) stop) keyed e4
    ∙ put_behind b2 b3 (each 1 Group inner stop) sends e3
    ∙ put_behind b1 b2 (zeroing slots stop) loops e2 ∙ ap (joined b1) (zeroing_next slots loops)
    ∙ ap (λ (c : Code). joined c (zeroing slots loops)) e1

pub merger_built : (front inner rest b1 b2 b3 : Code) → b1 ≡ joined stop front → b2 ≡ joined b1 (each 1 Group inner stop) → b3 ≡ joined b2 rest → b3 ≡ joined front (each 1 Group inner rest)
merger_built front inner rest b1 b2 b3 e1 e2 e3 =
    e3 ∙ put_behind b1 b2 (each 1 Group inner stop) rest e2 ∙ ap (λ (c : Code). joined c (each 1 Group inner rest)) e1

-- ---- nesting

pub nesting_gathering : (t : ℕ) (slots : List Slot) → nesting (gathering t slots) ≡ 0
nesting_gathering t [] = refl
nesting_gathering t (x ∷ xs) = nesting_gathering t xs

nesting-only : (s : Statement) (c : Code) → nesting (onto s c) ≡ max (nesting (onto s stop)) (nesting c)
nesting-only (one_line a) c = omega arith
nesting-only (choice on body other) c = omega arith
nesting-only (turning count body) c = omega arith
nesting-only (going_through name list body) c = omega arith

pub shallow_at : (stmts : List Stmt) (n : ℕ) (stmt : Stmt) → n < length stmts → stmt ≡ get_or stmts n stmt → nesting (code_of stmts) ≤ nesting_limit → nesting (only stmt) ≤ nesting_limit
shallow_at [] n stmt lt e h = absurd (omega arith)
shallow_at (s ∷ stmts) zero stmt lt e h = omega (arith, ap (λ (x : Stmt). nesting (only x)) e, nesting-only (statement_of s) (code_of stmts), h)
shallow_at (s ∷ stmts) (suc n) stmt lt e h = shallow_at stmts n stmt (omega arith) e (omega (arith, nesting-only (statement_of s) (code_of stmts), h))

pub shallow_pieces : (F : ℕ) (c : Code) → ArePieces F c → nesting c ≤ nesting_limit → (nesting (front_of c) ≤ nesting_limit) × (1 + nesting (loop_of c) ≤ nesting_limit) × (nesting (rest_of c) ≤ nesting_limit)
shallow_pieces F c p h =
    let whole = ap nesting p.whole ∙ nesting-joined (front_of c) (each 1 Group (loop_of c) (rest_of c)) in
    (omega (arith, whole, h), omega (arith, whole, h), omega (arith, whole, h))

-- ---- the end of a loop

drop_none : {A : Type 0} (xs : List A) (n : ℕ) → length xs ≤ n → drop n xs ≡ []
drop_none [] zero le = refl
drop_none [] (suc n) le = refl
drop_none (x ∷ xs) zero le = absurd (omega (arith, le))
drop_none (x ∷ xs) (suc n) le = drop_none xs n (omega (arith, le))

-- after the last slot there is nothing more to append to the body
pub ended : {A : Type 0} (P : List A → Code) → P [] ≡ stop → (b whole : Code) (xs : List A) (n : ℕ) → length xs ≤ n → joined b (P (drop n xs)) ≡ whole → b ≡ whole
ended P none b whole xs n le h = sym (joined_nothing b) ∙ ap (joined b) (sym (ap P (drop_none xs n le) ∙ none)) ∙ h

-- ---- the slot at a place of the list

same_at : {A : Type 0} (xs : List A) (i : ℕ) (d e : A) → i < length xs → get_or xs i d ≡ get_or xs i e
same_at [] i d e lt = absurd (omega (arith, lt))
same_at (x ∷ xs) zero d e lt = refl
same_at (x ∷ xs) (suc i) d e lt = same_at xs i d e (omega (arith, lt))

pub zeros_at : (d : Slot) (b more whole : Code) (slots : List Slot) (i : ℕ) → i < length slots → (get_or slots i d).by ≡ Sum → more ≡ joined b (plain (load_int (get_or slots i d).register (pos 0)) stop)
    → joined b (zeroing (drop i slots) stop) ≡ whole → joined more (zeroing (drop (i + 1) slots) stop) ≡ whole
zeros_at d b more whole slots i lt sum now h =
    let x = get_or slots i d in
    zeros_next b more whole slots i x lt (same_at slots i d x lt)
    (λ c. put_behind b more (plain (load_int x.register (pos 0)) stop) c now ∙ ap (λ (by : Accumulation). joined b (from_zero by x.register c)) (sym sum)) h

from_none : (by : Accumulation) (d : ℕ) (c : Code) → (by ≡ Sum → ⊥) → from_zero by d c ≡ c
from_none Sum d c no_sum = absurd (no_sum refl)
from_none Least d c no_sum = refl
from_none Greatest d c no_sum = refl

pub zeros_passed : (d : Slot) (b more whole : Code) (slots : List Slot) (i : ℕ) → i < length slots → ((get_or slots i d).by ≡ Sum → ⊥) → more ≡ b
    → joined b (zeroing (drop i slots) stop) ≡ whole → joined more (zeroing (drop (i + 1) slots) stop) ≡ whole
zeros_passed d b more whole slots i lt no_sum now h =
    let x = get_or slots i d in
    zeros_next b more whole slots i x lt (same_at slots i d x lt)
    (λ c. ap (λ (y : Code). joined y c) now ∙ ap (joined b) (sym (from_none x.by x.register c no_sum))) h

pub values_at : (d : Slot) (b more whole : Code) (slots : List Slot) (i : ℕ) → i < length slots → more ≡ joined b (plain (set_field 0 (get_or slots i d).field (get_or slots i d).register) stop)
    → joined b (giving (drop i slots) stop) ≡ whole → joined more (giving (drop (i + 1) slots) stop) ≡ whole
values_at d b more whole slots i lt now h = let x = get_or slots i d in values_next b more whole slots i x lt (same_at slots i d x lt) now h

pub gathered_at : (d : Slot) (t : ℕ) (op : Op2) (b some more whole : Code) (slots : List Slot) (i : ℕ) → i < length slots → op ≡ op_of (get_or slots i d).by
    → some ≡ joined b (plain (get_field t (Loop 1) (get_or slots i d).field) stop) → more ≡ joined some (plain (apply_two (get_or slots i d).register op (get_or slots i d).register t) stop)
    → joined b (gathering t (drop i slots)) ≡ whole → joined more (gathering t (drop (i + 1) slots)) ≡ whole
gathered_at d t op b some more whole slots i lt is first second h =
    let x = get_or slots i d in
    gathered_next t b some more whole slots i x lt (same_at slots i d x lt) first (second ∙ ap (λ (o : Op2). joined some (plain (apply_two x.register o x.register t) stop)) is) h

pub keys_ended : (t : ℕ) (b whole : Code) (keys : List ℕ) (n : ℕ) → length keys ≤ n → joined b (keying t n (drop n keys) stop) ≡ whole → b ≡ whole
keys_ended t b whole keys n le h = ended (λ l. keying t n l stop) refl b whole keys n le h
