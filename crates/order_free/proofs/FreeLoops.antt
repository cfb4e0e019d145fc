-- The result of the order test for one loop, and for one statement after the other.
use Rattle.std.proofs.Common.{◌≡◌, ◌↔◌, ◌<◌, ◌+◌, ℕ, zero, suc, Bool, true, false, not, ◌&&◌, ◌||◌, IsTrue, List, [], ◌∷◌, length, drop, get_or, refl, sym, ap, subst, ◌∙◌}
use Rattle.std.proofs.lemmas.Bool.{or_right, and_from, and_right, not_from_false, both_ways}
use Rattle.tac_syntax.specs.declared.statements.LoopList.{LoopList}
use Rattle.tac_syntax.specs.declared.statements.Stmt.{Stmt}
use Rattle.tac_syntax.specs.declared.statements.Stmt.TheVariants.{If, Repeat, Each}
use Rattle.tac_syntax.specs.Code.{Simple, apply_two, Code, stop, plain, branch, again, each}
use Rattle.tac_syntax.specs.Trees.{Statement, one_line, choice, turning, going_through, onto, statement_of, before, only, code_of}
use Rattle.tac_syntax.proofs.Bodies.{code_of-drop}
use Rattle.order_free.specs.declared.accumulators.Accumulation.{Accumulation}
use Rattle.order_free.specs.declared.accumulators.Accumulation.TheVariants.{Sum, Least, Greatest}
use Rattle.order_free.specs.Registers.{Register, value_at, record_at, RegisterSet, assigns, has_operand, occurs, is_assigned}
use Rattle.order_free.specs.Liveness.{is_live, live, live_at_end}
use Rattle.order_free.specs.Accumulators.{is_op_of, accumulates, is_used_otherwise, occurs_otherwise, is_accumulator}
use Rattle.order_free.specs.OrderFree.{IsLoopFree, AreLoopsFree}
use Rattle.order_free.proofs.LiveSets.{or_weaker}

-- ---- accumulators

-- a statement of an accumulator assigns a value register
accumulates-record : (by : Accumulation) (k : ℕ) (s : Simple) → accumulates by (record_at k) s ≡ false
accumulates-record by k (apply_two to op a b) = and_right (is_op_of by op) false refl
accumulates-record by k s = refl

assigned_record-otherwise : (by : Accumulation) (k : ℕ) (s : Simple) → assigns s (record_at k) ≡ true → is_used_otherwise by (record_at k) s ≡ true
assigned_record-otherwise by k s h =
    and_from (occurs s (record_at k)) (not (accumulates by (record_at k) s)) (or_right (has_operand s (record_at k)) (assigns s (record_at k)) h)
    (not_from_false (accumulates by (record_at k) s) (accumulates-record by k s))

-- so a record register that is assigned isn't an accumulator
occurs_otherwise-record : (by : Accumulation) (k : ℕ) (c : Code) → is_assigned c (record_at k) ≡ true → occurs_otherwise by (record_at k) c ≡ true
occurs_otherwise-record by k stop h = h
occurs_otherwise-record by k (plain s next) h =
    let r = record_at k in
    or_weaker (assigns s r) (is_assigned next r) (is_used_otherwise by r s) (occurs_otherwise by r next) (assigned_record-otherwise by k s) (occurs_otherwise-record by k next) h
occurs_otherwise-record by k (branch on body other next) h =
    let r = record_at k in
    or_weaker (is_assigned body r) (is_assigned other r || is_assigned next r) (occurs_otherwise by r body) (occurs_otherwise by r other || occurs_otherwise by r next) (occurs_otherwise-record by k body)
    (or_weaker (is_assigned other r) (is_assigned next r) (occurs_otherwise by r other) (occurs_otherwise by r next) (occurs_otherwise-record by k other) (occurs_otherwise-record by k next)) h
occurs_otherwise-record by k (again count body next) h =
    let r = record_at k in
    or_weaker (is_assigned body r) (is_assigned next r) (occurs_otherwise by r body) (occurs_otherwise by r next) (occurs_otherwise-record by k body) (occurs_otherwise-record by k next) h
occurs_otherwise-record by k (each name list body next) h =
    let r = record_at k in
    or_weaker (is_assigned body r) (is_assigned next r) (occurs_otherwise by r body) (occurs_otherwise by r next) (occurs_otherwise-record by k body) (occurs_otherwise-record by k next) h

not-not : (b : Bool) → b ≡ not (not b)
not-not true = refl
not-not false = refl

both_otherwise : (a p q r : Bool) → (((a && p) && q) && r) ≡ (a && not (not p || (not q || not r)))
both_otherwise true true true r = not-not r
both_otherwise true true false r = refl
both_otherwise true false q r = refl
both_otherwise false p q r = refl

all_otherwise : (a p q r : Bool) → (a ≡ true → p ≡ true) → (a ≡ true → q ≡ true) → (a ≡ true → r ≡ true) → (((a && p) && q) && r) ≡ (a && true)
all_otherwise true p q r f g h = rw (f refl, g refl, h refl) refl
all_otherwise false p q r f g h = refl

-- a register that is assigned and occurs otherwise for each of the operations isn't an accumulator
pub assigned_otherwise-is : (c : Code) (r : Register)
    → (((is_assigned c r && occurs_otherwise Sum r c) && occurs_otherwise Least r c) && occurs_otherwise Greatest r c) ≡ (is_assigned c r && not (is_accumulator c r))
assigned_otherwise-is c (value_at d) = both_otherwise (is_assigned c (value_at d)) (occurs_otherwise Sum (value_at d) c) (occurs_otherwise Least (value_at d) c) (occurs_otherwise Greatest (value_at d) c)
assigned_otherwise-is c (record_at k) =
    all_otherwise (is_assigned c (record_at k)) (occurs_otherwise Sum (record_at k) c) (occurs_otherwise Least (record_at k) c) (occurs_otherwise Greatest (record_at k) c)
    (occurs_otherwise-record Sum k c) (occurs_otherwise-record Least k c) (occurs_otherwise-record Greatest k c)

-- ---- a statement

-- An `if` whose first body's loops are free: the second body decides.
pub free-if : (on : ℕ) (body other : Code) (behind : RegisterSet) (stmt : Stmt) (found : Bool) → stmt ≡ If on body other → AreLoopsFree body behind → (IsTrue found ↔ AreLoopsFree other behind)
    → IsTrue found ↔ AreLoopsFree (only stmt) behind
free-if on body other behind stmt found e first second =
    subst (λ (s : Stmt). IsTrue found ↔ AreLoopsFree (only s) behind) (sym e) (λ h. (first, second.0 h, tt), λ free. second.1 free.1)

pub not_free-if : (on : ℕ) (body other : Code) (behind : RegisterSet) (stmt : Stmt) (found : Bool) → stmt ≡ If on body other → found ≡ false → (IsTrue found ↔ AreLoopsFree body behind)
    → IsTrue found ↔ AreLoopsFree (only stmt) behind
not_free-if on body other behind stmt found e none first =
    subst (λ (s : Stmt). IsTrue found ↔ AreLoopsFree (only s) behind) (sym e) (λ h. absurd (both_ways found none h), λ free. first.1 free.0)

-- the set has the registers that are live at the end of each turn
abbrev IsLiveAtEnd : Code → RegisterSet → RegisterSet → Type 0
IsLiveAtEnd body behind set = (r : Register) → set r ≡ (behind r || is_live body r (behind r))

at_end : (body : Code) (behind set : RegisterSet) (found : Bool) → IsLiveAtEnd body behind set → (IsTrue found ↔ AreLoopsFree body set) → IsTrue found ↔ AreLoopsFree body (live_at_end body behind)
at_end body behind set found e test = subst (λ (x : RegisterSet). IsTrue found ↔ AreLoopsFree body x) (λ i r. e r i) test

pub free-repeat : (count : ℕ) (body : Code) (behind set : RegisterSet) (stmt : Stmt) (found : Bool) → stmt ≡ Repeat count body → IsLiveAtEnd body behind set → (IsTrue found ↔ AreLoopsFree body set)
    → IsTrue found ↔ AreLoopsFree (only stmt) behind
free-repeat count body behind set stmt found e end test =
    let inside = at_end body behind set found end test in
    subst (λ (s : Stmt). IsTrue found ↔ AreLoopsFree (only s) behind) (sym e) (λ h. (inside.0 h, tt), λ free. inside.1 free.0)

pub free-each : (name : ℕ) (list : LoopList) (body : Code) (behind set : RegisterSet) (stmt : Stmt) (found : Bool) → stmt ≡ Each name list body → IsLoopFree body behind → IsLiveAtEnd body behind set
    → (IsTrue found ↔ AreLoopsFree body set) → IsTrue found ↔ AreLoopsFree (only stmt) behind
free-each name list body behind set stmt found e own end test =
    let inside = at_end body behind set found end test in
    subst (λ (s : Stmt). IsTrue found ↔ AreLoopsFree (only s) behind) (sym e) (λ h. (own, inside.0 h, tt), λ free. inside.1 free.1)

-- ---- a statement and those that follow it

AreLoopsFree-onto : (s : Statement) (c : Code) (behind : RegisterSet) → AreLoopsFree (onto s c) behind ↔ (AreLoopsFree (onto s stop) (live c behind) × AreLoopsFree c behind)
AreLoopsFree-onto (one_line a) c behind = (λ h. (tt, h), λ h. h.1)
AreLoopsFree-onto (choice on body other) c behind = (λ h. ((h.0, h.1, tt), h.2), λ h. (h.0.0, h.0.1, h.1))
AreLoopsFree-onto (turning count body) c behind = (λ h. ((h.0, tt), h.1), λ h. (h.0.0, h.1))
AreLoopsFree-onto (going_through name list body) c behind = (λ h. ((h.0, h.1, tt), h.2), λ h. (h.0.0, h.0.1, h.1))

AreLoopsFree-drop : (stmts : List Stmt) (n : ℕ) (behind : RegisterSet) → AreLoopsFree (code_of stmts) behind → AreLoopsFree (code_of (drop n stmts)) behind
AreLoopsFree-drop stmts zero behind h = h
AreLoopsFree-drop [] (suc n) behind h = h
AreLoopsFree-drop (s ∷ stmts) (suc n) behind h = AreLoopsFree-drop stmts n behind ((AreLoopsFree-onto (statement_of s) (code_of stmts) behind).0 h).1

is_live-onto : (s : Statement) (c : Code) (r : Register) (b : Bool) → is_live (onto s c) r b ≡ is_live (onto s stop) r (is_live c r b)
is_live-onto (one_line a) c r b = refl
is_live-onto (choice on body other) c r b = refl
is_live-onto (turning count body) c r b = refl
is_live-onto (going_through name list body) c r b = refl

-- A statement by its place, the registers that are live after the statements, and those that are live after it.
module _ (stmts : List Stmt) (at next : ℕ) (stmt : Stmt) (behind here : RegisterSet) (is_next : next ≡ at + 1) (lt : at < length stmts) (is_at : stmt ≡ get_or stmts at stmt)
    (is_here : (r : Register) → here r ≡ is_live (code_of (drop next stmts)) r (behind r)) where
  split : code_of (drop at stmts) ≡ before stmt (code_of (drop next stmts))
  split = code_of-drop stmts at stmt lt is_at ∙ ap (λ (n : ℕ). before stmt (code_of (drop n stmts))) (sym is_next)

  same : here ≡ live (code_of (drop next stmts)) behind
  same = λ i r. is_here r i

  pub live-at : (set : RegisterSet) → ((r : Register) → set r ≡ is_live (only stmt) r (here r)) → (r : Register) → set r ≡ is_live (code_of (drop at stmts)) r (behind r)
  live-at set e r =
      e r ∙ ap (is_live (only stmt) r) (is_here r) ∙ sym (is_live-onto (statement_of stmt) (code_of (drop next stmts)) r (behind r)) ∙ ap (λ (c : Code). is_live c r (behind r)) (sym split)

  pub free-at : AreLoopsFree (only stmt) here → AreLoopsFree (code_of (drop next stmts)) behind → AreLoopsFree (code_of (drop at stmts)) behind
  free-at own rest =
      subst (λ (c : Code). AreLoopsFree c behind) (sym split)
      ((AreLoopsFree-onto (statement_of stmt) (code_of (drop next stmts)) behind).1 (subst (AreLoopsFree (only stmt)) same own, rest))

  -- if the statement's own loops aren't free, those of the whole body aren't
  pub not_free-at : (found : Bool) → found ≡ false → (IsTrue found ↔ AreLoopsFree (only stmt) here) → (body : Code) → code_of stmts ≡ body → IsTrue false ↔ AreLoopsFree body behind
  not_free-at found none test body whole = (
    λ h. cc,
    λ free.
        let here_on = subst (λ (c : Code). AreLoopsFree c behind) split (AreLoopsFree-drop stmts at behind (subst (λ (c : Code). AreLoopsFree c behind) (sym whole) free)) in
        let own = ((AreLoopsFree-onto (statement_of stmt) (code_of (drop next stmts)) behind).0 here_on).0 in
        absurd (both_ways found none (test.1 (subst (AreLoopsFree (only stmt)) (sym same) own))),
  )
