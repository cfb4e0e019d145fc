-- No worker has more rows of its own than the first one.
use Rattle.std.proofs.Common.{◌≡◌, ◌≢◌, ◌<◌, ◌≤◌, ◌+◌, ◌%◌, ◌==◌, ◌⊎◌, inl, inr, ℕ, suc, Bool, true, false, cond, List, [], ◌∷◌, length, ap, subst, sym, ◌∙◌, arith}
use Rattle.std.proofs.lemmas.Bool.{cases_eq, cases_lt, eq-eqb, ne_eqb}
use Rattle.std.proofs.lemmas.Nat.{mod_below}
use Rattle.std.proofs.Math.Nat.{mod-eq_of_lt, mod_self, suc-mod, zero-mod}
use Rattle.pact_operators.specs.Allowed.{Bag}
use Rattle.pact_operators.specs.Programs.{ProgramData}
use Rattle.pact_record.specs.declared.values.Value.{Value}
use Rattle.plan_trees.specs.Physicals.{PhysicalData}
use Rattle.plan_trees.specs.Sending.{share_from}
use Rattle.flow_instance.specs.declared.before_start.Unstarted.{Unstarted}
use Rattle.flow_core.specs.Starting.{AreUnstarted, AreUnstartedFrom, HaveAtMost, first_share}

length_cond : (b : Bool) (row : List Value) (rows : Bag) → length (cond b (row ∷ rows) rows) ≡ cond b 1 0 + length rows
length_cond true row rows = omega arith
length_cond false row rows = omega arith

-- The rows from one on, which is at some worker's turn. Another worker gets at most one of them more than the first
-- one, and no more if its turn is over.
record IsBehind (worker turn count most : ℕ) : Type 0 where
  near : count ≤ most + 1
  over : (turn ≡ 0) ⊎ (worker < turn) → count ≤ most

-- from the next row on
over_next : (workers worker turn next count most : ℕ) → turn < workers → next ≡ suc turn % workers → worker ≤ turn → IsBehind worker next count most → count ≤ most
over_next workers worker turn next count most below is past h = elim (cases_lt (suc turn) workers) as (λ _. count ≤ most) [
  | inl less ↦ let later : next ≡ suc turn = is ∙ mod-eq_of_lt less in h.over (inr (omega (arith, past, later)))
  | inr more ↦ let last : suc turn ≡ workers = omega (arith, below, more) in h.over (inl (is ∙ ap (λ (n : ℕ). n % workers) last ∙ mod_self workers))
]

behind_more : (workers worker turn next count most own first : ℕ) → turn < workers → next ≡ suc turn % workers → (turn ≡ worker → own ≡ 1) → (turn ≢ worker → own ≡ 0) → (turn ≡ 0 → first ≡ 1) → IsBehind worker next count most
    → IsBehind worker turn (own + count) (first + most)
behind_more workers worker turn next count most own first below is one none start h = elim (cases_eq turn worker) as (λ _. IsBehind worker turn (own + count) (first + most)) [
  | inl same ↦
      let gets = one same in
      let rest = over_next workers worker turn next count most below is (omega (arith, same)) h in
      record {
        near = omega (arith, gets, rest);
        over = λ passed. elim passed as (λ _. own + count ≤ first + most) [
          | inl zero_turn ↦ let too = start zero_turn in omega (arith, gets, rest, too)
          | inr less ↦ omega (arith, less, same)
        ];
      }
  | inr other ↦
      let gets = none other in
      let near = h.near in
      record {
        near = omega (arith, gets, near);
        over = λ passed. elim passed as (λ _. own + count ≤ first + most) [
          | inl zero_turn ↦ let too = start zero_turn in omega (arith, gets, near, too)
          | inr less ↦ let rest = over_next workers worker turn next count most below is (omega (arith, less)) h in omega (arith, gets, rest)
        ];
      }
]

behind : (workers worker : ℕ) (rows : Bag) (n : ℕ) → worker < workers → IsBehind worker (n % workers) (length (share_from n workers worker rows)) (length (share_from n workers 0 rows))
behind workers worker [] n below = record { near = omega arith; over = λ _. omega arith }
behind workers worker (row ∷ rows) n below =
    let turn = n % workers in
    let own = share_from (suc n) workers worker rows in
    let first = share_from (suc n) workers 0 rows in
    let some : 0 < workers = omega (arith, below) in
    let step = behind_more workers worker turn (suc n % workers) (length own) (length first) (cond (turn == worker) 1 0) (cond (turn == 0) 1 0) (mod_below n workers some) (suc-mod n workers)
    (λ same. ap (λ (b : Bool). cond b 1 0) (eq-eqb turn worker same)) (λ other. ap (λ (b : Bool). cond b 1 0) (ne_eqb turn worker other)) (λ same. ap (λ (b : Bool). cond b 1 0) (eq-eqb turn 0 same))
    (behind workers worker rows (suc n) below) in
    subst (λ (x : ℕ × ℕ). IsBehind worker turn x.0 x.1) (λ i. (sym (length_cond (turn == worker) row own) i, sym (length_cond (turn == 0) row first) i)) step

-- no share is longer than the first one
share_at_most : (workers worker : ℕ) (rows : Bag) → worker < workers → length (share_from 0 workers worker rows) ≤ length (share_from 0 workers 0 rows)
share_at_most workers worker rows below = (behind workers worker rows 0 below).over (inl (zero-mod workers))

module _ (p : ProgramData) (q : PhysicalData) (size at : ℕ) (rows : Bag) where
  all_at_most : (most from : ℕ) (row : List Unstarted) → length (share_from 0 q.workers 0 rows) ≤ most → AreUnstartedFrom p q size at rows from row → HaveAtMost most row
  all_at_most most from [] least h = tt
  all_at_most most from (u ∷ row) least h =
      let mine : length u.rows ≡ length (share_from 0 q.workers from rows) = ap length (h.0.is.rows ∙ h.0.is_share) in
      let less = share_at_most q.workers from rows h.0.is.below in
      (omega (arith, mine, less, least), all_at_most most (from + 1) row least h.1)

  pub first_is_longest : (most : ℕ) (row : List Unstarted) → most ≡ first_share row → AreUnstarted p q size at rows q.workers row → HaveAtMost most row
  first_is_longest most [] is h = tt
  first_is_longest most (u ∷ row) is h =
      let mine : length u.rows ≡ length (share_from 0 q.workers 0 rows) = ap length (h.each.0.is.rows ∙ h.each.0.is_share) in
      all_at_most most 0 (u ∷ row) (omega (arith, mine, is)) h.each
