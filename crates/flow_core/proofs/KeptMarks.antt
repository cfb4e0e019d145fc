-- Each instance is on the stack as often as it is marked.
use Rattle.std.proofs.Common.{◌≡◌, ◌≢◌, ◌<◌, ◌≤◌, ◌+◌, ◌++◌, ◌∷◌, ◌⊎◌, [], inl, inr, ℕ, zero, suc, Bool, true, false, cond, List, get_or, length, replicate, rules, set, refl, ap, subst, sym, ◌∙◌, arith}
use Rattle.std.proofs.lemmas.Bool.{cases_eq, cases_lt, eq-eqb, ne_eqb}
use Rattle.std.proofs.lemmas.List.{get_or-set_other, get_or-set_same, get_or_past}
use Rattle.flow_core.specs.Listed.{IsKept, is_marked, times, with_mark}

-- ---- marks

-- whether an instance has a mark and is marked
abbrev marked : List (List Bool) → (at worker : ℕ) → Bool
marked marks at worker = get_or (get_or marks at []) worker false

-- an index whose item isn't the default is within the list
within : {X : Type 0} (xs : List X) (i : ℕ) (d : X) → (get_or xs i d ≡ d → ⊥) → i < length xs
within xs i d h = elim (cases_lt i (length xs)) as (λ _. i < length xs) [
  | inl less ↦ less
  | inr more ↦ absurd (h (get_or_past xs i d more))
]

record HasMark (marks : List (List Bool)) (at worker : ℕ) : Type 0 where
  number : at < length marks
  place : worker < length (get_or marks at [])

-- a mark that isn't the default is within the lists
none_there : (marks : List (List Bool)) (at worker : ℕ) (d : Bool) → (get_or (get_or marks at []) worker d ≡ d → ⊥) → HasMark marks at worker
none_there marks at worker d h = record {
  number = within marks at [] (λ e. h (ap (λ (row : List Bool). get_or row worker d) e));
  place = within (get_or marks at []) worker d h;
}

mark_here : (marks : List (List Bool)) (at worker : ℕ) (b : Bool) → HasMark marks at worker → marked (with_mark marks at worker b) at worker ≡ b
mark_here marks at worker b h =
    ap (λ (row : List Bool). get_or row worker false) (get_or-set_same marks at (set (get_or marks at []) worker b) [] h.number)
    ∙ get_or-set_same (get_or marks at []) worker b false h.place

mark_apart : (marks : List (List Bool)) (at worker a c : ℕ) (b : Bool) → a ≢ at → marked (with_mark marks at worker b) a c ≡ marked marks a c
mark_apart marks at worker a c b other = ap (λ (row : List Bool). get_or row c false) (get_or-set_other marks at a (set (get_or marks at []) worker b) [] other)

mark_beside : (marks : List (List Bool)) (at worker a c : ℕ) (b : Bool) → HasMark marks at worker → (a ≢ at) ⊎ (c ≢ worker) → marked (with_mark marks at worker b) a c ≡ marked marks a c
mark_beside marks at worker a c b h (inl other) = mark_apart marks at worker a c b other
mark_beside marks at worker a c b h (inr other) = elim (cases_eq a at) as (λ _. marked (with_mark marks at worker b) a c ≡ marked marks a c) [
  | inl same ↦
      subst (λ (n : ℕ). marked (with_mark marks at worker b) n c ≡ marked marks n c) (sym same)
      (ap (λ (row : List Bool). get_or row c false) (get_or-set_same marks at (set (get_or marks at []) worker b) [] h.number)
      ∙ get_or-set_other (get_or marks at []) worker c b false other)
  | inr apart ↦ mark_apart marks at worker a c b apart
]

-- ---- the stack

times-append : (a c : ℕ) (xs ys : List (ℕ × ℕ)) → times a c (xs ++ ys) ≡ times a c xs + times a c ys
times-append a c [] ys = omega arith
times-append a c (x ∷ xs) ys =
    let rest = times-append a c xs ys in
    omega (arith, rest)

one : (at worker : ℕ) → times at worker ((at, worker) ∷ []) ≡ 1
one at worker = rw (eq-eqb at at refl, eq-eqb worker worker refl) refl

none : (at worker a c : ℕ) → (a ≢ at) ⊎ (c ≢ worker) → times a c ((at, worker) ∷ []) ≡ 0
none at worker a c (inl other) = rw (ne_eqb a at other) refl
none at worker a c (inr other) = elim (cases_eq a at) as (λ _. times a c ((at, worker) ∷ []) ≡ 0) [
  | inl same ↦ rw (eq-eqb a at same, ne_eqb c worker other) refl
  | inr apart ↦ rw (ne_eqb a at apart) refl
]

-- ---- both

pub kept_empty : (n m : ℕ) → IsKept [] (replicate n (replicate m false))
kept_empty zero m at worker = refl
kept_empty (suc n) m zero worker = row m worker
  where
    row : (m worker : ℕ) → ◌≡◌ {A = ℕ} 0 (cond (get_or (replicate m false) worker false) 1 0)
    row zero worker = refl
    row (suc m) zero = refl
    row (suc m) (suc worker) = row m worker
kept_empty (suc n) m (suc at) worker = kept_empty n m at worker

same_or_apart : (at worker a c : ℕ) → ((a ≡ at) × (c ≡ worker)) ⊎ ((a ≢ at) ⊎ (c ≢ worker))
same_or_apart at worker a c = elim (cases_eq a at) as (λ _. ((a ≡ at) × (c ≡ worker)) ⊎ ((a ≢ at) ⊎ (c ≢ worker))) [
  | inr other ↦ inr (inl other)
  | inl e ↦ elim (cases_eq c worker) as (λ _. ((a ≡ at) × (c ≡ worker)) ⊎ ((a ≢ at) ⊎ (c ≢ worker))) [
    | inl f ↦ inl (e, f)
    | inr other ↦ inr (inr other)
  ]
]

pub kept_push : (stack : List (ℕ × ℕ)) (marks : List (List Bool)) (at worker : ℕ) → IsKept stack marks → is_marked marks at worker ≡ false
    → IsKept (stack ++ (at, worker) ∷ []) (with_mark marks at worker true)
kept_push stack marks at worker k off a c = by_place (same_or_apart at worker a c)
  where
    there : HasMark marks at worker
    there = none_there marks at worker true (λ on. let clash : true ≡ false = sym on ∙ off in cc)

    unmarked : marked marks at worker ≡ false
    unmarked = kept_default (get_or marks at []) worker there.place off
      where
        kept_default : (row : List Bool) (i : ℕ) → i < length row → get_or row i true ≡ false → get_or row i false ≡ false
        kept_default row i less e = search (rules, less, e)

    by_place : ((a ≡ at) × (c ≡ worker)) ⊎ ((a ≢ at) ⊎ (c ≢ worker)) → times a c (stack ++ (at, worker) ∷ []) ≡ cond (marked (with_mark marks at worker true) a c) 1 0
    by_place (inl same) =
        let all = times-append at worker stack ((at, worker) ∷ []) in
        let last = one at worker in
        let before : times at worker stack ≡ 0 = k at worker ∙ ap (λ b. cond b 1 0) unmarked in
        let here : times at worker (stack ++ (at, worker) ∷ []) ≡ 1 = omega (arith, all, last, before) in
        (λ i. times (same.0 i) (same.1 i) (stack ++ (at, worker) ∷ [])) ∙ here ∙ sym (ap (λ b. cond b 1 0) ((λ i. marked (with_mark marks at worker true) (same.0 i) (same.1 i)) ∙ mark_here marks at worker true there))
    by_place (inr apart) =
        let all = times-append a c stack ((at, worker) ∷ []) in
        let last = none at worker a c apart in
        let before = k a c in
        let total : times a c (stack ++ (at, worker) ∷ []) ≡ cond (marked marks a c) 1 0 = omega (arith, all, last, before) in
        total ∙ ap (λ b. cond b 1 0) (sym (mark_beside marks at worker a c true there apart))

pub kept_pop : (stack rest : List (ℕ × ℕ)) (marks : List (List Bool)) (at worker : ℕ) → IsKept stack marks → stack ≡ rest ++ (at, worker) ∷ []
    → IsKept rest (with_mark marks at worker false)
kept_pop stack rest marks at worker k is a c = by_place (same_or_apart at worker a c)
  where
    count : (a c : ℕ) → times a c rest + times a c ((at, worker) ∷ []) ≡ cond (marked marks a c) 1 0
    count a c = sym (times-append a c rest ((at, worker) ∷ [])) ∙ ap (times a c) (sym is) ∙ k a c

    there : HasMark marks at worker
    there = none_there marks at worker false (λ off.
        let all = count at worker ∙ ap (λ b. cond b 1 0) off in
        let last = one at worker in
        omega (arith, all, last))

    at_most : (b : Bool) → cond b 1 0 ≤ 1
    at_most true = omega arith
    at_most false = omega arith

    by_place : ((a ≡ at) × (c ≡ worker)) ⊎ ((a ≢ at) ⊎ (c ≢ worker)) → times a c rest ≡ cond (marked (with_mark marks at worker false) a c) 1 0
    by_place (inl same) =
        let all = count at worker in
        let last = one at worker in
        let most = at_most (marked marks at worker) in
        let gone : times at worker rest ≡ 0 = omega (arith, all, last, most) in
        (λ i. times (same.0 i) (same.1 i) rest) ∙ gone ∙ sym (ap (λ b. cond b 1 0) ((λ i. marked (with_mark marks at worker false) (same.0 i) (same.1 i)) ∙ mark_here marks at worker false there))
    by_place (inr apart) =
        let all = count a c in
        let last = none at worker a c apart in
        let total : times a c rest ≡ cond (marked marks a c) 1 0 = omega (arith, all, last) in
        total ∙ ap (λ b. cond b 1 0) (sym (mark_beside marks at worker a c false there apart))
