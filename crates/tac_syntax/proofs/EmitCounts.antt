-- How many records a call emits lies within the bounds.
use Rattle.std.proofs.Common.{◌≡◌, ◌≤◌, ◌<◌, ◌+◌, ◌*◌, ◌==◌, ℕ, zero, suc, min, max, Bool, true, false, if◌then◌else◌, List, [], ◌∷◌, inl, inr, length, refl, sym, ap, subst, ◌∙◌, arith}
use Rattle.std.proofs.Math.Nat.{suc-mul}
use Rattle.std.proofs.lemmas.Bool.{cases_Bool, eqb-true}
use Rattle.pact_record.specs.declared.values.Value.{Value}
use Rattle.pact_record.specs.Value.{is_true}
use Rattle.tac_syntax.specs.declared.functions.Kind.{Kind}
use Rattle.tac_syntax.specs.declared.functions.Kind.TheVariants.{Map, Match, Cross, Reduce, CoGroup}
use Rattle.tac_syntax.specs.declared.statements.LoopList.{LoopList}
use Rattle.tac_syntax.specs.declared.statements.LoopList.TheVariants.{Group, Left as LeftGroup, Right as RightGroup}
use Rattle.tac_syntax.specs.Code.{Code, stop, plain, branch, again, each}
use Rattle.tac_syntax.specs.Call.{CallInput, of_record, of_pair, of_group, of_groups, Store, value_in, rows_of, after, bind, start_store}
use Rattle.tac_syntax.specs.Exec.{times, for_each, exec}
use Rattle.tac_syntax.proofs.EmitsOfSteps.{count, count_after}
use Rattle.tac_syntax.proofs.StepsAsRecursion.{Out-exec, input-after, input-exec}
use Rattle.tac_syntax.specs.CallInputs.{IsInputOf, HasSome}
use Rattle.tac_syntax.specs.EmitBounds.{many, at_least_one, least_emits, most_emits, AreBounds}
use Rattle.tac_syntax.specs.WellFormed.{HasList, IsWellFormed}

-- ---- turns

times_least : (n low : ℕ) (f : Store → Store) (x : CallInput) → ((s : Store) → s.input ≡ x → (count s + low ≤ count (f s)) × ((f s).input ≡ x)) → (s : Store) → s.input ≡ x
    → (count s + n * low ≤ count (times n f s)) × ((times n f s).input ≡ x)
times_least zero low f x h s i = (omega arith, i)
times_least (suc n) low f x h s i =
    let one = h s i in
    let rest = times_least n low f x h (f s) one.1 in
    (omega (arith, one.0, rest.0, suc-mul n low), rest.1)

times_most : (n high : ℕ) (f : Store → Store) → ((s : Store) → count (f s) ≤ count s + high) → (s : Store) → count (times n f s) ≤ count s + n * high
times_most zero high f h s = omega arith
times_most (suc n) high f h s = omega (arith, h s, times_most n high f h (f s), suc-mul n high)

rows_least : (name : ℕ) (rows : List (List Value)) (f : Store → Store) (x : CallInput) → ((s : Store) → s.input ≡ x → (count s ≤ count (f s)) × ((f s).input ≡ x)) → (s : Store) → s.input ≡ x
    → (count s ≤ count (for_each name rows f s)) × ((for_each name rows f s).input ≡ x)
rows_least name [] f x h s i = (omega arith, i)
rows_least name (row ∷ rows) f x h s i =
    let one = h (bind s name row) i in
    let rest = rows_least name rows f x h (f (bind s name row)) one.1 in
    (omega (arith, one.0, rest.0), rest.1)

some_row_least : (name low : ℕ) (rows : List (List Value)) (f : Store → Store) (x : CallInput) → 0 < length rows
    → ((s : Store) → s.input ≡ x → (count s + low ≤ count (f s)) × ((f s).input ≡ x)) → (s : Store) → s.input ≡ x → count s + low ≤ count (for_each name rows f s)
some_row_least name low [] f x some h s i = absurd (omega (arith, some))
some_row_least name low (row ∷ rows) f x some h s i =
    let one = h (bind s name row) i in
    let rest = rows_least name rows f x (λ t j. let o = h t j in (omega (arith, o.0), o.1)) (f (bind s name row)) one.1 in
    omega (arith, one.0, rest.0)

rows_none : (name : ℕ) (rows : List (List Value)) (f : Store → Store) → ((s : Store) → count (f s) ≤ count s) → (s : Store) → count (for_each name rows f s) ≤ count s
rows_none name [] f h s = omega arith
rows_none name (row ∷ rows) f h s = omega (arith, h (bind s name row), rows_none name rows f h (f (bind s name row)))

-- ---- at least

either_input : (b : Bool) (s t : Store) (x : CallInput) → s.input ≡ x → t.input ≡ x → (if b then s else t).input ≡ x
either_input true s t x h g = h
either_input false s t x h g = g

either_least : (b : Bool) (s t : Store) (n low high : ℕ) → n + low ≤ count s → n + high ≤ count t → n + min low high ≤ count (if b then s else t)
either_least true s t n low high h g = omega (arith, h)
either_least false s t n low high h g = omega (arith, g)

-- the list of a Reduce's loop has a record
abbrev SomeRow : Kind → CallInput → Type 0
SomeRow kind x = HasList kind Group → 0 < length (rows_of x Group)

list_least : (list : LoopList) (kind : Kind) (x : CallInput) → SomeRow kind x → HasList kind list → (name low n : ℕ) (f : Store → Store) (s : Store) → s.input ≡ x
    → ((t : Store) → t.input ≡ x → (count t + low ≤ count (f t)) × ((f t).input ≡ x)) → count s + at_least_one list low ≤ count (for_each name (rows_of x list) f s)
list_least Group kind x some i name low n f s e h = some_row_least name low (rows_of x Group) f x (some i) h s e
list_least LeftGroup kind x some i name low n f s e h =
    let r = (rows_least name (rows_of x LeftGroup) f x (λ t j. let o = h t j in (omega (arith, o.0), o.1)) s e).0 in omega (arith, r)
list_least RightGroup kind x some i name low n f s e h =
    let r = (rows_least name (rows_of x RightGroup) f x (λ t j. let o = h t j in (omega (arith, o.0), o.1)) s e).0 in omega (arith, r)

least_of : (code : Code) (kind : Kind) (fields depth : ℕ) (x : CallInput) → SomeRow kind x → IsWellFormed kind fields depth code → (s : Store) → s.input ≡ x → count s + least_emits code ≤ count (exec code s)
least_of stop kind fields depth x some f s i = omega arith
least_of (plain a next) kind fields depth x some f s i =
    let rest = least_of next kind fields depth x some f.1 (after a s) (input-after a s ∙ i) in omega (arith, rest, count_after a s)
least_of (branch on body other next) kind fields depth x some f s i =
    let p = least_of body kind fields depth x some f.0 s i in
    let q = least_of other kind fields depth x some f.1 s i in
    let b = is_true (value_in s on) in
    let both = either_least b (exec body s) (exec other s) (count s) (least_emits body) (least_emits other) p q in
    let rest = least_of next kind fields depth x some f.2 (if b then exec body s else exec other s) (either_input b (exec body s) (exec other s) x (input-exec body s ∙ i) (input-exec other s ∙ i)) in
    omega (arith, both, rest)
least_of (again n body next) kind fields depth x some f s i =
    let t = times_least n (least_emits body) (exec body) x (λ u j. (least_of body kind fields depth x some f.1 u j, input-exec body u ∙ j)) s i in
    let rest = least_of next kind fields depth x some f.2 (times n (exec body) s) t.1 in
    omega (arith, t.0, rest)
least_of (each name list body next) kind fields depth x some f s i =
    let one : (u : Store) → u.input ≡ x → (count u + least_emits body ≤ count (exec body u)) × ((exec body u).input ≡ x) =
    λ u j. (least_of body kind fields (depth + 1) x some f.2 u j, input-exec body u ∙ j) in
    let t = subst (λ (z : CallInput). count s + at_least_one list (least_emits body) ≤ count (for_each name (rows_of z list) (exec body) s)) (sym i)
    (list_least list kind x some f.1 name (least_emits body) 0 (exec body) s i one) in
    let inside = (rows_least name (rows_of s.input list) (exec body) x (λ u j. let o = one u j in (omega (arith, o.0), o.1)) s i).1 in
    let rest = least_of next kind fields depth x some f.3 (for_each name (rows_of s.input list) (exec body) s) inside in
    omega (arith, t, rest)

-- ---- at most

either_most : (b : Bool) (s t : Store) (n low high : ℕ) → count s ≤ n + low → count t ≤ n + high → count (if b then s else t) ≤ n + max low high
either_most true s t n low high h g = omega (arith, h)
either_most false s t n low high h g = omega (arith, g)

most_of : (code : Code) → most_emits code < many → (s : Store) → count (exec code s) ≤ count s + most_emits code
most_of stop few s = omega arith
most_of (plain a next) few s = let rest = most_of next (omega (arith, few)) (after a s) in omega (arith, rest, count_after a s, few)
most_of (branch on body other next) few s =
    let b = is_true (value_in s on) in
    let p = most_of body (omega (arith, few)) s in
    let q = most_of other (omega (arith, few)) s in
    let both = either_most b (exec body s) (exec other s) (count s) (most_emits body) (most_emits other) p q in
    let rest = most_of next (omega (arith, few)) (if b then exec body s else exec other s) in
    omega (arith, both, rest, few)
most_of (again zero body next) few s = let rest = most_of next (omega (arith, few)) s in omega (arith, rest, few)
most_of (again (suc n) body next) few s =
    let some = suc-mul n (most_emits body) in
    let t = times_most (suc n) (most_emits body) (exec body) (λ u. most_of body (omega (arith, few, some)) u) s in
    let rest = most_of next (omega (arith, few)) (times (suc n) (exec body) s) in
    omega (arith, t, rest, few)
most_of (each name list body next) few s = elim (cases_Bool (most_emits body == 0)) as (λ _. count (exec (each name list body next) s) ≤ count s + most_emits (each name list body next)) [
  | inl none ↦
      let is = eqb-true (most_emits body) 0 none in
      let here = ap (λ (b : Bool). if b then 0 else many) none in
      let t = rows_none name (rows_of s.input list) (exec body) (λ u. let m = most_of body (omega (arith, is)) u in omega (arith, m, is)) s in
      let rest = most_of next (omega (arith, few)) (for_each name (rows_of s.input list) (exec body) s) in
      omega (arith, t, rest, few, here)
  | inr some ↦ let here = ap (λ (b : Bool). if b then 0 else many) some in absurd (omega (arith, few, here))
]

-- ---- one call

some_row : (kind : Kind) (x : CallInput) → IsInputOf kind x → HasSome x → SomeRow kind x
some_row Map x h some list = cc
some_row Match x h some list = cc
some_row Cross x h some list = cc
some_row Reduce (of_record row) h some list = absurd h
some_row Reduce (of_pair l r) h some list = absurd h
some_row Reduce (of_group key g) h some list = some
some_row Reduce (of_groups key l r) h some list = absurd h
some_row CoGroup x h some list = cc

pub AreBounds-emits : (kind : Kind) (fields : ℕ) (body : Code) → IsWellFormed kind fields 0 body → AreBounds kind fields body (least_emits body) (most_emits body)
AreBounds-emits kind fields body fine = record {
  least = λ x h some. subst (λ (l : List (List Value)). least_emits body ≤ length l) (sym (Out-exec fields body x))
      (let p = least_of body kind fields 0 x (some_row kind x h some) fine (start_store fields x) refl in omega (arith, p));
  most = λ few x. subst (λ (l : List (List Value)). length l ≤ most_emits body) (sym (Out-exec fields body x))
      (let p = most_of body few (start_store fields x) in omega (arith, p));
}
