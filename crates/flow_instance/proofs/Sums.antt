-- Sums over workers, and lengths.
use Rattle.std.proofs.Common.{◌≡◌, ◌<◌, ◌≤◌, inl, inr, ◌+◌, ◌*◌, ◌%◌, ◌==◌, ℕ, zero, suc, Bool, true, false, ◌||◌, cond, not, List, [], ◌∷◌, ◌++◌, length, map, filter, refl, ap, sym, ◌∙◌, arith, length-append}
use Rattle.std.proofs.lemmas.List.{length-map}
use Rattle.std.specs.Prelude.{flat_map}
use Rattle.std.proofs.Math.Nat.{mul-le-mul, suc-mul, le_refl, mul-zero}
use Rattle.std.proofs.lemmas.Bool.{cases_eq, ne_eqb}
use Rattle.std.proofs.lemmas.List.Sorted.{length_permutation}
use Rattle.pact_bag.specs.Groups.{distinct_keys, do_match, group_of_key, is_same_key}
use Rattle.pact_operators.specs.Allowed.{Bag, CoGrouped, Grouped, keys_in, keys_in_either}
use Rattle.pact_bag.specs.Pairs.{crossed, matched, has_null, unless_null}
use Rattle.std.proofs.lemmas.List.Sums.{count_by-le-length, length-filter}
use Rattle.pact_record.specs.declared.values.Value.{Value}
use Rattle.pact_record.specs.Record.{key_of}
use Rattle.flow_instance.specs.declared.notes.Note.{Note}
use Rattle.flow_instance.specs.declared.notes.Note.TheVariants.{Batch, End}
use Rattle.flow_instance.specs.Local.{one_if}
use Rattle.flow_instance.specs.Notes.{AreNotes, rows_of}
use Rattle.plan_trees.specs.Sending.{all_of, share_from}
use Rattle.flow_instance.specs.Spread.{sum_below}

pub kept-le : {X : Type 0} (test : X → Bool) (xs : List X) → length (filter test xs) ≤ length xs
kept-le test xs = omega (arith, length-filter test xs, count_by-le-length test xs)

-- ---- sums

pub sum-le : (n : ℕ) (f h : ℕ → ℕ) → ((k : ℕ) → k < n → f k ≤ h k) → sum_below n f ≤ sum_below n h
sum-le zero f h e = omega arith
sum-le (suc n) f h e =
    let rest : sum_below n f ≤ sum_below n h = sum-le n f h (λ k less. e k (omega arith)) in
    let here : f n ≤ h n = e n (omega arith) in
    omega arith

pub sum-const : (n c : ℕ) (f : ℕ → ℕ) → ((k : ℕ) → k < n → f k ≤ c) → sum_below n f ≤ n * c
sum-const zero c f e = omega arith
sum-const (suc n) c f e =
    let rest : sum_below n f ≤ n * c = sum-const n c f (λ k less. e k (omega arith)) in
    let here : f n ≤ c = e n (omega arith) in
    omega (arith, suc-mul n c)

pub sum-plus : (n : ℕ) (f h : ℕ → ℕ) → sum_below n (λ k. f k + h k) ≡ sum_below n f + sum_below n h
sum-plus zero f h = refl
sum-plus (suc n) f h = omega (arith, sum-plus n f h)

pub distributes : (c a b : ℕ) → c * (a + b) ≡ c * a + c * b
distributes c a b = grind arith

-- summing c times f is c times the sum of f
pub sum-times : (n c : ℕ) (f : ℕ → ℕ) → sum_below n (λ k. c * f k) ≡ c * sum_below n f
sum-times zero c f = omega arith
sum-times (suc n) c f = ap (λ (x : ℕ). x + c * f n) (sum-times n c f) ∙ sym (distributes c (sum_below n f) (f n))

pub length-all_of : (n : ℕ) (f : ℕ → Bag) → length (all_of n f) ≡ sum_below n (λ k. length (f k))
length-all_of zero f = refl
length-all_of (suc n) f = omega (arith, length-append (f n) (all_of n f), length-all_of n f)

-- ---- notes

-- each batch has a record, and there is at most one end mark
pub few_notes : (fields : ℕ) (ns : List Note) → AreNotes fields ns → length ns ≤ length (rows_of ns) + 1
few_notes fields [] h = omega arith
few_notes fields (Batch rows ∷ ns) h =
    let rest : length ns ≤ length (rows_of ns) + 1 = few_notes fields ns h.2 in
    let some : 0 < length rows = h.0 in
    omega (arith, length-append rows (rows_of ns))
few_notes fields (End ∷ ns) h = omega (arith, ap length h)

-- ---- shares

pub at_most : (b : Bool) → one_if b ≤ 1
at_most true = omega arith
at_most false = omega arith

zero_if : (b : Bool) → b ≡ false → one_if b ≤ 0
zero_if true e = absurd (cc)
zero_if false e = omega arith

one_place : (m n : ℕ) → sum_below n (λ k. one_if (m == k)) ≤ 1
one_place m zero = omega arith
one_place m (suc n) = elim (cases_eq m n) as (λ _. sum_below (suc n) (λ k. one_if (m == k)) ≤ 1) [
  | inl e ↦
      let rest : sum_below n (λ k. one_if (m == k)) ≤ n * 0 = sum-const n 0 (λ k. one_if (m == k)) (λ k less. zero_if (m == k) (ne_eqb m k (λ x. omega (arith, e, x)))) in
      let last : one_if (m == n) ≤ 1 = at_most (m == n) in
      omega (arith, mul-zero n)
  | inr other ↦
      let last : one_if (m == n) ≤ 0 = zero_if (m == n) (ne_eqb m n other) in
      omega (arith, one_place m n)
]

length_if : (b : Bool) (row : List Value) (rows : Bag) → length (cond b (row ∷ rows) rows) ≡ one_if b + length rows
length_if true row rows = omega arith
length_if false row rows = omega arith

pub shares : (start n workers : ℕ) (rows : Bag) → sum_below n (λ k. length (share_from start workers k rows)) ≤ length rows
shares start n workers [] = omega (arith, mul-zero n, sum-const n 0 (λ k. 0) (λ k less. omega arith))
shares start n workers (row ∷ rows) =
    let split : sum_below n (λ k. length (share_from start workers k (row ∷ rows))) ≤ sum_below n (λ k. one_if (start % workers == k) + length (share_from (suc start) workers k rows)) =
    sum-le n (λ k. length (share_from start workers k (row ∷ rows))) (λ k. one_if (start % workers == k) + length (share_from (suc start) workers k rows))
    (λ k less. omega (arith, length_if (start % workers == k) row (share_from (suc start) workers k rows))) in
    omega (arith, split, sum-plus n (λ k. one_if (start % workers == k)) (λ k. length (share_from (suc start) workers k rows)), one_place (start % workers) n, shares (suc start) n workers rows)

-- ---- the output of operators

pub flat_length : (f : List Value → Bag) (c : ℕ) (rows : Bag) → ((row : List Value) → length (f row) ≤ c) → length (flat_map f rows) ≤ length rows * c
flat_length f c [] h = omega arith
flat_length f c (row ∷ rows) h = omega (arith, length-append (f row) (flat_map f rows), h row, flat_length f c rows h, suc-mul (length rows) c)

pub crossed_length : (f : List Value → List Value → Bag) (c : ℕ) (ls rs : Bag) → ((l r : List Value) → length (f l r) ≤ c) → length (crossed f ls rs) ≤ length ls * (length rs * c)
crossed_length f c ls rs h = flat_length (λ l. flat_map (f l) rs) (length rs * c) ls (λ l. flat_length (f l) c rs (h l))

if_less : (b : Bool) (xs : Bag) (c : ℕ) → length xs ≤ c → length (cond b xs []) ≤ c
if_less true xs c h = h
if_less false xs c h = omega arith

pub matched_length : (nulls : Bool) (f : List Value → List Value → Bag) (left_keys right_keys : List ℕ) (c : ℕ) (l r : List Value) → length (f l r) ≤ c → length (matched nulls f left_keys right_keys l r) ≤ c
matched_length nulls f left_keys right_keys c l r h =
    if_less (do_match left_keys right_keys l r) (unless_null nulls f left_keys l r) c (if_less (nulls || not (has_null (key_of left_keys l))) (f l r) c h)

few_keys : (ks : List (List Value)) → length (distinct_keys ks) ≤ length ks
few_keys [] = omega arith
few_keys (k ∷ ks) = omega (arith, kept-le (λ j. not (is_same_key k j)) (distinct_keys ks), few_keys ks)

grouped_length : (f : List Value → Bag → Bag) (keys : List ℕ) (c : ℕ) (rows : Bag) (ks : List (List Value)) (out : Bag)
    → ((key : List Value) (group : Bag) → length group ≤ length rows → length (f key group) ≤ c) → Grouped f keys rows ks out → length out ≤ length ks * c
grouped_length f keys c rows [] out h e = omega (arith, ap length e)
grouped_length f keys c rows (k ∷ ks) out h e =
    let small : length e.0 ≤ length rows = omega (arith, length_permutation (group_of_key keys rows k) e.0 e.2, kept-le (λ row. is_same_key (key_of keys row) k) rows) in
    omega (arith, ap length e.3 ∙ length-append (f k e.0) e.1, h k e.0 small, grouped_length f keys c rows ks e.1 h e.4, suc-mul (length ks) c)

pub reduce_length : (f : List Value → Bag → Bag) (keys : List ℕ) (c : ℕ) (rows out : Bag)
    → ((key : List Value) (group : Bag) → length group ≤ length rows → length (f key group) ≤ c) → Grouped f keys rows (keys_in keys rows) out → length out ≤ length rows * c
reduce_length f keys c rows out h e =
    let few : length (keys_in keys rows) ≤ length rows = omega (arith, few_keys (map (key_of keys) rows), length-map rows (key_of keys)) in
    omega (arith, grouped_length f keys c rows (keys_in keys rows) out h e, mul-le-mul few (le_refl c))

cogrouped_length : (f : List Value → Bag → Bag → Bag) (left_keys right_keys : List ℕ) (c : ℕ) (ls rs : Bag) (ks : List (List Value)) (out : Bag)
    → ((key : List Value) (left right : Bag) → length left ≤ length ls → length right ≤ length rs → length (f key left right) ≤ c) → CoGrouped f left_keys right_keys ls rs ks out → length out ≤ length ks * c
cogrouped_length f left_keys right_keys c ls rs [] out h e = omega (arith, ap length e)
cogrouped_length f left_keys right_keys c ls rs (k ∷ ks) out h e =
    let left_small : length e.0 ≤ length ls = omega (arith, length_permutation (group_of_key left_keys ls k) e.0 e.3, kept-le (λ row. is_same_key (key_of left_keys row) k) ls) in
    let right_small : length e.1 ≤ length rs = omega (arith, length_permutation (group_of_key right_keys rs k) e.1 e.4, kept-le (λ row. is_same_key (key_of right_keys row) k) rs) in
    omega (arith, ap length e.5 ∙ length-append (f k e.0 e.1) e.2, h k e.0 e.1 left_small right_small, cogrouped_length f left_keys right_keys c ls rs ks e.2 h e.6, suc-mul (length ks) c)

pub cogroup_length : (f : List Value → Bag → Bag → Bag) (left_keys right_keys : List ℕ) (c : ℕ) (ls rs out : Bag)
    → ((key : List Value) (left right : Bag) → length left ≤ length ls → length right ≤ length rs → length (f key left right) ≤ c)
    → CoGrouped f left_keys right_keys ls rs (keys_in_either left_keys right_keys ls rs) out → length out ≤ (length ls + length rs) * c
cogroup_length f left_keys right_keys c ls rs out h e =
    let few : length (keys_in_either left_keys right_keys ls rs) ≤ length ls + length rs =
    omega (arith, few_keys (map (key_of left_keys) ls ++ map (key_of right_keys) rs), length-append (map (key_of left_keys) ls) (map (key_of right_keys) rs), length-map ls (key_of left_keys), length-map rs (key_of right_keys)) in
    omega (arith, cogrouped_length f left_keys right_keys c ls rs (keys_in_either left_keys right_keys ls rs) out h e, mul-le-mul few (le_refl c))
