-- The effect of the calls of `Links` on the lists of nodes.
use Rattle.std.proofs.Common.{◌≡◌, ◌≢◌, inl, inr, ◌<◌, ◌≤◌, ◌+◌, ℕ, zero, suc, false, List, [], ◌∷◌, ◌++◌, length, map, get_or, refl, ap, sym, ◌∙◌, subst, arith}
use Rattle.std.specs.Prelude.{slice_set}
use Rattle.std.proofs.lemmas.Bool.{cases_eq}
use Rattle.std.proofs.lemmas.Bool.Decides.{nat_tests}
use Rattle.std.proofs.lemmas.List.{get_or-map, get_or-set_other, get_or-set_same, get_or_append_left, length-append, length-map, length-set, map-set}
use Rattle.chain_arena.specs.declared.joins.Chain.{Chain}
use Rattle.chain_arena.proofs.Lists.{agree_off}
use Rattle.chain_arena.specs.Joins.{empty_chain, joined, joined_next, single_of, without_first_of}
use Rattle.chain_arena.specs.Placed.{ArePlaced}
use Rattle.chain_arena.specs.Linked.{AreLinked, IsInNone, is_in, next_of, nodes_of, table, total}
use Rattle.chain_arena.proofs.Placing.{AreJoined, IsGrown, IsSplit, joined-placed, split-placed, grown-placed}
use Rattle.chain_arena.proofs.Listed.{grown-others, first_elsewhere, last_elsewhere, joined-nodes, joined-others, last_within}

-- ---- chains joined

joined-both : (x y : Chain) → 0 < x.count → 0 < y.count → joined x y ≡ record { first = x.first; last = y.last; count = x.count + y.count }
joined-both x y some more = grind (arith, nat_tests)

joined-front : (x y : Chain) → y.count ≡ 0 → joined x y ≡ x
joined-front x y none = grind (arith, nat_tests)

joined-behind : (x y : Chain) → x.count ≡ 0 → 0 < y.count → joined x y ≡ y
joined-behind x y none more = grind (arith, nat_tests)

joined_next-both : (next : List ℕ) (x y : Chain) → 0 < x.count → 0 < y.count → joined_next next x y ≡ slice_set next x.last y.first
joined_next-both next x y some more = grind (arith, nat_tests)

joined_next-front : (next : List ℕ) (x y : Chain) → y.count ≡ 0 → joined_next next x y ≡ next
joined_next-front next x y none = grind (arith, nat_tests)

joined_next-behind : (next : List ℕ) (x y : Chain) → x.count ≡ 0 → joined_next next x y ≡ next
joined_next-behind next x y none = grind (arith, nat_tests)

-- by cases: both chains have nodes, or one of them has none
by_counts : (P : Type 0) (n m : ℕ) → (0 < n → 0 < m → P) → (n ≡ 0 → 0 < m → P) → (m ≡ 0 → P) → P
by_counts P n zero both behind front = front refl
by_counts P zero (suc m) both behind front = behind refl (omega arith)
by_counts P (suc n) (suc m) both behind front = both (omega arith) (omega arith)

pub joined-count : (x y : Chain) → (joined x y).count ≡ x.count + y.count
joined-count x y = by_counts ((joined x y).count ≡ x.count + y.count) x.count y.count
    (λ some more. ap (λ (c : Chain). c.count) (joined-both x y some more))
    (λ none more. ap (λ (c : Chain). c.count) (joined-behind x y none more) ∙ (omega (arith, none)))
    (λ none. ap (λ (c : Chain). c.count) (joined-front x y none) ∙ (omega (arith, none)))

pub length-joined_next : (next : List ℕ) (x y : Chain) → length (joined_next next x y) ≡ length next
length-joined_next next x y = by_counts (length (joined_next next x y) ≡ length next) x.count y.count
    (λ some more. ap length (joined_next-both next x y some more) ∙ length-set next x.last y.first)
    (λ none more. ap length (joined_next-behind next x y none))
    (λ none. ap length (joined_next-front next x y none))

are_joined : (next : List ℕ) (chain chain_after : ℕ → Chain) (a b : ℕ) → (0 < (chain a).count → (chain a).last < length next) → a ≢ b → chain_after a ≡ joined (chain a) (chain b) → (chain_after b).count ≡ 0
    → ((c : ℕ) → c ≢ a → c ≢ b → chain_after c ≡ chain c) → AreJoined (next_of next) (next_of (joined_next next (chain a) (chain b))) chain chain_after a b
are_joined next chain chain_after a b last ne e none others = record {
  differ = ne;
  link = λ some more. ap (λ l. get_or l x.last 0) (joined_next-both next x y some more) ∙ get_or-set_same next x.last y.first 0 (last some);
  other_links = λ i not_last. by_counts (get_or (joined_next next x y) i 0 ≡ get_or next i 0) x.count y.count
      (λ some more. ap (λ l. get_or l i 0) (joined_next-both next x y some more) ∙ get_or-set_other next x.last i y.first 0 (not_last some more))
      (λ none more. ap (λ l. get_or l i 0) (joined_next-behind next x y none))
      (λ none. ap (λ l. get_or l i 0) (joined_next-front next x y none));
  count = ap (λ (c : Chain). c.count) e ∙ joined-count x y;
  first = λ some. ap (λ (c : Chain). c.first) e ∙ by_counts ((joined x y).first ≡ x.first) x.count y.count
      (λ some more. ap (λ (c : Chain). c.first) (joined-both x y some more))
      (λ none more. absurd (omega (arith, none, some)))
      (λ none. ap (λ (c : Chain). c.first) (joined-front x y none));
  first_behind = λ none more. ap (λ (c : Chain). c.first) (e ∙ joined-behind x y none more);
  last = λ more. ap (λ (c : Chain). c.last) e ∙ by_counts ((joined x y).last ≡ y.last) x.count y.count
      (λ some more. ap (λ (c : Chain). c.last) (joined-both x y some more))
      (λ none more. ap (λ (c : Chain). c.last) (joined-behind x y none more))
      (λ none. absurd (omega (arith, none, more)));
  last_front = λ none. ap (λ (c : Chain). c.last) (e ∙ joined-front x y none);
  none = none;
  others = others;
} where
  x : Chain
  x = chain a

  y : Chain
  y = chain b

-- ---- tables

table-set_same : (one free : Chain) (chains : List Chain) (n : ℕ) (x : Chain) → n < length chains → table one free (slice_set chains n x) (suc (suc n)) ≡ x
table-set_same one free chains n x lt = get_or-set_same chains n x empty_chain lt

table-set_other : (one free : Chain) (chains : List Chain) (n : ℕ) (x : Chain) (c : ℕ) → c ≢ suc (suc n) → table one free (slice_set chains n x) c ≡ table one free chains c
table-set_other one free chains n x zero ne = refl
table-set_other one free chains n x (suc zero) ne = refl
table-set_other one free chains n x (suc (suc c)) ne = get_or-set_other chains n c x empty_chain (λ e. ne (ap (λ i. suc (suc i)) e))

table-one : (one two free : Chain) (chains : List Chain) (c : ℕ) → c ≢ 0 → table one free chains c ≡ table two free chains c
table-one one two free chains zero ne = absurd (ne refl)
table-one one two free chains (suc zero) ne = refl
table-one one two free chains (suc (suc c)) ne = refl

table-free : (one two free other : Chain) (chains : List Chain) (c : ℕ) → c ≢ 1 → c ≢ 0 → table one free chains c ≡ table two other chains c
table-free one two free other chains zero not_free not_one = absurd (not_one refl)
table-free one two free other chains (suc zero) not_free not_one = absurd (not_free refl)
table-free one two free other chains (suc (suc c)) not_free not_one = refl

pub total-set : (chains : List Chain) (n : ℕ) (x : Chain) → n < length chains → total (slice_set chains n x) + (get_or chains n empty_chain).count ≡ total chains + x.count
total-set [] n x lt = absurd (omega (arith, lt))
total-set (c ∷ chains) zero x lt = omega arith
total-set (c ∷ chains) (suc n) x lt = let rest = total-set chains n x (omega (arith, lt)) in omega (arith, rest)

pub total-has : (chains : List Chain) (n : ℕ) → (get_or chains n empty_chain).count ≤ total chains
total-has [] n = omega arith
total-has (c ∷ chains) zero = omega arith
total-has (c ∷ chains) (suc n) = let rest = total-has chains n in omega (arith, rest)

pub total-last : (chains : List Chain) → total (chains ++ empty_chain ∷ []) ≡ total chains
total-last [] = refl
total-last (c ∷ chains) = ap (λ n. c.count + n) (total-last chains)

-- ---- lists of chains that agree except at one place

map-agree : (f g : Chain → List ℕ) (cs : List Chain) → ((m : ℕ) → m < length cs → f (get_or cs m empty_chain) ≡ g (get_or cs m empty_chain)) → map f cs ≡ map g cs
map-agree f g [] h = refl
map-agree f g (c ∷ cs) h = λ i. h 0 (omega arith) i ∷ map-agree f g cs (λ m lt. h (suc m) (omega (arith, lt))) i

map-off : (f g : Chain → List ℕ) (cs : List Chain) (n : ℕ) (v : List ℕ) → ((m : ℕ) → m ≢ n → f (get_or cs m empty_chain) ≡ g (get_or cs m empty_chain)) → slice_set (map f cs) n v ≡ slice_set (map g cs) n v
map-off f g cs n v h = agree_off (map f cs) (map g cs) n v [] (length-map cs f ∙ sym (length-map cs g))
    (λ m lt ne. let within = subst (λ l. m < l) (length-map cs f) lt in get_or-map f cs m empty_chain [] within ∙ h m ne ∙ sym (get_or-map g cs m empty_chain [] within))

-- ---- the state after a call

pub record Stands (next : List ℕ) (free : Chain) (chains : List Chain) (size : ℕ) (frees : List ℕ) (lists : List (List ℕ)) : Type 0 where
  pub linked : AreLinked next empty_chain free chains
  pub size_is : length next ≡ size
  pub free_is : nodes_of next free ≡ frees
  pub lists_are : map (nodes_of next) chains ≡ lists

-- one more node at the end of the free list
pub grown_law : (next : List ℕ) (free : Chain) (chains : List Chain) → AreLinked next empty_chain free chains
    → Stands (joined_next (next ++ 0 ∷ []) free (single_of (length next))) (joined free (single_of (length next))) chains (length next + 1) (nodes_of next free ++ length next ∷ []) (map (nodes_of next) chains)
grown_law next free chains h = record {
  linked = record { placed = subst (λ n. ArePlaced n (next_of after) (table empty_chain (joined free one) chains)) (sym long) (joined-placed q j); fits = fits };
  size_is = long;
  free_is = joined-nodes q j ∙ (λ i. same 1 (λ e. omega (arith, e)) i ++ n ∷ []);
  lists_are = map-agree (nodes_of after) (nodes_of next) chains (λ m lt. joined-others q j (suc (suc m)) (λ e. omega (arith, e)) (λ e. omega (arith, e)) ∙ same (suc (suc m)) (λ e. omega (arith, e)));
} where
  n : ℕ
  n = length next

  one : Chain
  one = single_of n

  more : List ℕ
  more = next ++ 0 ∷ []

  after : List ℕ
  after = joined_next more free one

  longer : length more ≡ n + 1
  longer = length-append next (0 ∷ [])

  long : length after ≡ n + 1
  long = length-joined_next more free one ∙ longer

  g : IsGrown n (next_of next) (next_of more) (table empty_chain free chains) (table one free chains) 0
  g = record {
    none = refl;
    links = λ i lt. get_or_append_left next (0 ∷ []) 0 i lt;
    one = refl;
    one_first = refl;
    one_last = refl;
    others = λ c ne. table-one one empty_chain free chains c ne;
  }

  q : ArePlaced (n + 1) (next_of more) (table one free chains)
  q = grown-placed (n + 1) refl h.placed g

  j : AreJoined (next_of more) (next_of after) (table one free chains) (table empty_chain (joined free one) chains) 1 0
  j = are_joined more (table one free chains) (table empty_chain (joined free one) chains) 1 0 (λ some. subst (λ l. free.last < l) (sym longer) (last_within q 1 some)) (λ e. omega (arith, e)) refl refl
      (λ c not_free not_one. table-free empty_chain one (joined free one) free chains c not_free not_one)

  fits : 0 + ((joined free one).count + total chains) ≤ length after
  fits = let f = h.fits in let e = joined-count free one in omega (arith, f, e, long)

  same : (c : ℕ) → c ≢ 0 → nodes_of more (table one free chains c) ≡ nodes_of next (table empty_chain free chains c)
  same c ne = grown-others h.placed g c ne ∙ ap (nodes_of next) (table-one empty_chain empty_chain free chains c ne)

-- the first node of the free list moves to the end of a list
pub taken_law : (next : List ℕ) (free : Chain) (chains : List Chain) (n : ℕ) → AreLinked next empty_chain free chains → n < length chains → 0 < free.count
    → (rest x : Chain) (after : List ℕ) → rest ≡ without_first_of next free → x ≡ joined (get_or chains n empty_chain) (single_of free.first) → after ≡ joined_next next (get_or chains n empty_chain) (single_of free.first)
    → Stands after rest (slice_set chains n x) (length next) (nodes_of next rest) (slice_set (map (nodes_of next) chains) n (nodes_of next (get_or chains n empty_chain) ++ free.first ∷ []))
taken_law next free chains n h lt some rest x after rest_is x_is after_is = record {
  linked = record { placed = subst (λ l. ArePlaced l (next_of after) (table empty_chain rest (slice_set chains n x))) (sym long) placed; fits = fits };
  size_is = long;
  free_is = others 1 (λ e. omega (arith, e)) (λ e. omega (arith, e));
  lists_are = map-set (nodes_of after) chains n x
      ∙ map-off (nodes_of after) (nodes_of next) chains n (nodes_of after x)
      (λ m ne. ap (nodes_of after) (sym (get_or-set_other chains n m x empty_chain ne)) ∙ others (suc (suc m)) (λ e. ne (omega (arith, e))) (λ e. omega (arith, e)))
      ∙ ap (slice_set (map (nodes_of next) chains) n) (ap (nodes_of after) (sym (table-set_same empty_chain rest chains n x lt)) ∙ grows);
} where
  one : Chain
  one = single_of free.first

  a : ℕ
  a = suc (suc n)

  s : IsSplit (next_of next) (table empty_chain free chains) (table one rest chains) 1 0
  s = record {
    differ = λ e. omega (arith, e);
    some = some;
    none = refl;
    count = ap (λ (c : Chain). c.count + 1) rest_is ∙ (omega (arith, some));
    first = ap (λ (c : Chain). c.first) rest_is;
    last = ap (λ (c : Chain). c.last) rest_is;
    one = refl;
    one_first = refl;
    one_last = refl;
    others = λ c not_free not_one. table-free one empty_chain rest free chains c not_free not_one;
  }

  q : ArePlaced (length next) (next_of next) (table one rest chains)
  q = split-placed h.placed s

  j' : AreJoined (next_of next) (next_of (joined_next next (get_or chains n empty_chain) one)) (table one rest chains) (table empty_chain rest (slice_set chains n x)) a 0
  j' = are_joined next (table one rest chains) (table empty_chain rest (slice_set chains n x)) a 0 (λ has. last_within q a has) (λ e. omega (arith, e)) (table-set_same empty_chain rest chains n x lt ∙ x_is) refl
      (λ c not_a not_one. table-set_other empty_chain rest chains n x c not_a ∙ table-one empty_chain one rest chains c not_one)

  j : AreJoined (next_of next) (next_of after) (table one rest chains) (table empty_chain rest (slice_set chains n x)) a 0
  j = subst (λ l. AreJoined (next_of next) (next_of l) (table one rest chains) (table empty_chain rest (slice_set chains n x)) a 0) (sym after_is) j'

  placed : ArePlaced (length next) (next_of after) (table empty_chain rest (slice_set chains n x))
  placed = joined-placed q j

  long : length after ≡ length next
  long = ap length after_is ∙ length-joined_next next (get_or chains n empty_chain) one

  others : (c : ℕ) → c ≢ a → c ≢ 0 → nodes_of after (table empty_chain rest (slice_set chains n x) c) ≡ nodes_of next (table one rest chains c)
  others c not_a not_one = joined-others q j c not_a not_one

  grows : nodes_of after (table empty_chain rest (slice_set chains n x) a) ≡ nodes_of next (get_or chains n empty_chain) ++ free.first ∷ []
  grows = joined-nodes q j

  fits : 0 + (rest.count + total (slice_set chains n x)) ≤ length after
  fits =
      let f = h.fits in
      let t = total-set chains n x lt in
      let c = ap (λ (c : Chain). c.count) x_is ∙ joined-count (get_or chains n empty_chain) one in
      let r = s.count in
      omega (arith, f, t, c, r, long)

-- the first node of a list moves to the end of the free list
pub freed_law : (next : List ℕ) (free : Chain) (chains : List Chain) (n : ℕ) → AreLinked next empty_chain free chains → n < length chains → 0 < (get_or chains n empty_chain).count
    → (rest x : Chain) (after : List ℕ) → rest ≡ without_first_of next (get_or chains n empty_chain) → x ≡ joined free (single_of (get_or chains n empty_chain).first) → after ≡ joined_next next free (single_of (get_or chains n empty_chain).first)
    → Stands after x (slice_set chains n rest) (length next) (nodes_of next free ++ (get_or chains n empty_chain).first ∷ []) (slice_set (map (nodes_of next) chains) n (nodes_of next rest))
freed_law next free chains n h lt some rest x after rest_is x_is after_is = record {
  linked = record { placed = subst (λ l. ArePlaced l (next_of after) (table empty_chain x (slice_set chains n rest))) (sym long) placed; fits = fits };
  size_is = long;
  free_is = joined-nodes q j;
  lists_are = map-set (nodes_of after) chains n rest
      ∙ map-off (nodes_of after) (nodes_of next) chains n (nodes_of after rest)
      (λ m ne. ap (nodes_of after) (sym (get_or-set_other chains n m rest empty_chain ne)) ∙ others (suc (suc m)) (λ e. omega (arith, e)) (λ e. omega (arith, e)) ∙ ap (nodes_of next) (get_or-set_other chains n m rest empty_chain ne))
      ∙ ap (slice_set (map (nodes_of next) chains) n) (ap (nodes_of after) (sym (table-set_same empty_chain x chains n rest lt)) ∙ others a (λ e. omega (arith, e)) (λ e. omega (arith, e)) ∙ ap (nodes_of next) (table-set_same empty_chain x chains n rest lt));
} where
  one : Chain
  one = single_of (get_or chains n empty_chain).first

  a : ℕ
  a = suc (suc n)

  split : ℕ → Chain
  split = table one free (slice_set chains n rest)

  s : IsSplit (next_of next) (table empty_chain free chains) split a 0
  s = record {
    differ = λ e. omega (arith, e);
    some = some;
    none = refl;
    count = ap (λ (c : Chain). c.count + 1) (table-set_same one free chains n rest lt ∙ rest_is) ∙ (omega (arith, some));
    first = ap (λ (c : Chain). c.first) (table-set_same one free chains n rest lt ∙ rest_is);
    last = ap (λ (c : Chain). c.last) (table-set_same one free chains n rest lt ∙ rest_is);
    one = refl;
    one_first = refl;
    one_last = refl;
    others = λ c not_a not_one. table-set_other one free chains n rest c not_a ∙ table-one one empty_chain free chains c not_one;
  }

  q : ArePlaced (length next) (next_of next) split
  q = split-placed h.placed s

  j' : AreJoined (next_of next) (next_of (joined_next next free one)) split (table empty_chain x (slice_set chains n rest)) 1 0
  j' = are_joined next split (table empty_chain x (slice_set chains n rest)) 1 0 (λ has. last_within q 1 has) (λ e. omega (arith, e)) x_is refl
      (λ c not_free not_one. table-free empty_chain one x free (slice_set chains n rest) c not_free not_one)

  j : AreJoined (next_of next) (next_of after) split (table empty_chain x (slice_set chains n rest)) 1 0
  j = subst (λ l. AreJoined (next_of next) (next_of l) split (table empty_chain x (slice_set chains n rest)) 1 0) (sym after_is) j'

  placed : ArePlaced (length next) (next_of after) (table empty_chain x (slice_set chains n rest))
  placed = joined-placed q j

  long : length after ≡ length next
  long = ap length after_is ∙ length-joined_next next free one

  others : (c : ℕ) → c ≢ 1 → c ≢ 0 → nodes_of after (table empty_chain x (slice_set chains n rest) c) ≡ nodes_of next (split c)
  others c not_free not_one = joined-others q j c not_free not_one

  fits : 0 + (x.count + total (slice_set chains n rest)) ≤ length after
  fits =
      let f = h.fits in
      let t = total-set chains n rest lt in
      let c = ap (λ (c : Chain). c.count) x_is ∙ joined-count free one in
      let r = ap (λ (c : Chain). c.count) rest_is in
      omega (arith, f, t, c, r, long, some)

-- the nodes of a list move to the end of another one
pub concat_law : (next : List ℕ) (free : Chain) (chains : List Chain) (a b : ℕ) → AreLinked next empty_chain free chains → a < length chains → b < length chains → a ≢ b
    → (x : Chain) (after : List ℕ) → x ≡ joined (get_or chains a empty_chain) (get_or chains b empty_chain) → after ≡ joined_next next (get_or chains a empty_chain) (get_or chains b empty_chain)
    → Stands after free (slice_set (slice_set chains a x) b empty_chain) (length next) (nodes_of next free)
    (slice_set (slice_set (map (nodes_of next) chains) a (nodes_of next (get_or chains a empty_chain) ++ nodes_of next (get_or chains b empty_chain))) b [])
concat_law next free chains a b h a_lt b_lt ne x after x_is after_is = record {
  linked = record { placed = subst (λ l. ArePlaced l (next_of after) chain_after) (sym long) placed; fits = fits };
  size_is = long;
  free_is = others 1 (λ e. omega (arith, e)) (λ e. omega (arith, e));
  lists_are = map-set (nodes_of after) (slice_set chains a x) b empty_chain
      ∙ ap (λ l. slice_set l b []) (map-set (nodes_of after) chains a x ∙ ap (slice_set (map (nodes_of after) chains) a) whole)
      ∙ agree_off (slice_set xs a v) (slice_set ys a v) b [] [] (length-set xs a v ∙ length-map chains (nodes_of after) ∙ sym (length-set ys a v ∙ length-map chains (nodes_of next))) off;
} where
  p : ℕ
  p = suc (suc a)

  r : ℕ
  r = suc (suc b)

  some_long : b < length (slice_set chains a x)
  some_long = subst (λ l. b < l) (sym (length-set chains a x)) b_lt

  chain_after : ℕ → Chain
  chain_after = table empty_chain free (slice_set (slice_set chains a x) b empty_chain)

  v : List ℕ
  v = nodes_of next (get_or chains a empty_chain) ++ nodes_of next (get_or chains b empty_chain)

  xs : List (List ℕ)
  xs = map (nodes_of after) chains

  ys : List (List ℕ)
  ys = map (nodes_of next) chains

  not_b : p ≢ r
  not_b e = ne (omega (arith, e))

  at_a : chain_after p ≡ x
  at_a = table-set_other empty_chain free (slice_set chains a x) b empty_chain p not_b ∙ table-set_same empty_chain free chains a x a_lt

  j' : AreJoined (next_of next) (next_of (joined_next next (get_or chains a empty_chain) (get_or chains b empty_chain))) (table empty_chain free chains) chain_after p r
  j' = are_joined next (table empty_chain free chains) chain_after p r (λ has. last_within h.placed p has) not_b (at_a ∙ x_is)
      (ap (λ (c : Chain). c.count) (table-set_same empty_chain free (slice_set chains a x) b empty_chain some_long))
      (λ c not_p not_r. table-set_other empty_chain free (slice_set chains a x) b empty_chain c not_r ∙ table-set_other empty_chain free chains a x c not_p)

  j : AreJoined (next_of next) (next_of after) (table empty_chain free chains) chain_after p r
  j = subst (λ l. AreJoined (next_of next) (next_of l) (table empty_chain free chains) chain_after p r) (sym after_is) j'

  placed : ArePlaced (length next) (next_of after) chain_after
  placed = joined-placed h.placed j

  long : length after ≡ length next
  long = ap length after_is ∙ length-joined_next next (get_or chains a empty_chain) (get_or chains b empty_chain)

  others : (c : ℕ) → c ≢ p → c ≢ r → nodes_of after (chain_after c) ≡ nodes_of next (table empty_chain free chains c)
  others c not_p not_r = joined-others h.placed j c not_p not_r

  whole : nodes_of after x ≡ v
  whole = ap (nodes_of after) (sym at_a) ∙ joined-nodes h.placed j

  off : (m : ℕ) → m < length (slice_set xs a v) → m ≢ b → get_or (slice_set xs a v) m [] ≡ get_or (slice_set ys a v) m []
  off m lt not_m = elim (cases_eq m a) as (λ _. get_or (slice_set xs a v) m [] ≡ get_or (slice_set ys a v) m []) [
    | inl e ↦ subst (λ k. get_or (slice_set xs a v) k [] ≡ get_or (slice_set ys a v) k []) (sym e)
        (get_or-set_same xs a v [] (subst (λ l. a < l) (sym (length-map chains (nodes_of after))) a_lt) ∙ sym (get_or-set_same ys a v [] (subst (λ l. a < l) (sym (length-map chains (nodes_of next))) a_lt)))
    | inr not_a ↦
        let within = subst (λ l. m < l) (length-set xs a v ∙ length-map chains (nodes_of after)) lt in
        get_or-set_other xs a m v [] not_a ∙ get_or-map (nodes_of after) chains m empty_chain [] within
        ∙ ap (nodes_of after) (sym (get_or-set_other (slice_set chains a x) b m empty_chain empty_chain not_m ∙ get_or-set_other chains a m x empty_chain not_a))
        ∙ others (suc (suc m)) (λ e. not_a (omega (arith, e))) (λ e. not_m (omega (arith, e)))
        ∙ sym (get_or-map (nodes_of next) chains m empty_chain [] within) ∙ sym (get_or-set_other ys a m v [] not_a)
  ]

  fits : 0 + (free.count + total (slice_set (slice_set chains a x) b empty_chain)) ≤ length after
  fits =
      let f = h.fits in
      let t = total-set chains a x a_lt in
      let u = total-set (slice_set chains a x) b empty_chain some_long in
      let g = ap (λ (c : Chain). c.count) (get_or-set_other chains a b x empty_chain (λ e. ne (sym e))) in
      let c = ap (λ (c : Chain). c.count) x_is ∙ joined-count (get_or chains a empty_chain) (get_or chains b empty_chain) in
      omega (arith, f, t, u, g, c, long)

-- two chains together have at most as many nodes as there are
pub two_fit : (next : List ℕ) (free : Chain) (chains : List Chain) (a b : ℕ) → AreLinked next empty_chain free chains → a < length chains → a ≢ b → (get_or chains a empty_chain).count + (get_or chains b empty_chain).count ≤ length next
two_fit next free chains a b h a_lt ne =
    let f = h.fits in
    let t = total-set chains a empty_chain a_lt in
    let u = total-has (slice_set chains a empty_chain) b in
    let g = ap (λ (c : Chain). c.count) (get_or-set_other chains a b empty_chain empty_chain (λ e. ne (sym e))) in
    omega (arith, f, t, u, g)

-- a node in no chain is in no list
in_none : (next : List ℕ) (node : ℕ) (chains : List Chain) → ((m : ℕ) → is_in (nodes_of next (get_or chains m empty_chain)) node ≡ false) → IsInNone node (map (nodes_of next) chains)
in_none next node [] h = tt
in_none next node (c ∷ chains) h = (h 0, in_none next node chains (λ m. h (suc m)))

-- the first and the last node of the free list are in no list
pub free_elsewhere : (next : List ℕ) (free : Chain) (chains : List Chain) → AreLinked next empty_chain free chains → 0 < free.count → IsInNone free.first (map (nodes_of next) chains)
free_elsewhere next free chains h some = in_none next free.first chains (λ m. first_elsewhere h.placed 1 (suc (suc m)) (λ e. omega (arith, e)) some)

pub last_free_elsewhere : (next : List ℕ) (free : Chain) (chains : List Chain) → AreLinked next empty_chain free chains → 0 < free.count → IsInNone free.last (map (nodes_of next) chains)
last_free_elsewhere next free chains h some = in_none next free.last chains (λ m. last_elsewhere h.placed 1 (suc (suc m)) (λ e. omega (arith, e)) some)

pub joined-last : (x y : Chain) → 0 < y.count → (joined x y).last ≡ y.last
joined-last x y more = by_counts ((joined x y).last ≡ y.last) x.count y.count
    (λ some more. ap (λ (c : Chain). c.last) (joined-both x y some more))
    (λ none more. ap (λ (c : Chain). c.last) (joined-behind x y none more))
    (λ none. absurd (omega (arith, none, more)))
