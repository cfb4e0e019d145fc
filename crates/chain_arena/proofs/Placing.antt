-- Joining chains and taking their first nodes keeps each node in one place.
use Rattle.std.proofs.Common.{◌≡◌, ◌≢◌, inl, inr, ◌<◌, ◌≤◌, ◌+◌, ◌-◌, ◌==◌, ℕ, cond, refl, ap, sym, ◌∙◌, subst, arith}
use Rattle.std.specs.Prelude.{nat_lt}
use Rattle.std.proofs.lemmas.Bool.{cases_eq, cases_lt}
use Rattle.std.proofs.lemmas.Bool.Decides.{nat_tests}
use Rattle.chain_arena.specs.declared.joins.Chain.{Chain}
use Rattle.chain_arena.specs.Placed.{ArePlaced}

-- ---- two chains as one

-- The effect on a table of chains of joining the chains with numbers a and b.
pub record AreJoined (next next_after : ℕ → ℕ) (chain chain_after : ℕ → Chain) (a b : ℕ) : Type 0 where
  pub differ : a ≢ b
  pub link : 0 < (chain a).count → 0 < (chain b).count → next_after (chain a).last ≡ (chain b).first
  pub other_links : (i : ℕ) → (0 < (chain a).count → 0 < (chain b).count → i ≢ (chain a).last) → next_after i ≡ next i
  pub count : (chain_after a).count ≡ (chain a).count + (chain b).count
  pub first : 0 < (chain a).count → (chain_after a).first ≡ (chain a).first
  pub first_behind : (chain a).count ≡ 0 → 0 < (chain b).count → (chain_after a).first ≡ (chain b).first
  pub last : 0 < (chain b).count → (chain_after a).last ≡ (chain b).last
  pub last_front : (chain b).count ≡ 0 → (chain_after a).last ≡ (chain a).last
  pub none : (chain_after b).count ≡ 0
  pub others : (c : ℕ) → c ≢ a → c ≢ b → chain_after c ≡ chain c

abbrev pub at_joined : (ℕ → ℕ → ℕ) → ℕ → ℕ → ℕ → ℕ → ℕ → ℕ
at_joined at a b n c k = cond (c == a) (cond (nat_lt k n) (at a k) (at b (k - n))) (at c k)

pub at_joined-front : (at : ℕ → ℕ → ℕ) (a b n k : ℕ) → k < n → at_joined at a b n a k ≡ at a k
at_joined-front at a b n k lt = grind (arith, nat_tests)

pub at_joined-back : (at : ℕ → ℕ → ℕ) (a b n k : ℕ) → n ≤ k → at_joined at a b n a k ≡ at b (k - n)
at_joined-back at a b n k le = grind (arith, nat_tests)

pub at_joined-other : (at : ℕ → ℕ → ℕ) (a b n c k : ℕ) → c ≢ a → at_joined at a b n c k ≡ at c k
at_joined-other at a b n c k ne = grind (arith, nat_tests)

abbrev pub owner_joined : (ℕ → ℕ) → ℕ → ℕ → ℕ → ℕ
owner_joined owner a b i = cond (owner i == b) a (owner i)

abbrev pub rank_joined : (ℕ → ℕ) → (ℕ → ℕ) → ℕ → ℕ → ℕ → ℕ
rank_joined owner rank b n i = cond (owner i == b) (n + rank i) (rank i)

-- a property of both numbers and of all others holds for any number
pub by_number : (P : ℕ → Type 0) (a b : ℕ) → P a → P b → ((c : ℕ) → c ≢ a → c ≢ b → P c) → (c : ℕ) → P c
by_number P a b at_a at_b at_others c = elim (cases_eq c a) as (λ _. P c) [
  | inl e ↦ subst P (sym e) at_a
  | inr not_a ↦ elim (cases_eq c b) as (λ _. P c) [
    | inl e ↦ subst P (sym e) at_b
    | inr not_b ↦ at_others c not_a not_b
  ]
]

-- the places of a chain below n, and those from n on
pub by_part : (P : ℕ → Type 0) (n : ℕ) → ((k : ℕ) → k < n → P k) → ((k : ℕ) → n ≤ k → P k) → (k : ℕ) → P k
by_part P n front back k = elim (cases_lt k n) as (λ _. P k) [ inl lt ↦ front k lt | inr le ↦ back k le ]

-- a property of each node at its place in the joined chain, and of all other nodes, holds for all nodes
pub each_joined : {next next_after : ℕ → ℕ} {chain chain_after : ℕ → Chain} {a b : ℕ} (at : ℕ → ℕ → ℕ) (Q : ℕ → ℕ → ℕ → Type 0) → AreJoined next next_after chain chain_after a b
    → ((k : ℕ) → k < (chain a).count → Q a k (at a k))
    → ((k : ℕ) → (chain a).count ≤ k → k - (chain a).count < (chain b).count → Q a k (at b (k - (chain a).count)))
    → ((c k : ℕ) → c ≢ a → c ≢ b → k < (chain c).count → Q c k (at c k))
    → (c k : ℕ) → k < (chain_after c).count → Q c k (at_joined at a b (chain a).count c k)
each_joined {chain = chain} {chain_after = chain_after} {a = a} {b = b} at Q j front back others c k lt = by_number P a b of_a of_b of_others c k lt where
  n : ℕ
  n = (chain a).count

  P : ℕ → Type 0
  P d = (m : ℕ) → m < (chain_after d).count → Q d m (at_joined at a b n d m)

  of_a : P a
  of_a m lt = by_part (λ m. m < (chain_after a).count → Q a m (at_joined at a b n a m)) n
      (λ m below _. subst (Q a m) (sym (at_joined-front at a b n m below)) (front m below))
      (λ m above lt. subst (Q a m) (sym (at_joined-back at a b n m above)) (back m above (let e = j.count in omega (arith, e, lt, above)))) m lt

  of_b : P b
  of_b m lt = absurd (let e = j.none in omega (arith, e, lt))

  of_others : (d : ℕ) → d ≢ a → d ≢ b → P d
  of_others d not_a not_b m lt =
      subst (Q d m) (sym (at_joined-other at a b n d m not_a)) (others d m not_a not_b (subst (λ (x : Chain). m < x.count) (j.others d not_a not_b) lt))

pub not_owned : {n : ℕ} {next : ℕ → ℕ} {chain : ℕ → Chain} (p : ArePlaced n next chain) (c d k m : ℕ) → c ≢ d → k < (chain c).count → m < (chain d).count → p.at c k ≢ p.at d m
not_owned p c d k m ne lk lm e = ne (sym (p.owned c k lk) ∙ ap p.owner e ∙ p.owned d m lm)

pub not_ranked : {n : ℕ} {next : ℕ → ℕ} {chain : ℕ → Chain} (p : ArePlaced n next chain) (c k m : ℕ) → k ≢ m → k < (chain c).count → m < (chain c).count → p.at c k ≢ p.at c m
not_ranked p c k m ne lk lm e = ne (sym (p.ranked c k lk) ∙ ap p.rank e ∙ p.ranked c m lm)

pub owner_joined-kept : (owner : ℕ → ℕ) (a b i c : ℕ) → owner i ≡ c → c ≢ b → owner_joined owner a b i ≡ c
owner_joined-kept owner a b i c e ne = grind (arith, nat_tests)

pub owner_joined-moved : (owner : ℕ → ℕ) (a b i : ℕ) → owner i ≡ b → owner_joined owner a b i ≡ a
owner_joined-moved owner a b i e = grind (arith, nat_tests)

pub rank_joined-kept : (owner rank : ℕ → ℕ) (b n i c k : ℕ) → owner i ≡ c → c ≢ b → rank i ≡ k → rank_joined owner rank b n i ≡ k
rank_joined-kept owner rank b n i c k e ne r = grind (arith, nat_tests)

pub rank_joined-moved : (owner rank : ℕ → ℕ) (b n i k : ℕ) → owner i ≡ b → n ≤ k → rank i ≡ k - n → rank_joined owner rank b n i ≡ k
rank_joined-moved owner rank b n i k e le r = grind (arith, nat_tests)

unfoldable pub joined-placed : {n : ℕ} {next next_after : ℕ → ℕ} {chain chain_after : ℕ → Chain} {a b : ℕ} → ArePlaced n next chain → AreJoined next next_after chain chain_after a b → ArePlaced n next_after chain_after
joined-placed {n = n} {next = next} {next_after = next_after} {chain = chain} {chain_after = chain_after} {a = a} {b = b} p j = record {
  at = at_joined p.at a b m;
  owner = owner_joined p.owner a b;
  rank = rank_joined p.owner p.rank b m;
  within = each_joined p.at (λ c k i. i < n) j (λ k lt. p.within a k lt) (λ k le lt. p.within b (k - m) lt) (λ c k not_a not_b lt. p.within c k lt);
  owned = each_joined p.at (λ c k i. owner_joined p.owner a b i ≡ c) j
      (λ k lt. owner_joined-kept p.owner a b (p.at a k) a (p.owned a k lt) j.differ)
      (λ k le lt. owner_joined-moved p.owner a b (p.at b (k - m)) (p.owned b (k - m) lt))
      (λ c k not_a not_b lt. owner_joined-kept p.owner a b (p.at c k) c (p.owned c k lt) not_b);
  ranked = each_joined p.at (λ c k i. rank_joined p.owner p.rank b m i ≡ k) j
      (λ k lt. rank_joined-kept p.owner p.rank b m (p.at a k) a k (p.owned a k lt) j.differ (p.ranked a k lt))
      (λ k le lt. rank_joined-moved p.owner p.rank b m (p.at b (k - m)) k (p.owned b (k - m) lt) le (p.ranked b (k - m) lt))
      (λ c k not_a not_b lt. rank_joined-kept p.owner p.rank b m (p.at c k) c k (p.owned c k lt) not_b (p.ranked c k lt));
  first = firsts;
  goes_on = λ c k more. each_joined p.at (λ c k i. k + 1 < (chain_after c).count → next_after i ≡ at_joined p.at a b m c (k + 1)) j on_front on_back on_others c k (omega (arith, more)) more;
  last = λ c k e. each_joined p.at (λ c k i. k + 1 ≡ (chain_after c).count → (chain_after c).last ≡ i) j
      (λ k lt e. j.last_front (let s = j.count in omega (arith, e, s, lt)) ∙ p.last a k (let s = j.count in omega (arith, e, s, lt)))
      (λ k le lt e. j.last (omega (arith, lt)) ∙ p.last b (k - m) (let s = j.count in omega (arith, e, s, le)))
      (λ c k not_a not_b lt e. ap (λ (x : Chain). x.last) (j.others c not_a not_b) ∙ p.last c k (e ∙ ap (λ (x : Chain). x.count) (j.others c not_a not_b)))
      c k (omega (arith, e)) e;
} where
  m : ℕ
  m = (chain a).count

  l : ℕ
  l = m - 1

  l_below : 0 < m → l < m
  l_below some = omega (arith, some)

  end : 0 < m → (chain a).last ≡ p.at a l
  end some = p.last a l (omega (arith, some))

  first_of : 0 < m → (chain_after a).first ≡ at_joined p.at a b m a 0
  first_of some = j.first some ∙ p.first a some ∙ sym (at_joined-front p.at a b m 0 some)

  first_then : m ≡ 0 → 0 < (chain_after a).count → (chain_after a).first ≡ at_joined p.at a b m a 0
  first_then none some =
      let more : 0 < (chain b).count = let s = j.count in omega (arith, none, s, some) in
      j.first_behind none more ∙ p.first b more ∙ ap (p.at b) (let f : 0 ≡ 0 - m = omega arith in f) ∙ sym (at_joined-back p.at a b m 0 (omega (arith, none)))

  firsts : (c : ℕ) → 0 < (chain_after c).count → (chain_after c).first ≡ at_joined p.at a b m c 0
  firsts c some = by_number (λ c. 0 < (chain_after c).count → (chain_after c).first ≡ at_joined p.at a b m c 0) a b
      (λ some. by_part (λ s. s ≡ 0 → (chain_after a).first ≡ at_joined p.at a b m a s) m
      (λ s below e. subst (λ s. (chain_after a).first ≡ at_joined p.at a b m a s) (sym e) (first_of (omega (arith, below, e))))
      (λ s above e. subst (λ s. (chain_after a).first ≡ at_joined p.at a b m a s) (sym e) (first_then (omega (arith, above, e)) some)) 0 refl)
      (λ some. absurd (let e = j.none in omega (arith, e, some)))
      (λ c not_a not_b some. ap (λ (x : Chain). x.first) (j.others c not_a not_b) ∙ p.first c (subst (λ (x : Chain). 0 < x.count) (j.others c not_a not_b) some) ∙ sym (at_joined-other p.at a b m c 0 not_a))
      c some

  -- only the last node of the first chain leads to another node than before
  same_link : (i : ℕ) → (0 < m → 0 < (chain b).count → i ≢ p.at a l) → next_after i ≡ next i
  same_link i ne = j.other_links i (λ some more e. ne some more (e ∙ end some))

  on_front : (k : ℕ) → k < m → k + 1 < (chain_after a).count → next_after (p.at a k) ≡ at_joined p.at a b m a (k + 1)
  on_front k lt more = by_part (λ s. s ≡ k + 1 → next_after (p.at a k) ≡ at_joined p.at a b m a s) m
      (λ s below e. subst (λ s. next_after (p.at a k) ≡ at_joined p.at a b m a s) (sym e)
      (same_link (p.at a k) (λ some more. not_ranked p a k l (λ same. omega (arith, same, e, below)) lt (l_below some)) ∙ p.goes_on a k (omega (arith, e, below))
      ∙ sym (at_joined-front p.at a b m (k + 1) (omega (arith, e, below)))))
      (λ s above e. subst (λ s. next_after (p.at a k) ≡ at_joined p.at a b m a s) (sym e)
      (ap (λ i. next_after (p.at a i)) (let f : k ≡ l = omega (arith, e, above, lt) in f) ∙ ap next_after (sym (end (omega (arith, lt)))) ∙ j.link (omega (arith, lt)) (behind s above e) ∙ p.first b (behind s above e)
      ∙ ap (p.at b) (let f : 0 ≡ (k + 1) - m = omega (arith, lt) in f) ∙ sym (at_joined-back p.at a b m (k + 1) (omega (arith, e, above)))))
      (k + 1) refl where
        behind : (s : ℕ) → m ≤ s → s ≡ k + 1 → 0 < (chain b).count
        behind s above e = let c = j.count in omega (arith, c, more, e, above, lt)

  on_back : (k : ℕ) → m ≤ k → k - m < (chain b).count → k + 1 < (chain_after a).count → next_after (p.at b (k - m)) ≡ at_joined p.at a b m a (k + 1)
  on_back k le lt more =
      same_link (p.at b (k - m)) (λ some more. not_owned p b a (k - m) l (λ e. j.differ (sym e)) lt (l_below some)) ∙ p.goes_on b (k - m) (let s = j.count in omega (arith, more, s, le))
      ∙ ap (p.at b) (let f : (k - m) + 1 ≡ (k + 1) - m = omega (arith, le) in f) ∙ sym (at_joined-back p.at a b m (k + 1) (omega (arith, le)))

  on_others : (c k : ℕ) → c ≢ a → c ≢ b → k < (chain c).count → k + 1 < (chain_after c).count → next_after (p.at c k) ≡ at_joined p.at a b m c (k + 1)
  on_others c k not_a not_b lt more =
      same_link (p.at c k) (λ some more. not_owned p c a k l not_a lt (l_below some)) ∙ p.goes_on c k (subst (λ (x : Chain). k + 1 < x.count) (j.others c not_a not_b) more)
      ∙ sym (at_joined-other p.at a b m c (k + 1) not_a)

-- ---- the first node of a chain as a chain of its own

pub record IsSplit (next : ℕ → ℕ) (chain chain_after : ℕ → Chain) (a b : ℕ) : Type 0 where
  pub differ : a ≢ b
  pub some : 0 < (chain a).count
  pub none : (chain b).count ≡ 0
  pub count : (chain_after a).count + 1 ≡ (chain a).count
  pub first : (chain_after a).first ≡ next (chain a).first
  pub last : (chain_after a).last ≡ (chain a).last
  pub one : (chain_after b).count ≡ 1
  pub one_first : (chain_after b).first ≡ (chain a).first
  pub one_last : (chain_after b).last ≡ (chain a).first
  pub others : (c : ℕ) → c ≢ a → c ≢ b → chain_after c ≡ chain c

abbrev at_split : (ℕ → ℕ → ℕ) → ℕ → ℕ → ℕ → ℕ → ℕ
at_split at a b c k = cond (c == b) (at a 0) (cond (c == a) (at a (k + 1)) (at c k))

at_split-one : (at : ℕ → ℕ → ℕ) (a b k : ℕ) → at_split at a b b k ≡ at a 0
at_split-one at a b k = grind (arith, nat_tests)

at_split-rest : (at : ℕ → ℕ → ℕ) (a b k : ℕ) → a ≢ b → at_split at a b a k ≡ at a (k + 1)
at_split-rest at a b k ne = grind (arith, nat_tests)

at_split-other : (at : ℕ → ℕ → ℕ) (a b c k : ℕ) → c ≢ a → c ≢ b → at_split at a b c k ≡ at c k
at_split-other at a b c k not_a not_b = grind (arith, nat_tests)

each_split : {next : ℕ → ℕ} {chain chain_after : ℕ → Chain} {a b : ℕ} (at : ℕ → ℕ → ℕ) (Q : ℕ → ℕ → ℕ → Type 0) → IsSplit next chain chain_after a b
    → Q b 0 (at a 0)
    → ((k : ℕ) → k + 1 < (chain a).count → Q a k (at a (k + 1)))
    → ((c k : ℕ) → c ≢ a → c ≢ b → k < (chain c).count → Q c k (at c k))
    → (c k : ℕ) → k < (chain_after c).count → Q c k (at_split at a b c k)
each_split {chain = chain} {chain_after = chain_after} {a = a} {b = b} at Q j one rest others c k lt = by_number P a b of_a of_b of_others c k lt where
  P : ℕ → Type 0
  P d = (m : ℕ) → m < (chain_after d).count → Q d m (at_split at a b d m)

  of_a : P a
  of_a m lt = subst (Q a m) (sym (at_split-rest at a b m j.differ)) (rest m (let e = j.count in omega (arith, e, lt)))

  of_b : P b
  of_b m lt = subst (λ m. Q b m (at_split at a b b m)) (let f : 0 ≡ m = let e = j.one in omega (arith, e, lt) in f) (subst (Q b 0) (sym (at_split-one at a b 0)) one)

  of_others : (d : ℕ) → d ≢ a → d ≢ b → P d
  of_others d not_a not_b m lt =
      subst (Q d m) (sym (at_split-other at a b d m not_a not_b)) (others d m not_a not_b (subst (λ (x : Chain). m < x.count) (j.others d not_a not_b) lt))

abbrev owner_split : (ℕ → ℕ) → ℕ → ℕ → ℕ → ℕ
owner_split owner node b i = cond (i == node) b (owner i)

abbrev rank_split : (ℕ → ℕ) → (ℕ → ℕ) → ℕ → ℕ → ℕ → ℕ
rank_split owner rank node a i = cond (i == node) 0 (cond (owner i == a) (rank i - 1) (rank i))

owner_split-other : (owner : ℕ → ℕ) (node b i c : ℕ) → i ≢ node → owner i ≡ c → owner_split owner node b i ≡ c
owner_split-other owner node b i c ne e = grind (arith, nat_tests)

rank_split-rest : (owner rank : ℕ → ℕ) (node a i k : ℕ) → i ≢ node → owner i ≡ a → rank i ≡ k + 1 → rank_split owner rank node a i ≡ k
rank_split-rest owner rank node a i k ne e r = grind (arith, nat_tests)

rank_split-other : (owner rank : ℕ → ℕ) (node a i c k : ℕ) → i ≢ node → owner i ≡ c → c ≢ a → rank i ≡ k → rank_split owner rank node a i ≡ k
rank_split-other owner rank node a i c k ne e d r = grind (arith, nat_tests)

one_owner : (owner : ℕ → ℕ) (node b : ℕ) → owner_split owner node b node ≡ b
one_owner owner node b = grind (arith, nat_tests)

one_rank : (owner rank : ℕ → ℕ) (node a : ℕ) → rank_split owner rank node a node ≡ 0
one_rank owner rank node a = grind (arith, nat_tests)

pub split-placed : {n : ℕ} {next : ℕ → ℕ} {chain chain_after : ℕ → Chain} {a b : ℕ} → ArePlaced n next chain → IsSplit next chain chain_after a b → ArePlaced n next chain_after
split-placed {n = n} {next = next} {chain = chain} {chain_after = chain_after} {a = a} {b = b} p j = record {
  at = at_split p.at a b;
  owner = owner_split p.owner node b;
  rank = rank_split p.owner p.rank node a;
  within = each_split p.at (λ c k i. i < n) j (p.within a 0 j.some) (λ k lt. p.within a (k + 1) lt) (λ c k not_a not_b lt. p.within c k lt);
  owned = each_split p.at (λ c k i. owner_split p.owner node b i ≡ c) j (one_owner p.owner node b)
      (λ k lt. owner_split-other p.owner node b (p.at a (k + 1)) a (behind k lt) (p.owned a (k + 1) lt))
      (λ c k not_a not_b lt. owner_split-other p.owner node b (p.at c k) c (elsewhere c k not_a lt) (p.owned c k lt));
  ranked = each_split p.at (λ c k i. rank_split p.owner p.rank node a i ≡ k) j (one_rank p.owner p.rank node a)
      (λ k lt. rank_split-rest p.owner p.rank node a (p.at a (k + 1)) k (behind k lt) (p.owned a (k + 1) lt) (p.ranked a (k + 1) lt))
      (λ c k not_a not_b lt. rank_split-other p.owner p.rank node a (p.at c k) c k (elsewhere c k not_a lt) (p.owned c k lt) not_a (p.ranked c k lt));
  first = λ c some. each_split p.at (λ c k i. k ≡ 0 → (chain_after c).first ≡ i) j (λ _. j.one_first ∙ p.first a j.some)
      (λ k lt e. j.first ∙ ap next (p.first a j.some) ∙ p.goes_on a 0 (omega (arith, lt)) ∙ ap (p.at a) (let f : 1 ≡ k + 1 = omega (arith, e) in f))
      (λ c k not_a not_b lt e. ap (λ (x : Chain). x.first) (j.others c not_a not_b) ∙ p.first c (omega (arith, lt)) ∙ ap (p.at c) (sym e))
      c 0 some refl;
  goes_on = λ c k more. each_split p.at (λ c k i. k + 1 < (chain_after c).count → next i ≡ at_split p.at a b c (k + 1)) j
      (λ lt. absurd (let e = j.one in omega (arith, e, lt)))
      (λ k lt more. p.goes_on a (k + 1) (let e = j.count in omega (arith, e, more)) ∙ sym (at_split-rest p.at a b (k + 1) j.differ))
      (λ c k not_a not_b lt more. p.goes_on c k (subst (λ (x : Chain). k + 1 < x.count) (j.others c not_a not_b) more) ∙ sym (at_split-other p.at a b c (k + 1) not_a not_b))
      c k (omega (arith, more)) more;
  last = λ c k e. each_split p.at (λ c k i. k + 1 ≡ (chain_after c).count → (chain_after c).last ≡ i) j
      (λ _. j.one_last ∙ p.first a j.some)
      (λ k lt e. j.last ∙ p.last a (k + 1) (let s = j.count in omega (arith, s, e)))
      (λ c k not_a not_b lt e. ap (λ (x : Chain). x.last) (j.others c not_a not_b) ∙ p.last c k (e ∙ ap (λ (x : Chain). x.count) (j.others c not_a not_b)))
      c k (omega (arith, e)) e;
} where
  node : ℕ
  node = p.at a 0

  behind : (k : ℕ) → k + 1 < (chain a).count → p.at a (k + 1) ≢ node
  behind k lt = not_ranked p a (k + 1) 0 (λ e. omega (arith, e)) lt j.some

  elsewhere : (c k : ℕ) → c ≢ a → k < (chain c).count → p.at c k ≢ node
  elsewhere c k not_a lt = not_owned p c a k 0 not_a lt j.some

-- ---- one more node

pub record IsGrown (n : ℕ) (next next_after : ℕ → ℕ) (chain chain_after : ℕ → Chain) (b : ℕ) : Type 0 where
  pub none : (chain b).count ≡ 0
  pub links : (i : ℕ) → i < n → next_after i ≡ next i
  pub one : (chain_after b).count ≡ 1
  pub one_first : (chain_after b).first ≡ n
  pub one_last : (chain_after b).last ≡ n
  pub others : (c : ℕ) → c ≢ b → chain_after c ≡ chain c

abbrev at_grown : (ℕ → ℕ → ℕ) → ℕ → ℕ → ℕ → ℕ → ℕ
at_grown at n b c k = cond (c == b) n (at c k)

at_grown-one : (at : ℕ → ℕ → ℕ) (n b k : ℕ) → at_grown at n b b k ≡ n
at_grown-one at n b k = grind (arith, nat_tests)

pub at_grown-other : (at : ℕ → ℕ → ℕ) (n b c k : ℕ) → c ≢ b → at_grown at n b c k ≡ at c k
at_grown-other at n b c k ne = grind (arith, nat_tests)

pub each_grown : {n : ℕ} {next next_after : ℕ → ℕ} {chain chain_after : ℕ → Chain} {b : ℕ} (at : ℕ → ℕ → ℕ) (Q : ℕ → ℕ → ℕ → Type 0) → IsGrown n next next_after chain chain_after b
    → Q b 0 n
    → ((c k : ℕ) → c ≢ b → k < (chain c).count → Q c k (at c k))
    → (c k : ℕ) → k < (chain_after c).count → Q c k (at_grown at n b c k)
each_grown {n = n} {chain = chain} {chain_after = chain_after} {b = b} at Q j one others c k lt = by_number P b b of_b of_b (λ d ne _. of_others d ne) c k lt where
  P : ℕ → Type 0
  P d = (m : ℕ) → m < (chain_after d).count → Q d m (at_grown at n b d m)

  of_b : P b
  of_b m lt = subst (λ m. Q b m (at_grown at n b b m)) (let f : 0 ≡ m = let e = j.one in omega (arith, e, lt) in f) (subst (Q b 0) (sym (at_grown-one at n b 0)) one)

  of_others : (d : ℕ) → d ≢ b → P d
  of_others d ne m lt = subst (Q d m) (sym (at_grown-other at n b d m ne)) (others d m ne (subst (λ (x : Chain). m < x.count) (j.others d ne) lt))

abbrev marked : (ℕ → ℕ) → ℕ → ℕ → ℕ → ℕ
marked f node v i = cond (i == node) v (f i)

pub marked-one : (f : ℕ → ℕ) (node v : ℕ) → marked f node v node ≡ v
marked-one f node v = grind (arith, nat_tests)

pub marked-other : (f : ℕ → ℕ) (node v i c : ℕ) → i < node → f i ≡ c → marked f node v i ≡ c
marked-other f node v i c ne e = grind (arith, nat_tests)

unfoldable pub grown-placed : {n : ℕ} {next next_after : ℕ → ℕ} {chain chain_after : ℕ → Chain} {b : ℕ} (more : ℕ) → more ≡ n + 1 → ArePlaced n next chain → IsGrown n next next_after chain chain_after b → ArePlaced more next_after chain_after
grown-placed {n = n} {next = next} {next_after = next_after} {chain = chain} {chain_after = chain_after} {b = b} more m p j = record {
  at = at_grown p.at n b;
  owner = marked p.owner n b;
  rank = marked p.rank n 0;
  within = each_grown p.at (λ c k i. i < more) j (omega (arith, m)) (λ c k ne lt. let w = p.within c k lt in omega (arith, w, m));
  owned = each_grown p.at (λ c k i. marked p.owner n b i ≡ c) j (marked-one p.owner n b) (λ c k ne lt. marked-other p.owner n b (p.at c k) c (p.within c k lt) (p.owned c k lt));
  ranked = each_grown p.at (λ c k i. marked p.rank n 0 i ≡ k) j (marked-one p.rank n 0) (λ c k ne lt. marked-other p.rank n 0 (p.at c k) k (p.within c k lt) (p.ranked c k lt));
  first = λ c some. each_grown p.at (λ c k i. k ≡ 0 → (chain_after c).first ≡ i) j (λ _. j.one_first)
      (λ c k ne lt e. ap (λ (x : Chain). x.first) (j.others c ne) ∙ p.first c (omega (arith, lt)) ∙ ap (p.at c) (sym e)) c 0 some refl;
  goes_on = λ c k more. each_grown p.at (λ c k i. k + 1 < (chain_after c).count → next_after i ≡ at_grown p.at n b c (k + 1)) j
      (λ lt. absurd (let e = j.one in omega (arith, e, lt)))
      (λ c k ne lt more. j.links (p.at c k) (p.within c k lt) ∙ p.goes_on c k (subst (λ (x : Chain). k + 1 < x.count) (j.others c ne) more) ∙ sym (at_grown-other p.at n b c (k + 1) ne))
      c k (omega (arith, more)) more;
  last = λ c k e. each_grown p.at (λ c k i. k + 1 ≡ (chain_after c).count → (chain_after c).last ≡ i) j
      (λ _. j.one_last)
      (λ c k ne lt e. ap (λ (x : Chain). x.last) (j.others c ne) ∙ p.last c k (e ∙ ap (λ (x : Chain). x.count) (j.others c ne)))
      c k (omega (arith, e)) e;
}
