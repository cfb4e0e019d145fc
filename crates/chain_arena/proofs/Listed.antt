-- The nodes of chains as lists.
use Rattle.std.proofs.Common.{◌≡◌, ◌≢◌, ◌<◌, ◌≤◌, ◌+◌, ◌-◌, ◌==◌, ◌||◌, ℕ, zero, suc, Bool, false, List, [], ◌∷◌, ◌++◌, length, refl, ap, sym, ◌∙◌, subst, arith}
use Rattle.std.proofs.lemmas.Bool.Decides.{nat_tests}
use Rattle.chain_arena.specs.declared.joins.Chain.{Chain}
use Rattle.chain_arena.specs.Placed.{ArePlaced}
use Rattle.chain_arena.specs.Linked.{AreWithin, is_in, nodes_from}
use Rattle.chain_arena.proofs.Placing.{AreJoined, IsGrown, joined-placed, grown-placed, at_joined-front, at_joined-back, at_joined-other, at_grown-other}

abbrev pub listed : (ℕ → ℕ) → ℕ → ℕ → List ℕ
listed f k zero = []
listed f k (suc n) = f k ∷ listed f (k + 1) n

pub length-nodes_from : (next : ℕ → ℕ) (i n : ℕ) → length (nodes_from next i n) ≡ n
length-nodes_from next i zero = refl
length-nodes_from next i (suc n) = ap suc (length-nodes_from next (next i) n)

listed-same : (f g : ℕ → ℕ) (k l n : ℕ) → ((i : ℕ) → i < n → f (k + i) ≡ g (l + i)) → listed f k n ≡ listed g l n
listed-same f g k l zero h = refl
listed-same f g k l (suc n) h = λ p. (ap f (let e : k ≡ k + 0 = omega arith in e) ∙ h 0 (omega arith) ∙ ap g (let e : l + 0 ≡ l = omega arith in e)) p
    ∷ listed-same f g (k + 1) (l + 1) n (λ i lt. ap f (let e : (k + 1) + i ≡ k + (i + 1) = omega arith in e) ∙ h (i + 1) (omega (arith, lt)) ∙ ap g (let e : l + (i + 1) ≡ (l + 1) + i = omega arith in e)) p

listed-split : (f : ℕ → ℕ) (k n m t : ℕ) → t ≡ n + m → listed f k t ≡ listed f k n ++ listed f (k + n) m
listed-split f k zero m t e = ap (listed f k) (let g : t ≡ m = omega (arith, e) in g) ∙ ap (λ j. listed f j m) (let g : k ≡ k + 0 = omega arith in g)
listed-split f k (suc n) m zero e = absurd (omega (arith, e))
listed-split f k (suc n) m (suc t) e =
    ap (λ l. f k ∷ l) (listed-split f (k + 1) n m t (omega (arith, e)) ∙ ap (λ j. listed f (k + 1) n ++ listed f j m) (let g : (k + 1) + n ≡ k + suc n = omega arith in g))

-- functions that agree below k + n give the same list
listed-pointwise : (f g : ℕ → ℕ) (k n : ℕ) → ((i : ℕ) → i < k + n → f i ≡ g i) → listed f k n ≡ listed g k n
listed-pointwise f g k zero h = refl
listed-pointwise f g k (suc n) h = λ p. h k (omega arith) p ∷ listed-pointwise f g (k + 1) n (λ i lt. h i (omega (arith, lt))) p

-- a chain's nodes, from one of its places on
nodes_from-listed : {nodes : ℕ} {next : ℕ → ℕ} {chain : ℕ → Chain} (p : ArePlaced nodes next chain) (c k n : ℕ) → k + n ≡ (chain c).count → nodes_from next (p.at c k) n ≡ listed (p.at c) k n
nodes_from-listed p c k zero e = refl
nodes_from-listed {next = next} p c k (suc zero) e = refl
nodes_from-listed {next = next} p c k (suc (suc n)) e =
    ap (λ l. p.at c k ∷ l) (ap (λ i. nodes_from next i (suc n)) (p.goes_on c k (omega (arith, e))) ∙ nodes_from-listed p c (k + 1) (suc n) (omega (arith, e)))

abbrev pub nodes : (ℕ → ℕ) → Chain → List ℕ
nodes next c = nodes_from next c.first c.count

pub nodes-listed : {n : ℕ} {next : ℕ → ℕ} {chain : ℕ → Chain} (p : ArePlaced n next chain) (c : ℕ) → nodes next (chain c) ≡ listed (p.at c) 0 (chain c).count
nodes-listed {next = next} {chain = chain} p c = by (chain c).count refl where
  by : (n : ℕ) → n ≡ (chain c).count → nodes_from next (chain c).first n ≡ listed (p.at c) 0 n
  by zero e = refl
  by (suc n) e = ap (λ i. nodes_from next i (suc n)) (p.first c (omega (arith, e))) ∙ nodes_from-listed p c 0 (suc n) (omega (arith, e))

-- the nodes of a chain are below the number of nodes
listed-within : (f : ℕ → ℕ) (count k n : ℕ) → ((i : ℕ) → i < k + n → f i < count) → AreWithin count (listed f k n)
listed-within f count k zero h = tt
listed-within f count k (suc n) h = (h k (omega arith), listed-within f count (k + 1) n (λ i lt. h i (omega (arith, lt))))

pub nodes-within : {n : ℕ} {next : ℕ → ℕ} {chain : ℕ → Chain} (p : ArePlaced n next chain) (c : ℕ) → AreWithin n (nodes next (chain c))
nodes-within {n = n} {chain = chain} p c = subst (AreWithin n) (sym (nodes-listed p c)) (listed-within (p.at c) n 0 (chain c).count (λ i lt. p.within c i (omega (arith, lt))))

-- ---- the effect of joining and splitting on the lists

pub joined-nodes : {n : ℕ} {next next_after : ℕ → ℕ} {chain chain_after : ℕ → Chain} {a b : ℕ} (p : ArePlaced n next chain) (j : AreJoined next next_after chain chain_after a b)
    → nodes next_after (chain_after a) ≡ nodes next (chain a) ++ nodes next (chain b)
unfolding joined-placed
joined-nodes {chain = chain} {chain_after = chain_after} {a = a} {b = b} p j =
    let q = joined-placed p j in
    let ca = (chain a).count in
    let cb = (chain b).count in
    nodes-listed q a ∙ ap (listed (q.at a) 0) j.count ∙ listed-split (q.at a) 0 ca cb (ca + cb) refl
    ∙ (λ i. listed-pointwise (q.at a) (p.at a) 0 ca (λ k lt. at_joined-front p.at a b ca k (omega (arith, lt))) i
    ++ listed-same (q.at a) (p.at b) (0 + ca) 0 cb (λ k lt. at_joined-back p.at a b ca ((0 + ca) + k) (omega arith) ∙ ap (p.at b) (let e : ((0 + ca) + k) - ca ≡ 0 + k = omega arith in e)) i)
    ∙ (λ i. sym (nodes-listed p a) i ++ sym (nodes-listed p b) i)

pub joined-others : {n : ℕ} {next next_after : ℕ → ℕ} {chain chain_after : ℕ → Chain} {a b : ℕ} (p : ArePlaced n next chain) (j : AreJoined next next_after chain chain_after a b)
    (c : ℕ) → c ≢ a → c ≢ b → nodes next_after (chain_after c) ≡ nodes next (chain c)
unfolding joined-placed
joined-others {chain = chain} {chain_after = chain_after} {a = a} {b = b} p j c not_a not_b =
    let q = joined-placed p j in
    nodes-listed q c ∙ listed-pointwise (q.at c) (p.at c) 0 (chain_after c).count (λ k lt. at_joined-other p.at a b (chain a).count c k not_a)
    ∙ ap (listed (p.at c) 0) (ap (λ (x : Chain). x.count) (j.others c not_a not_b)) ∙ sym (nodes-listed p c)

-- ---- each node in one list

is_in-listed : (f : ℕ → ℕ) (i k n : ℕ) → ((m : ℕ) → k ≤ m → m < k + n → f m ≢ i) → is_in (listed f k n) i ≡ false
is_in-listed f i k zero h = refl
is_in-listed f i k (suc n) h =
    let ne = h k (omega arith) (omega arith) in
    let rest = is_in-listed f i (k + 1) n (λ m le lt. h m (omega (arith, le)) (omega (arith, lt))) in
    (let e : (f k == i) ≡ false = grind (arith, nat_tests) in ap (λ (b : Bool). b || is_in (listed f (k + 1) n) i) e) ∙ rest

-- the first node of a chain isn't in any other chain
pub first_elsewhere : {n : ℕ} {next : ℕ → ℕ} {chain : ℕ → Chain} (p : ArePlaced n next chain) (a c : ℕ) → a ≢ c → 0 < (chain a).count → is_in (nodes next (chain c)) (chain a).first ≡ false
first_elsewhere {chain = chain} p a c ne some =
    ap (λ l. is_in l (chain a).first) (nodes-listed p c)
    ∙ is_in-listed (p.at c) (chain a).first 0 (chain c).count (λ m le lt e. ne (sym (p.owned a 0 some) ∙ ap p.owner (sym (p.first a some) ∙ sym e) ∙ p.owned c m (omega (arith, lt))))

pub first_within : {n : ℕ} {next : ℕ → ℕ} {chain : ℕ → Chain} (p : ArePlaced n next chain) (a : ℕ) → 0 < (chain a).count → (chain a).first < n
first_within {n = n} p a some = subst (λ i. i < n) (sym (p.first a some)) (p.within a 0 some)

pub last_within : {n : ℕ} {next : ℕ → ℕ} {chain : ℕ → Chain} (p : ArePlaced n next chain) (a : ℕ) → 0 < (chain a).count → (chain a).last < n
last_within {n = n} {chain = chain} p a some =
    subst (λ i. i < n) (sym (p.last a ((chain a).count - 1) (omega (arith, some)))) (p.within a ((chain a).count - 1) (omega (arith, some)))

pub grown-others : {n : ℕ} {next next_after : ℕ → ℕ} {chain chain_after : ℕ → Chain} {b : ℕ} (p : ArePlaced n next chain) (j : IsGrown n next next_after chain chain_after b) (c : ℕ) → c ≢ b → nodes next_after (chain_after c) ≡ nodes next (chain c)
unfolding grown-placed
grown-others {n = n} {chain = chain} {chain_after = chain_after} {b = b} p j c ne =
    let q = grown-placed (n + 1) refl p j in
    nodes-listed q c ∙ listed-pointwise (q.at c) (p.at c) 0 (chain_after c).count (λ k lt. at_grown-other p.at n b c k ne) ∙ ap (listed (p.at c) 0) (ap (λ (x : Chain). x.count) (j.others c ne)) ∙ sym (nodes-listed p c)

-- the last node of a chain isn't in any other chain
pub last_elsewhere : {n : ℕ} {next : ℕ → ℕ} {chain : ℕ → Chain} (p : ArePlaced n next chain) (a c : ℕ) → a ≢ c → 0 < (chain a).count → is_in (nodes next (chain c)) (chain a).last ≡ false
last_elsewhere {chain = chain} p a c ne some =
    let k = (chain a).count - 1 in
    let below : k < (chain a).count = omega (arith, some) in
    let is = p.last a k (omega (arith, some)) in
    ap (λ l. is_in l (chain a).last) (nodes-listed p c)
    ∙ is_in-listed (p.at c) (chain a).last 0 (chain c).count (λ m le lt e. ne (sym (p.owned a k below) ∙ ap p.owner (sym is ∙ sym e) ∙ p.owned c m (omega (arith, lt))))
