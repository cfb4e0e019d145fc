-- The facts about the calls of `Links`, in the form of their proof goals.
use Rattle.std.proofs.Common.{◌≡◌, ◌≢◌, ◌<◌, ◌≤◌, ◌+◌, ℕ, zero, suc, List, [], ◌∷◌, ◌++◌, length, map, get_or, refl, ap, sym, ◌∙◌, subst, arith}
use Rattle.std.specs.Prelude.{slice_set}
use Rattle.std.proofs.lemmas.List.{get_or-map, get_or-set_same, get_or_default, length-append, length-map}
use Rattle.chain_arena.specs.declared.joins.Chain.{Chain}
use Rattle.chain_arena.proofs.Lists.{get_or-last}
use Rattle.chain_arena.specs.Joins.{empty_chain, joined, joined_next, single_of, without_first_of}
use Rattle.chain_arena.specs.Linked.{AreLinked, AreWithin, FreesFirst, IsInNone, LinkData, TakesFree, concatenated, next_of, nodes_of, table, nodes_from}
use Rattle.chain_arena.proofs.Linking.{concat_law, free_elsewhere, freed_law, grown_law, joined-count, joined-last, last_free_elsewhere, taken_law, total-has, two_fit, total-last}
use Rattle.chain_arena.proofs.Listed.{first_within, last_within, length-nodes_from, nodes-within}
use Rattle.chain_arena.specs.Placed.{ArePlaced}

abbrev pub seen : List ℕ → Chain → List Chain → LinkData
seen next free chains = record { free = nodes_of next free; lists = map (nodes_of next) chains; nodes = length next }

pub in_chains : (next : List ℕ) (free : Chain) (chains : List Chain) (v : LinkData) (n : ℕ) → seen next free chains ≡ v → n < length v.lists → n < length chains
in_chains next free chains v n e lt = subst (λ l. n < l) (length-map chains (nodes_of next)) (subst (λ (v : LinkData). n < length v.lists) (sym e) lt)

pub some_free : (next : List ℕ) (free : Chain) (chains : List Chain) (v : LinkData) → seen next free chains ≡ v → 0 < length v.free → 0 < free.count
some_free next free chains v e lt = subst (λ l. 0 < l) (length-nodes_from (next_of next) free.first free.count) (subst (λ (v : LinkData). 0 < length v.free) (sym e) lt)

pub list_at : (next : List ℕ) (free : Chain) (chains : List Chain) (v : LinkData) (n : ℕ) → seen next free chains ≡ v → n < length chains → get_or v.lists n [] ≡ nodes_of next (get_or chains n empty_chain)
list_at next free chains v n e lt = ap (λ (v : LinkData). get_or v.lists n []) (sym e) ∙ get_or-map (nodes_of next) chains n empty_chain [] lt

pub some_in : (next : List ℕ) (free : Chain) (chains : List Chain) (v : LinkData) (n : ℕ) → seen next free chains ≡ v → n < length chains → 0 < length (get_or v.lists n []) → 0 < (get_or chains n empty_chain).count
some_in next free chains v n e lt some =
    let c = get_or chains n empty_chain in
    subst (λ l. 0 < l) (length-nodes_from (next_of next) c.first c.count) (subst (λ l. 0 < length l) (list_at next free chains v n e lt) some)

pub same_chain : (chains : List Chain) (n : ℕ) (it : Chain) → n < length chains → it ≡ get_or chains n it → it ≡ get_or chains n empty_chain
same_chain chains n it lt e = e ∙ get_or_default chains n it empty_chain lt

pub last_in : (next : List ℕ) (free : Chain) (chains : List Chain) (n : ℕ) (it : Chain) → AreLinked next empty_chain free chains → n < length chains → it ≡ get_or chains n it → 0 < it.count → it.last < length next
last_in next free chains n it h lt e some =
    let s = same_chain chains n it lt e in
    subst (λ (c : Chain). c.last < length next) (sym s) (last_within h.placed (suc (suc n)) (subst (λ (c : Chain). 0 < c.count) s some))

pub first_in : (next : List ℕ) (free : Chain) (chains : List Chain) (n : ℕ) (it : Chain) → AreLinked next empty_chain free chains → n < length chains → it ≡ get_or chains n it → 0 < it.count → it.first < length next
first_in next free chains n it h lt e some =
    let s = same_chain chains n it lt e in
    subst (λ (c : Chain). c.first < length next) (sym s) (first_within h.placed (suc (suc n)) (subst (λ (c : Chain). 0 < c.count) s some))

pub count_in : (next : List ℕ) (free : Chain) (chains : List Chain) (n : ℕ) (it : Chain) → AreLinked next empty_chain free chains → n < length chains → it ≡ get_or chains n it → free.count + it.count ≤ length next
count_in next free chains n it h lt e =
    let s = ap (λ (c : Chain). c.count) (same_chain chains n it lt e) in
    let t = total-has chains n in
    let f = h.fits in
    omega (arith, s, t, f)

pub counts_in : (next : List ℕ) (free : Chain) (chains : List Chain) (a b : ℕ) (x y : Chain) → AreLinked next empty_chain free chains → a < length chains → b < length chains → a ≢ b → x ≡ get_or chains a x → y ≡ get_or chains b y
    → x.count + y.count ≤ length next
counts_in next free chains a b x y h la lb ne ex ey =
    let s = ap (λ (c : Chain). c.count) (same_chain chains a x la ex) in
    let r = ap (λ (c : Chain). c.count) (same_chain chains b y lb ey) in
    let t = two_fit next free chains a b h la ne in
    omega (arith, s, r, t)

-- the nodes of a chain are its first node and the nodes of the chain without it
cut_first : (next : List ℕ) (it rest : Chain) → 0 < it.count → rest ≡ without_first_of next it → nodes_of next it ≡ it.first ∷ nodes_of next rest
cut_first next it rest some r = by it.count some refl where
  by : (m : ℕ) → 0 < m → m ≡ it.count → nodes_from (next_of next) it.first m ≡ it.first ∷ nodes_of next rest
  by zero some e = absurd (omega (arith, some))
  by (suc m) some e = ap (λ (l : List ℕ). it.first ∷ l) ((λ k. nodes_from (next_of next) (ap (λ (c : Chain). c.first) (sym r) k) m)
      ∙ ap (nodes_from (next_of next) rest.first) (let c = ap (λ (c : Chain). c.count) r in let f : m ≡ rest.count = omega (arith, c, e) in f))

-- ---- grow

pub record Grows (old : LinkData) (next : List ℕ) (free : Chain) (chains : List Chain) : Type 0 where
  pub linked : AreLinked next empty_chain free chains
  pub view : seen next free chains ≡ record old { free = old.free ++ old.nodes ∷ []; nodes = old.nodes + 1 }

pub grows : (v : LinkData) (next : List ℕ) (free : Chain) (chains : List Chain) (longer after : List ℕ) (node : ℕ) (one x : Chain) → seen next free chains ≡ v → AreLinked next empty_chain free chains → longer ≡ next ++ 0 ∷ [] → node ≡ length next → one ≡ single_of node
    → x ≡ joined free one → after ≡ joined_next longer free one → Grows v after x chains
grows v next free chains longer after node one x e h l n o j a =
    let s = grown_law next free chains h in
    let o' : one ≡ single_of (length next) = o ∙ ap single_of n in
    let x' : x ≡ joined free (single_of (length next)) = j ∙ ap (joined free) o' in
    let a' : after ≡ joined_next (next ++ 0 ∷ []) free (single_of (length next)) = a ∙ (λ i. joined_next (l i) free (o' i)) in
    subst (λ (v : LinkData). Grows v after x chains) e (subst (λ after. Grows (seen next free chains) after x chains) (sym a') (subst (λ x. Grows (seen next free chains) (joined_next (next ++ 0 ∷ []) free (single_of (length next))) x chains) (sym x')
    (record { linked = s.linked; view = λ i. record { free = s.free_is i; lists = s.lists_are i; nodes = s.size_is i } })))

-- ---- add_list

pub added_linked : (next : List ℕ) (free : Chain) (chains more : List Chain) → AreLinked next empty_chain free chains → more ≡ chains ++ empty_chain ∷ [] → AreLinked next empty_chain free more
added_linked next free chains more h e = subst (AreLinked next empty_chain free) (sym e) (record {
  placed = subst (ArePlaced (length next) (next_of next)) (λ i c. same c i) h.placed;
  fits = let t = total-last chains in let f = h.fits in omega (arith, t, f);
}) where
  same : (c : ℕ) → table empty_chain free chains c ≡ table empty_chain free (chains ++ empty_chain ∷ []) c
  same zero = refl
  same (suc zero) = refl
  same (suc (suc c)) = sym (get_or-last chains empty_chain c)

-- ---- take_free

pub record Takes (list : ℕ) (old : LinkData) (node : ℕ) (next : List ℕ) (free : Chain) (chains : List Chain) : Type 0 where
  pub linked : AreLinked next empty_chain free chains
  pub taken : TakesFree list old (seen next free chains) node

pub takes : (v : LinkData) (next : List ℕ) (free : Chain) (chains : List Chain) (n : ℕ) (it rest one x : Chain) (after : List ℕ) → seen next free chains ≡ v → AreLinked next empty_chain free chains → n < length v.lists → 0 < length v.free
    → it ≡ get_or chains n it → rest ≡ without_first_of next free → one ≡ single_of free.first → x ≡ joined it one → after ≡ joined_next next it one → Takes n v free.first after rest (slice_set chains n x)
takes v next free chains n it rest one x after e h lt some i r o j a =
    let within = in_chains next free chains v n e lt in
    let has = some_free next free chains v e some in
    let it' = same_chain chains n it within i in
    let s = taken_law next free chains n h within has rest x after r (j ∙ (λ k. joined (it' k) (o k))) (a ∙ (λ k. joined_next next (it' k) (o k))) in
    subst (λ (v : LinkData). Takes n v free.first after rest (slice_set chains n x)) e (record {
      linked = s.linked;
      taken = record {
        free = cut_first next free rest has r ∙ ap (λ l. free.first ∷ l) (sym s.free_is);
        lists = s.lists_are ∙ ap (λ l. slice_set (map (nodes_of next) chains) n (l ++ free.first ∷ [])) (sym (get_or-map (nodes_of next) chains n empty_chain [] within));
        nodes = s.size_is;
        within = first_within h.placed 1 has;
        elsewhere = free_elsewhere next free chains h has;
      };
    })

-- ---- free_first

pub record Frees (list : ℕ) (old : LinkData) (node : ℕ) (next : List ℕ) (free : Chain) (chains : List Chain) : Type 0 where
  pub linked : AreLinked next empty_chain free chains
  pub freed : FreesFirst list old (seen next free chains) node

pub frees : (v : LinkData) (next : List ℕ) (free : Chain) (chains : List Chain) (n : ℕ) (it rest one x : Chain) (after : List ℕ) → seen next free chains ≡ v → AreLinked next empty_chain free chains → n < length v.lists → 0 < length (get_or v.lists n [])
    → it ≡ get_or chains n it → rest ≡ without_first_of next it → one ≡ single_of it.first → x ≡ joined free one → after ≡ joined_next next free one → Frees n v it.first after x (slice_set chains n rest)
frees v next free chains n it rest one x after e h lt some i r o j a =
    let within = in_chains next free chains v n e lt in
    let has = some_in next free chains v n e within some in
    let it' = same_chain chains n it within i in
    let one' : one ≡ single_of (get_or chains n empty_chain).first = o ∙ ap (λ (c : Chain). single_of c.first) it' in
    let s = freed_law next free chains n h within has rest x after (r ∙ ap (without_first_of next) it') (j ∙ ap (joined free) one') (a ∙ ap (joined_next next free) one') in
    let long = subst (λ l. n < l) (sym (length-map chains (nodes_of next))) within in
    let now : get_or (map (nodes_of after) (slice_set chains n rest)) n [] ≡ nodes_of next rest = ap (λ l. get_or l n []) s.lists_are ∙ get_or-set_same (map (nodes_of next) chains) n (nodes_of next rest) [] long in
    let last : x.last ≡ it.first = ap (λ (c : Chain). c.last) j ∙ joined-last free one (let c = ap (λ (c : Chain). c.count) o in omega (arith, c)) ∙ ap (λ (c : Chain). c.last) o in
    let count = ap (λ (c : Chain). c.count) j ∙ joined-count free one in
    let ones = ap (λ (c : Chain). c.count) o in
    subst (λ (v : LinkData). Frees n v it.first after x (slice_set chains n rest)) e (record {
      linked = s.linked;
      freed = record {
        listed = get_or-map (nodes_of next) chains n empty_chain [] within ∙ ap (nodes_of next) (sym it') ∙ cut_first next it rest (subst (λ (c : Chain). 0 < c.count) (sym it') has) r ∙ ap (λ (l : List ℕ). it.first ∷ l) (sym now);
        lists = s.lists_are ∙ ap (slice_set (map (nodes_of next) chains) n) (sym now);
        free = s.free_is ∙ ap (λ (c : Chain). nodes_of next free ++ c.first ∷ []) (sym it');
        nodes = s.size_is;
        within = first_in next free chains n it h within i (subst (λ (c : Chain). 0 < c.count) (sym it') has);
        elsewhere = subst (λ (node : ℕ). IsInNone node (map (nodes_of after) (slice_set chains n rest))) last (last_free_elsewhere after x (slice_set chains n rest) s.linked (omega (arith, count, ones)));
      };
    })

-- ---- concat

pub record Concats (a b : ℕ) (old : LinkData) (next : List ℕ) (free : Chain) (chains : List Chain) : Type 0 where
  pub linked : AreLinked next empty_chain free chains
  pub view : seen next free chains ≡ concatenated a b old

pub concats : (v : LinkData) (next : List ℕ) (free : Chain) (chains : List Chain) (a b : ℕ) (x y z : Chain) (after : List ℕ) → seen next free chains ≡ v → AreLinked next empty_chain free chains → a < length v.lists → b < length v.lists → a ≢ b
    → x ≡ get_or chains a x → y ≡ get_or chains b y → z ≡ joined x y → after ≡ joined_next next x y → Concats a b v after free (slice_set (slice_set chains a z) b empty_chain)
concats v next free chains a b x y z after e h la lb ne i k j n =
    let wa = in_chains next free chains v a e la in
    let wb = in_chains next free chains v b e lb in
    let x' = same_chain chains a x wa i in
    let y' = same_chain chains b y wb k in
    let s = concat_law next free chains a b h wa wb ne z after (j ∙ (λ m. joined (x' m) (y' m))) (n ∙ (λ m. joined_next next (x' m) (y' m))) in
    subst (λ (v : LinkData). Concats a b v after free (slice_set (slice_set chains a z) b empty_chain)) e (record {
      linked = s.linked;
      view = λ m. record {
        free = s.free_is m;
        lists = (s.lists_are ∙ (λ m. slice_set (slice_set (map (nodes_of next) chains) a (sym (get_or-map (nodes_of next) chains a empty_chain [] wa) m ++ sym (get_or-map (nodes_of next) chains b empty_chain [] wb) m)) b [])) m;
        nodes = s.size_is m;
      };
    })

-- ---- small facts

pub some_at : (next : List ℕ) (free : Chain) (chains : List Chain) (v : LinkData) (n : ℕ) (it : Chain) → seen next free chains ≡ v → n < length chains → 0 < length (get_or v.lists n []) → it ≡ get_or chains n it → 0 < it.count
some_at next free chains v n it e lt some i = subst (λ (c : Chain). 0 < c.count) (sym (same_chain chains n it lt i)) (some_in next free chains v n e lt some)

pub nodes_in : (next : List ℕ) (free : Chain) (chains : List Chain) (v : LinkData) (n : ℕ) (it : Chain) → seen next free chains ≡ v → n < length v.lists → it ≡ get_or chains n it → nodes_of next it ≡ get_or v.lists n []
nodes_in next free chains v n it e lt i =
    let within = in_chains next free chains v n e lt in
    ap (nodes_of next) (same_chain chains n it within i) ∙ sym (list_at next free chains v n e within)

pub len_in : (next : List ℕ) (free : Chain) (chains : List Chain) (v : LinkData) (n : ℕ) (it : Chain) → seen next free chains ≡ v → n < length v.lists → it ≡ get_or chains n it → it.count ≡ length (get_or v.lists n [])
len_in next free chains v n it e lt i = sym (length-nodes_from (next_of next) it.first it.count) ∙ ap length (nodes_in next free chains v n it e lt i)

pub within_in : (next : List ℕ) (free : Chain) (chains : List Chain) (v : LinkData) (n : ℕ) (it : Chain) → seen next free chains ≡ v → AreLinked next empty_chain free chains → n < length v.lists → it ≡ get_or chains n it → AreWithin (length next) (nodes_of next it)
within_in next free chains v n it e h lt i =
    subst (λ (c : Chain). AreWithin (length next) (nodes_of next c)) (sym (same_chain chains n it (in_chains next free chains v n e lt) i)) (nodes-within h.placed (suc (suc n)))

pub longer_last : (next longer : List ℕ) (free : Chain) (chains : List Chain) → AreLinked next empty_chain free chains → longer ≡ next ++ 0 ∷ [] → 0 < free.count → free.last < length longer
longer_last next longer free chains h e some =
    let l = ap length e ∙ length-append next (0 ∷ []) in
    let w = last_within h.placed 1 some in
    omega (arith, l, w)

pub none_linked : AreLinked [] empty_chain empty_chain []
none_linked = record {
  placed = record {
    at = λ c k. 0;
    owner = λ i. 0;
    rank = λ i. 0;
    within = λ c k lt. absurd (none c k lt);
    owned = λ c k lt. absurd (none c k lt);
    ranked = λ c k lt. absurd (none c k lt);
    first = λ c lt. absurd (none c 0 lt);
    goes_on = λ c k lt. absurd (none c (k + 1) lt);
    last = λ c k e. absurd (none c k (omega (arith, e)));
  };
  fits = omega arith;
} where
  empty : (c : ℕ) → (table empty_chain empty_chain [] c).count ≡ 0
  empty zero = refl
  empty (suc zero) = refl
  empty (suc (suc c)) = refl

  none : (c k : ℕ) → k < (table empty_chain empty_chain [] c).count → ⊥
  none c k lt = let e = empty c in omega (arith, e, lt)

pub none_linked_of : (next : List ℕ) (chains : List Chain) → next ≡ [] → chains ≡ [] → AreLinked next empty_chain empty_chain chains
none_linked_of next chains e f = subst (λ n. AreLinked n empty_chain empty_chain chains) (sym e) (subst (AreLinked [] empty_chain empty_chain) (sym f) none_linked)
