-- One state knows no more than another if the fields that its values depend on, or in which its records may differ,
-- include those of the other, origins are lost, and bases are loosened. Joins are least upper bounds.
use Rattle.std.proofs.Common.{◌≡◌, ◌==◌, not, ℕ, zero, suc, Bool, true, false, if◌then◌else◌, Some, List, [], ◌∷◌, inl, inr, length, get_or, slice_set, map, refl, sym, ap, subst, ◌∙◌, arith}
use Rattle.std.specs.List.{AllByRecursion}
use Rattle.std.proofs.lemmas.Bool.{and_parts, and_from, or_left, or_right, or_cases, cases_Bool, eq-eqb, lt-ltb, ltb-true, not_from_false, false_from_ne_true, true≢false}
use Rattle.tac_syntax.specs.Contexts.{IsBelow}
use Rattle.tac_flow.specs.Known.{FieldSet, either, less, Side, left, right, Base, first, bound, some, nowhere, Origin, field_of, key_at, unknown, same_side, same_base, same_origin, side_of, met, Known, Held, joined_base, joined_origin, joined_known, joined_held, changed_from, zipped}
use Rattle.tac_flow.proofs.TwoCalls.{Sub}
use Rattle.tac_flow.proofs.RoomToChange.{IsSmallHeld, either_below, changed_more}
use Rattle.tac_flow.proofs.LooserBases.{same_origin-true, Loosens, loosens_joined}
pub use Rattle.tac_flow.specs.Warm.{Forgets, KnowsLess, HoldsLess, IsLoose, Both}

-- ---- sets

pub Sub-trans : (s t u : FieldSet) → Sub s t → Sub t u → Sub s u
Sub-trans s t u h g k m = g k (h k m)

pub Sub-either : (s t u : FieldSet) → Sub s u → Sub t u → Sub (either s t) u
Sub-either s t u h g k m = elim (or_cases (s k) (t k) m) as (λ _. u k ≡ true) [ inl p ↦ h k p | inr p ↦ g k p ]

both_ways : (s t : Bool) → (s ≡ true → t ≡ true) → (t ≡ true → s ≡ true) → s ≡ t
both_ways true t f g = sym (f refl)
both_ways false true f g = g refl
both_ways false false f g = refl

pub Sub-both : (s t : FieldSet) → Sub s t → Sub t s → s ≡ t
Sub-both s t h g = λ i k. both_ways (s k) (t k) (h k) (g k) i

-- ---- bases

pub same_side-refl : (a : Side) → same_side a a ≡ true
same_side-refl left = refl
same_side-refl right = refl

pub same_base-refl : (a : Base) → same_base a a ≡ true
same_base-refl first = refl
same_base-refl (bound name side) = and_from (name == name) (same_side side side) (eq-eqb name name refl) (same_side-refl side)
same_base-refl (some side) = same_side-refl side
same_base-refl nowhere = refl

-- a base that `some side` loosens is on that side
below_some : (a : Base) (s : Side) → Loosens a (some s) → side_of a ≡ Some s
below_some a s (inl p) = sym (ap side_of p)
below_some a s (inr (inl p)) = p.1 ∙ sym (ap side_of p.2)
below_some a s (inr (inr p)) = absurd (cc)

below_named : (a b : Base) → ((s : Side) → b ≡ some s → ⊥) → (b ≡ nowhere → ⊥) → Loosens a b → a ≡ b
below_named a b f g (inl p) = sym p
below_named a b f g (inr (inl p)) = absurd (f p.0 p.2)
below_named a b f g (inr (inr p)) = absurd (g p)

above_nowhere : (b : Base) → Loosens nowhere b → b ≡ nowhere
above_nowhere b (inl p) = p
above_nowhere b (inr (inl p)) = absurd (let e = p.1 in cc)
above_nowhere b (inr (inr p)) = p

pub loosens_trans : (a b c : Base) → Loosens a b → Loosens b c → Loosens a c
loosens_trans a b c h (inl p) = subst (Loosens a) (sym p) h
loosens_trans a b c (inl q) (inr (inl p)) = inr (inl (p.0, ap side_of (sym q) ∙ p.1, p.2))
loosens_trans a b c (inr (inl q)) (inr (inl p)) =
    inr (inl (p.0, q.1 ∙ sym (ap side_of q.2) ∙ p.1, p.2))
loosens_trans a b c (inr (inr q)) (inr (inl p)) = absurd (let e = sym (ap side_of q) ∙ p.1 in cc)
loosens_trans a b c h (inr (inr p)) = inr (inr p)

pub loosens_both : (a b : Base) → Loosens a b → Loosens b a → a ≡ b
loosens_both a b (inl p) g = sym p
loosens_both a b h (inl q) = q
loosens_both a b (inr (inl p)) (inr (inl q)) =
    let e : Some p.0 ≡ Some q.0 = sym (ap side_of p.2) ∙ q.1 in
    let s : p.0 ≡ q.0 = cc in
    q.2 ∙ ap some (sym s) ∙ sym p.2
loosens_both a b (inr (inl p)) (inr (inr q)) = absurd (let e = sym p.1 ∙ ap side_of q in cc)
loosens_both a b (inr (inr p)) (inr (inl q)) = absurd (let e = sym q.1 ∙ ap side_of p in cc)
loosens_both a b (inr (inr p)) (inr (inr q)) = q ∙ sym p

-- both bases are on the same side, so their join is at most loosened to that side
met_same : (a b : Base) (s : Side) → side_of a ≡ Some s → side_of b ≡ Some s → met (side_of a) (side_of b) ≡ some s
met_same a b s e f =
    (λ i. met (e i) (f i)) ∙ ap (λ (t : Bool). if t then some s else nowhere) (same_side-refl s)

joined_of : (a b : Base) (P : Base → Type 0) → P a → P (met (side_of a) (side_of b)) → P (joined_base a b)
joined_of a b P p q = elim (cases_Bool (same_base a b)) as (λ _. P (if same_base a b then a else met (side_of a) (side_of b))) [
  | inl h ↦ subst (λ (v : Bool). P (if v then a else met (side_of a) (side_of b))) (sym h) p
  | inr h ↦ subst (λ (v : Bool). P (if v then a else met (side_of a) (side_of b))) (sym h) q
]

joined_itself : (a b : Base) → a ≡ b → joined_base a b ≡ a
joined_itself a b e = ap (λ (v : Bool). if v then a else met (side_of a) (side_of b)) (ap (λ (z : Base). same_base a z) (sym e) ∙ same_base-refl a)

pub loosens_least : (a b u : Base) → Loosens a u → Loosens b u → Loosens (joined_base a b) u
loosens_least a b u (inl p) (inl q) = inl (p ∙ sym (joined_itself a b (sym p ∙ q)))
loosens_least a b u (inl p) (inr (inl q)) =
    let e : side_of a ≡ Some q.0 = ap side_of (sym p ∙ q.2) in
    joined_of a b (λ (z : Base). Loosens z u) (inl p) (inl (q.2 ∙ sym (met_same a b q.0 e q.1)))
loosens_least a b u (inr (inl p)) (inl q) =
    let e : side_of b ≡ Some p.0 = ap side_of (sym q ∙ p.2) in
    joined_of a b (λ (z : Base). Loosens z u) (inr (inl p)) (inl (p.2 ∙ sym (met_same a b p.0 p.1 e)))
loosens_least a b u (inr (inl p)) (inr (inl q)) =
    let e : some p.0 ≡ some q.0 = sym p.2 ∙ q.2 in
    let s : q.0 ≡ p.0 = cc in
    joined_of a b (λ (z : Base). Loosens z u) (inr (inl p)) (inl (p.2 ∙ sym (met_same a b p.0 p.1 (q.1 ∙ ap (λ (t : Side). Some t) s))))
loosens_least a b u (inr (inr p)) h = inr (inr p)
loosens_least a b u h (inr (inr q)) = inr (inr q)

-- ---- origins

pub same_origin-refl : (a : Origin) → same_origin a a ≡ true
same_origin-refl (field_of base field) = and_from (same_base base base) (field == field) (same_base-refl base) (eq-eqb field field refl)
same_origin-refl (key_at at) = eq-eqb at at refl
same_origin-refl unknown = refl

pub forgets_trans : (a b c : Origin) → Forgets a b → Forgets b c → Forgets a c
forgets_trans a b c (inl p) (inl q) = inl (q ∙ p)
forgets_trans a b c (inr p) (inl q) = inr (q ∙ p)
forgets_trans a b c h (inr q) = inr q

pub forgets_both : (a b : Origin) → Forgets a b → Forgets b a → a ≡ b
forgets_both a b (inl p) g = sym p
forgets_both a b (inr p) (inl q) = q
forgets_both a b (inr p) (inr q) = q ∙ sym p

joined_origin_of : (a b : Origin) (P : Origin → Type 0) → (same_origin a b ≡ true → P a) → P unknown → P (joined_origin a b)
joined_origin_of a b P p q = elim (cases_Bool (same_origin a b)) as (λ _. P (if same_origin a b then a else unknown)) [
  | inl h ↦ subst (λ (v : Bool). P (if v then a else unknown)) (sym h) (p h)
  | inr h ↦ subst (λ (v : Bool). P (if v then a else unknown)) (sym h) q
]

pub forgets_left : (a b : Origin) → Forgets a (joined_origin a b)
forgets_left a b = joined_origin_of a b (Forgets a) (λ _. inl refl) (inr refl)

pub forgets_right : (a b : Origin) → Forgets b (joined_origin a b)
forgets_right a b = joined_origin_of a b (Forgets b) (λ h. inl (same_origin-true a b h)) (inr refl)

pub forgets_least : (a b u : Origin) → Forgets a u → Forgets b u → Forgets (joined_origin a b) u
forgets_least a b u (inl p) (inl q) =
    let e : joined_origin a b ≡ a = ap (λ (v : Bool). if v then a else unknown) (ap (λ (z : Origin). same_origin a z) (sym (sym p ∙ q)) ∙ same_origin-refl a) in
    inl (p ∙ sym e)
forgets_least a b u (inr p) h = inr p
forgets_least a b u h (inr q) = inr q

-- ---- registers

pub knows-refl : (v : Known) → KnowsLess v v
knows-refl v = record { deps = λ k m. m; origin = inl refl }

pub knows-trans : (u v w : Known) → KnowsLess u v → KnowsLess v w → KnowsLess u w
knows-trans u v w h g = record { deps = Sub-trans u.deps v.deps w.deps h.deps g.deps; origin = forgets_trans u.origin v.origin w.origin h.origin g.origin }

pub knows-both : (v w : Known) → KnowsLess v w → KnowsLess w v → v ≡ w
knows-both v w h g =
    let d = Sub-both v.deps w.deps h.deps g.deps in
    let o = forgets_both v.origin w.origin h.origin g.origin in
    λ i. record { deps = d i; origin = o i }

pub knows-left : (v w : Known) → KnowsLess v (joined_known v w)
knows-left v w = record { deps = λ k m. or_left (v.deps k) (w.deps k) m; origin = forgets_left v.origin w.origin }

pub knows-right : (v w : Known) → KnowsLess w (joined_known v w)
knows-right v w = record { deps = λ k m. or_right (v.deps k) (w.deps k) m; origin = forgets_right v.origin w.origin }

pub knows-least : (v w u : Known) → KnowsLess v u → KnowsLess w u → KnowsLess (joined_known v w) u
knows-least v w u h g = record { deps = Sub-either v.deps w.deps u.deps h.deps g.deps; origin = forgets_least v.origin w.origin u.origin h.origin g.origin }

pub holds-refl : (h : Held) → HoldsLess h h
holds-refl h = record { base = inl refl; changed = λ k m. m; depends = λ k m. m; missing = λ k m f. absurd (true≢false (sym m ∙ f)) }

missing_trans : (f g h : Held) → HoldsLess f g → HoldsLess g h → (k : ℕ) → h.changed k ≡ true → f.changed k ≡ false → h.depends k ≡ true
missing_trans f g h p q k m e = elim (cases_Bool (g.changed k)) as (λ _. h.depends k ≡ true) [
  | inl t ↦ q.depends k (p.missing k t e)
  | inr t ↦ q.missing k m t
]

pub holds-trans : (f g h : Held) → HoldsLess f g → HoldsLess g h → HoldsLess f h
holds-trans f g h p q = record {
  base = loosens_trans f.base g.base h.base p.base q.base;
  changed = Sub-trans f.changed g.changed h.changed p.changed q.changed;
  depends = Sub-trans f.depends g.depends h.depends p.depends q.depends;
  missing = missing_trans f g h p q;
}

pub holds-both : (g h : Held) → HoldsLess g h → HoldsLess h g → g ≡ h
holds-both g h p q =
    let b = loosens_both g.base h.base p.base q.base in
    let c = Sub-both g.changed h.changed p.changed q.changed in
    let d = Sub-both g.depends h.depends p.depends q.depends in
    λ i. record { base = b i; changed = c i; depends = d i }

module _ (n : ℕ) (g h : Held) (small : IsSmallHeld n g) (other : IsSmallHeld n h) where
  united : IsBelow n (either g.changed h.changed)
  united = either_below n g.changed h.changed small.changed other.changed

  grown : Sub (either g.changed h.changed) (joined_held n g h).changed
  grown = changed_more n (joined_base g.base h.base) (either g.changed h.changed) united

  lost : (s : FieldSet) (k : ℕ) → (joined_held n g h).changed k ≡ true → s k ≡ false → less (joined_held n g h).changed s k ≡ true
  lost s k m f = and_from ((joined_held n g h).changed k) (not (s k)) m (not_from_false (s k) f)

  pub holds-left : HoldsLess g (joined_held n g h)
  holds-left = record {
    base = (loosens_joined g.base h.base).0;
    changed = λ k m. grown k (or_left (g.changed k) (h.changed k) m);
    depends = λ k m. or_left _ _ (or_left (g.depends k) (h.depends k) m);
    missing = λ k m f. or_right _ _ (or_left _ _ (lost g.changed k m f));
  }

  pub holds-right : HoldsLess h (joined_held n g h)
  holds-right = record {
    base = (loosens_joined g.base h.base).1;
    changed = λ k m. grown k (or_right (g.changed k) (h.changed k) m);
    depends = λ k m. or_left _ _ (or_right (g.depends k) (h.depends k) m);
    missing = λ k m f. or_right _ _ (or_right _ _ (lost h.changed k m f));
  }

  -- what a join counts as changed has changed in every state that knows less than both
  changed_least : (u : Held) → IsLoose n u → (b : Base) → Loosens b u.base → Sub (either g.changed h.changed) u.changed → Sub (changed_from n b (either g.changed h.changed)) u.changed
  changed_least u loose first l s k m = s k m
  changed_least u loose (bound name side) l s k m = s k m
  changed_least u loose (some side) l s k m = s k m
  changed_least u loose nowhere l s k m = loose (above_nowhere u.base l) k (ltb-true k n m)

  pub holds-least : (u : Held) → IsLoose n u → HoldsLess g u → HoldsLess h u → HoldsLess (joined_held n g h) u
  holds-least u loose p q =
      let base = loosens_least g.base h.base u.base p.base q.base in
      let changed = changed_least u loose (joined_base g.base h.base) base (Sub-either g.changed h.changed u.changed p.changed q.changed) in
      record {
        base = base;
        changed = changed;
        depends = Sub-either _ _ u.depends (Sub-either g.depends h.depends u.depends p.depends q.depends)
            (Sub-either _ _ u.depends
            (λ k m. let both = and_parts ((joined_held n g h).changed k) (not (g.changed k)) m in p.missing k (changed k both.0) (not_true (g.changed k) both.1))
            (λ k m. let both = and_parts ((joined_held n g h).changed k) (not (h.changed k)) m in q.missing k (changed k both.0) (not_true (h.changed k) both.1)));
        missing = λ k m f. p.missing k m (false_from_ne_true (g.changed k) (λ t. true≢false (sym (grown k (or_left (g.changed k) (h.changed k) t)) ∙ f)));
      } where
        not_true : (b : Bool) → not b ≡ true → b ≡ false
        not_true true e = absurd (true≢false (sym e))
        not_true false e = refl

  pub joined-loose : IsLoose n (joined_held n g h)
  joined-loose e k lt = subst (λ (b : Base). changed_from n b (either g.changed h.changed) k ≡ true) (sym e) (lt-ltb k n lt)

-- ---- lists

pub Both-set : {A B : Type 0} (P : A → B → Type 0) (xs : List A) (ys : List B) (n : ℕ) (a : A) (b : B) → Both P xs ys → P a b → Both P (slice_set xs n a) (slice_set ys n b)
Both-set P [] [] n a b h p = tt
Both-set P (x ∷ xs) (y ∷ ys) zero a b h p = (p, h.1)
Both-set P (x ∷ xs) (y ∷ ys) (suc n) a b h p = (h.0, Both-set P xs ys n a b h.1 p)
Both-set P xs ys n a b h p = absurd h

pub Both-get_or : {A B : Type 0} (P : A → B → Type 0) (xs : List A) (ys : List B) (n : ℕ) (a : A) (b : B) → Both P xs ys → P a b → P (get_or xs n a) (get_or ys n b)
Both-get_or P [] [] n a b h p = p
Both-get_or P (x ∷ xs) (y ∷ ys) zero a b h p = h.0
Both-get_or P (x ∷ xs) (y ∷ ys) (suc n) a b h p = Both-get_or P xs ys n a b h.1 p
Both-get_or P xs ys n a b h p = absurd h

pub Both-map : {A B C D : Type 0} (P : A → B → Type 0) (Q : C → D → Type 0) (f : A → C) (g : B → D) → ((a : A) (b : B) → P a b → Q (f a) (g b)) → (xs : List A) (ys : List B) → Both P xs ys → Both Q (map f xs) (map g ys)
Both-map P Q f g k [] [] h = tt
Both-map P Q f g k (x ∷ xs) (y ∷ ys) h = (k x y h.0, Both-map P Q f g k xs ys h.1)
Both-map P Q f g k xs ys h = absurd h

pub Both-refl : {A : Type 0} (P : A → A → Type 0) → ((a : A) → P a a) → (xs : List A) → Both P xs xs
Both-refl P f [] = tt
Both-refl P f (x ∷ xs) = (f x, Both-refl P f xs)

pub Both-trans : {A : Type 0} (P : A → A → Type 0) → ((a b c : A) → P a b → P b c → P a c) → (xs ys zs : List A) → Both P xs ys → Both P ys zs → Both P xs zs
Both-trans P f [] [] [] h g = tt
Both-trans P f (x ∷ xs) (y ∷ ys) (z ∷ zs) h g = (f x y z h.0 g.0, Both-trans P f xs ys zs h.1 g.1)
Both-trans P f [] [] (z ∷ zs) h g = absurd g
Both-trans P f [] (y ∷ ys) zs h g = absurd h
Both-trans P f (x ∷ xs) [] zs h g = absurd h
Both-trans P f (x ∷ xs) (y ∷ ys) [] h g = absurd g

pub Both-same : {A : Type 0} (P : A → A → Type 0) → ((a b : A) → P a b → P b a → a ≡ b) → (xs ys : List A) → Both P xs ys → Both P ys xs → xs ≡ ys
Both-same P f [] [] h g = refl
Both-same P f (x ∷ xs) (y ∷ ys) h g = let e = f x y h.0 g.0 in let r = Both-same P f xs ys h.1 g.1 in λ i. e i ∷ r i
Both-same P f [] (y ∷ ys) h g = absurd h
Both-same P f (x ∷ xs) [] h g = absurd h

pub Both-left : {A : Type 0} (G : A → Type 0) (P : A → A → Type 0) (f : A → A → A) → ((a b : A) → G a → G b → P a (f a b)) → (xs ys : List A) → AllByRecursion G xs → AllByRecursion G ys → length ys ≡ length xs → Both P xs (zipped f xs ys)
Both-left G P f k [] ys a b e = tt
Both-left G P f k (x ∷ xs) [] a b e = absurd (omega (arith, e))
Both-left G P f k (x ∷ xs) (y ∷ ys) a b e = (k x y a.0 b.0, Both-left G P f k xs ys a.1 b.1 (omega (arith, e)))

pub Both-right : {A : Type 0} (G : A → Type 0) (P : A → A → Type 0) (f : A → A → A) → ((a b : A) → G a → G b → P b (f a b)) → (xs ys : List A) → AllByRecursion G xs → AllByRecursion G ys → length ys ≡ length xs → Both P ys (zipped f xs ys)
Both-right G P f k [] [] a b e = tt
Both-right G P f k [] (y ∷ ys) a b e = absurd (omega (arith, e))
Both-right G P f k (x ∷ xs) [] a b e = absurd (omega (arith, e))
Both-right G P f k (x ∷ xs) (y ∷ ys) a b e = (k x y a.0 b.0, Both-right G P f k xs ys a.1 b.1 (omega (arith, e)))

pub Both-least : {A : Type 0} (G : A → Type 0) (P : A → A → Type 0) (f : A → A → A) → ((a b u : A) → G a → G b → G u → P a u → P b u → P (f a b) u)
    → (xs ys us : List A) → AllByRecursion G xs → AllByRecursion G ys → AllByRecursion G us → Both P xs us → Both P ys us → Both P (zipped f xs ys) us
Both-least G P f k [] ys [] a b c h g = tt
Both-least G P f k (x ∷ xs) (y ∷ ys) (u ∷ us) a b c h g = (k x y u a.0 b.0 c.0 h.0 g.0, Both-least G P f k xs ys us a.1 b.1 c.1 h.1 g.1)
Both-least G P f k [] ys (u ∷ us) a b c h g = absurd h
Both-least G P f k (x ∷ xs) [] [] a b c h g = absurd h
Both-least G P f k (x ∷ xs) [] (u ∷ us) a b c h g = absurd g
Both-least G P f k (x ∷ xs) (y ∷ ys) [] a b c h g = absurd h
