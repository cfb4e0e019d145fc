-- What workers have, one after another.
use Rattle.std.proofs.Common.{◌≡◌, ◌<◌, ◌==◌, ◌⊎◌, inl, inr, ℕ, zero, suc, cond, List, [], ◌∷◌, ◌++◌, refl, sym, ap, subst, ◌∙◌, append-nil, arith}
use Rattle.std.specs.List.{AllByRecursion}
use Rattle.std.proofs.lemmas.Bool.{cases_lt, ne_eqb, cond-false, cond-true}
use Rattle.std.proofs.lemmas.Bool.Decides.{eqb_tells}
use Rattle.pact_record.proofs.Lists.{AllByRecursion-append, AllByRecursion-left, AllByRecursion-right}
use Rattle.pact_record.proofs.Permutations.{Perm, before, both_parts, chains, is_same, middle, nothing}
use Rattle.plan_trees.specs.Sending.{all_of}

-- ---- something for each worker

at_worker : {A : Type 0} (w W : ℕ) (Q : ℕ → A → Type 0) → A → ((v : ℕ) → v < W → (a : A) × Q v a) → (w < W) ⊎ (W < suc w) → A
at_worker w W Q d f (inl h) = (f w h).0
at_worker w W Q d f (inr h) = d

at_worker_so : {A : Type 0} (w W : ℕ) (Q : ℕ → A → Type 0) (d : A) (f : (v : ℕ) → v < W → (a : A) × Q v a) (c : (w < W) ⊎ (W < suc w)) → w < W → Q w (at_worker w W Q d f c)
unfolding at_worker
at_worker_so w W Q d f (inl h) g = (f w h).1
at_worker_so w W Q d f (inr h) g = absurd (omega (arith, h, g))

within : (w W : ℕ) → (w < W) ⊎ (W < suc w)
within w W = elim (cases_lt w W) as (λ _. (w < W) ⊎ (W < suc w)) [ inl h ↦ inl h | inr h ↦ inr (omega (arith, h)) ]

-- if each worker has something with a property, one function picks it for all of them
pub picked : {A : Type 0} (W : ℕ) (Q : ℕ → A → Type 0) → A → ((w : ℕ) → w < W → (a : A) × Q w a) → (g : ℕ → A) × ((w : ℕ) → w < W → Q w (g w))
picked W Q d f = (λ w. at_worker w W Q d f (within w W), λ w h. at_worker_so w W Q d f (within w W) h)

pub one_less : (v n : ℕ) → v < suc n → (v ≡ n → ⊥) → v < n
one_less v n b ne = elim (cases_lt v n) as (λ _. v < n) [ inl l ↦ l | inr g ↦ absurd (ne (omega (arith, b, g))) ]

-- ---- lists of all workers

module _ {A : Type 0} where
  pub same_each : (f g : ℕ → List A) (W : ℕ) → ((w : ℕ) → w < W → f w ≡ g w) → all_of W f ≡ all_of W g
  same_each f g zero h = refl
  same_each f g (suc n) h = λ i. h n (omega arith) i ++ same_each f g n (λ w b. h w (omega (arith, b))) i

  pub perm_each : (f g : ℕ → List A) (W : ℕ) → ((w : ℕ) → w < W → Perm (f w) (g w)) → Perm (all_of W f) (all_of W g)
  perm_each f g zero h = nothing
  perm_each f g (suc n) h = both_parts (h n (omega arith)) (perm_each f g n (λ w b. h w (omega (arith, b))))

  pub none_each : (f : ℕ → List A) (W : ℕ) → ((w : ℕ) → w < W → f w ≡ []) → all_of W f ≡ []
  none_each f zero h = refl
  none_each f (suc n) h = λ i. h n (omega arith) i ++ none_each f n (λ w b. h w (omega (arith, b))) i

  -- if only one worker has anything, all workers together have what it has
  pub only_one : (f : ℕ → List A) (W v : ℕ) → v < W → ((w : ℕ) → w < W → (w ≡ v → ⊥) → f w ≡ []) → all_of W f ≡ f v
  only_one f zero v b h = absurd (omega (arith, b))
  only_one f (suc n) v b h = elim (eqb_tells v n) as (λ _. all_of (suc n) f ≡ f v) [
    | inl e ↦ (λ i. f n ++ none_each f n (λ w c. h w (omega (arith, c)) (λ q. omega (arith, c, q, e.1))) i) ∙ append-nil (f n) ∙ ap f (sym e.1)
    | inr e ↦ (λ i. h n (omega arith) (λ q. e.1 (sym q)) i ++ only_one f n v (one_less v n b e.1) (λ w c. h w (omega (arith, c))) i)
  ]

  pub all_each : (P : A → Type 0) (f : ℕ → List A) (W : ℕ) → ((w : ℕ) → w < W → AllByRecursion P (f w)) → AllByRecursion P (all_of W f)
  all_each P f zero h = tt
  all_each P f (suc n) h = AllByRecursion-append P (f n) (all_of n f) (h n (omega arith)) (all_each P f n (λ w b. h w (omega (arith, b))))

  pub each_of_all : (P : A → Type 0) (f : ℕ → List A) (W w : ℕ) → w < W → AllByRecursion P (all_of W f) → AllByRecursion P (f w)
  each_of_all P f zero w b h = absurd (omega (arith, b))
  each_of_all P f (suc n) w b h = elim (eqb_tells w n) as (λ _. AllByRecursion P (f w)) [
    | inl e ↦ subst (λ (v : ℕ). AllByRecursion P (f v)) (sym e.1) (AllByRecursion-left P (f n) (all_of n f) h)
    | inr e ↦ each_of_all P f n w (one_less w n b e.1) (AllByRecursion-right P (f n) (all_of n f) h)
  ]

  -- ---- one more for one worker

  abbrev pub one_more : ℕ → A → (ℕ → List A) → ℕ → List A
  one_more v x f w = cond (v == w) (x ∷ f w) (f w)

  pub all_of-one_more : (v : ℕ) (x : A) (f : ℕ → List A) (W : ℕ) → v < W → Perm (x ∷ all_of W f) (all_of W (one_more v x f))
  all_of-one_more v x f zero b = absurd (omega (arith, b))
  all_of-one_more v x f (suc n) b = elim (eqb_tells v n) as (λ _. Perm (x ∷ all_of (suc n) f) (all_of (suc n) (one_more v x f))) [
    | inl e ↦ is_same (sym ((λ i. cond-true (v == n) (x ∷ f n) (f n) e.0 i ++ same_each (one_more v x f) f n (λ w c. cond-false (v == w) (x ∷ f w) (f w) (ne_eqb v w (λ q. omega (arith, c, q, e.1)))) i)))
    | inr e ↦
        chains (middle x (f n) (all_of n f))
        (chains (before (f n) (all_of-one_more v x f n (one_less v n b e.1))) (is_same (sym (λ i. cond-false (v == n) (x ∷ f n) (f n) e.0 i ++ all_of n (one_more v x f)))))
  ]
