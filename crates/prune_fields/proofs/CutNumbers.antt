-- The numbers whose edges are cut.
use Rattle.std.proofs.Common.{◌≡◌, ◌≢◌, ◌<◌, ◌≤◌, ◌+◌, ◌∙◌, ℕ, zero, suc, Bool, true, false, cond, List, [], ◌∷◌, ◌++◌, length, take, refl, ap, arith, append-nil}
use Rattle.std.specs.Prelude.{filter}
use Rattle.std.specs.List.{AllByRecursion}
use Rattle.std.proofs.lemmas.List.Elements.{filter-append}
use Rattle.pact_record.proofs.Lists.{AllByRecursion-filter}
use Rattle.plan_trees.specs.Distinct.{AreDifferent, IsAbsent}
use Rattle.plan_trees.specs.Physicals.{PhysicalData}
use Rattle.pact_operators.specs.Programs.{ProgramData, IsProgram, function_limit, is_operator_kind, operator_limit, times_of_kind}
use Rattle.prune_fields.proofs.Cuts.{absent-high}
use Rattle.prune_fields.specs.PrunedPlans.{cut_below, is_cut, numbers, room}

-- ---- consecutive numbers

numbers-low : (at count bound : ℕ) → bound ≤ at → AllByRecursion (λ k. bound ≤ k) (numbers at count)
numbers-low at zero bound h = tt
numbers-low at (suc count) bound h = (h, numbers-low (at + 1) count bound (omega (arith, h)))

numbers-high : (at count bound : ℕ) → at + count ≤ bound → AllByRecursion (λ k. k < bound) (numbers at count)
numbers-high at zero bound h = tt
numbers-high at (suc count) bound h = (omega (arith, h), numbers-high (at + 1) count bound (omega (arith, h)))

absent-low : (at : ℕ) (ks : List ℕ) → AllByRecursion (λ k. at + 1 ≤ k) ks → IsAbsent at ks
absent-low at [] h = tt
absent-low at (k ∷ ks) h = ((λ e. absurd (omega (arith, e, h.0))), absent-low at ks h.1)

numbers-different : (at count : ℕ) → AreDifferent (numbers at count)
numbers-different at zero = tt
numbers-different at (suc count) =
    (absent-low at (numbers (at + 1) count) (numbers-low (at + 1) count (at + 1) (omega arith)), numbers-different (at + 1) count)

absent_if : (b : Bool) (n k : ℕ) (ks : List ℕ) → n ≢ k → IsAbsent n ks → IsAbsent n (cond b (k ∷ ks) ks)
absent_if true n k ks h g = (h, g)
absent_if false n k ks h g = g

absent-filter : (test : ℕ → Bool) (n : ℕ) (ks : List ℕ) → IsAbsent n ks → IsAbsent n (filter test ks)
absent-filter test n [] h = tt
absent-filter test n (k ∷ ks) h = absent_if (test k) n k (filter test ks) h.0 (absent-filter test n ks h.1)

different_if : (b : Bool) (k : ℕ) (ks : List ℕ) → IsAbsent k ks → AreDifferent ks → AreDifferent (cond b (k ∷ ks) ks)
different_if true k ks h g = (h, g)
different_if false k ks h g = g

different-filter : (test : ℕ → Bool) (ks : List ℕ) → AreDifferent ks → AreDifferent (filter test ks)
different-filter test [] h = tt
different-filter test (k ∷ ks) h = different_if (test k) k (filter test ks) (absent-filter test k ks h.0) (different-filter test ks h.1)

absent-take : (size n : ℕ) (ks : List ℕ) → IsAbsent n ks → IsAbsent n (take size ks)
absent-take zero n ks h = tt
absent-take (suc size) n [] h = tt
absent-take (suc size) n (k ∷ ks) h = (h.0, absent-take size n ks h.1)

different-take : (size : ℕ) (ks : List ℕ) → AreDifferent ks → AreDifferent (take size ks)
different-take zero ks h = tt
different-take (suc size) [] h = tt
different-take (suc size) (k ∷ ks) h = (absent-take size k ks h.0, different-take size ks h.1)

each-take : (P : ℕ → Type 0) (size : ℕ) (ks : List ℕ) → AllByRecursion P ks → AllByRecursion P (take size ks)
each-take P zero ks h = tt
each-take P (suc size) [] h = tt
each-take P (suc size) (k ∷ ks) h = (h.0, each-take P size ks h.1)

passes_if : (test : ℕ → Bool) (b : Bool) (k : ℕ) (ks : List ℕ) → test k ≡ b → AllByRecursion (λ n. test n ≡ true) ks
    → AllByRecursion (λ n. test n ≡ true) (cond b (k ∷ ks) ks)
passes_if test true k ks e h = (e, h)
passes_if test false k ks e h = h

passes-filter : (test : ℕ → Bool) (ks : List ℕ) → AllByRecursion (λ n. test n ≡ true) (filter test ks)
passes-filter test [] = tt
passes-filter test (k ∷ ks) = passes_if test (test k) k (filter test ks) refl (passes-filter test ks)

numbers-last : (at count next : ℕ) → next ≡ at + count → numbers at (suc count) ≡ numbers at count ++ next ∷ []
numbers-last at zero next e = (let is : at ≡ next = omega (arith, e) in ap (λ (n : ℕ). n ∷ []) is)
numbers-last at (suc count) next e = ap (λ (l : List ℕ). at ∷ l) (numbers-last (at + 1) count next (omega (arith, e)))

-- ---- the first elements of a list

take-none : {X : Type 0} (size : ℕ) → take {A = X} size [] ≡ []
take-none zero = refl
take-none (suc size) = refl

take-short : (size : ℕ) (ks : List ℕ) → length (take size ks) ≤ size
take-short zero ks = omega arith
take-short (suc size) [] = omega arith
take-short (suc size) (k ∷ ks) = omega (arith, take-short size ks)

-- one more element, if there is room for it
take-more : (size : ℕ) (ks : List ℕ) (n : ℕ) → length (take size ks) < size → take size (ks ++ n ∷ []) ≡ take size ks ++ n ∷ []
take-more zero ks n h = absurd (omega (arith, h))
take-more (suc size) [] n h = ap (λ (l : List ℕ). n ∷ l) (take-none size)
take-more (suc size) (k ∷ ks) n h = ap (λ (l : List ℕ). k ∷ l) (take-more size ks n (omega (arith, h)))

take-full : (size : ℕ) (ks : List ℕ) (n : ℕ) → size ≤ length (take size ks) → take size (ks ++ n ∷ []) ≡ take size ks
take-full zero ks n h = refl
take-full (suc size) [] n h = absurd (omega (arith, h))
take-full (suc size) (k ∷ ks) n h = ap (λ (l : List ℕ). k ∷ l) (take-full size ks n (omega (arith, h)))

-- ---- the numbers whose edges are cut, one at a time

module _ (p : ProgramData) (x : PhysicalData) where
  all_next : (at : ℕ) → filter (is_cut p x) (numbers 0 (at + 1)) ≡ filter (is_cut p x) (numbers 0 at) ++ cond (is_cut p x at) (at ∷ []) []
  all_next at =
      let more : at + 1 ≡ suc at = omega arith in
      ap (filter (is_cut p x)) (ap (numbers 0) more ∙ numbers-last 0 at at (omega arith)) ∙ filter-append (is_cut p x) (numbers 0 at) (at ∷ [])

  abbrev all : ℕ → List ℕ
  all at = filter (is_cut p x) (numbers 0 at)

  pub cut_not : (at : ℕ) → is_cut p x at ≡ false → cut_below p x (at + 1) ≡ cut_below p x at
  cut_not at e = ap (take (room p)) (all_next at ∙ ap (λ (b : Bool). all at ++ cond b (at ∷ []) []) e ∙ append-nil (all at))

  pub cut_so : (at : ℕ) → is_cut p x at ≡ true → length (cut_below p x at) < room p → cut_below p x (at + 1) ≡ cut_below p x at ++ at ∷ []
  cut_so at e h = ap (take (room p)) (all_next at ∙ ap (λ (b : Bool). all at ++ cond b (at ∷ []) []) e) ∙ take-more (room p) (all at) at h

  pub cut_full : (at : ℕ) → is_cut p x at ≡ true → room p ≤ length (cut_below p x at) → cut_below p x (at + 1) ≡ cut_below p x at
  cut_full at e h = ap (take (room p)) (all_next at ∙ ap (λ (b : Bool). all at ++ cond b (at ∷ []) []) e) ∙ take-full (room p) (all at) at h

  pub cut_none : cut_below p x 0 ≡ []
  cut_none = take-none (room p)

  -- ---- their properties

  pub cut_different : (at : ℕ) → AreDifferent (cut_below p x at)
  cut_different at = different-take (room p) (all at) (different-filter (is_cut p x) (numbers 0 at) (numbers-different 0 at))

  pub cut_small : (at : ℕ) → AllByRecursion (λ k. k < at) (cut_below p x at)
  cut_small at =
      each-take (λ k. k < at) (room p) (all at) (AllByRecursion-filter (λ k. k < at) (is_cut p x) (numbers 0 at) (numbers-high 0 at at (omega arith)))

  pub cut_passed : (at : ℕ) → AllByRecursion (λ n. is_cut p x n ≡ true) (cut_below p x at)
  cut_passed at = each-take (λ n. is_cut p x n ≡ true) (room p) (all at) (passes-filter (is_cut p x) (numbers 0 at))

  -- the next number isn't among them
  pub cut_absent : (at : ℕ) → IsAbsent at (cut_below p x at)
  cut_absent at = absent-high at (cut_below p x at) (cut_small at)

  -- ---- room

  pub has_operator_room : IsProgram p → (at : ℕ) → times_of_kind is_operator_kind p.ops + length (cut_below p x at) ≤ operator_limit
  has_operator_room program at = let short = take-short (room p) (all at) in let few = program.few_operators in omega (arith, short, few)

  pub has_function_room : IsProgram p → (at : ℕ) → length p.functions + length (cut_below p x at) ≤ function_limit
  has_function_room program at = let short = take-short (room p) (all at) in let few = program.few_functions in omega (arith, short, few)

  pub is_room : (count : ℕ) → times_of_kind is_operator_kind p.ops + count < operator_limit → length p.functions + count < function_limit
      → count < room p
  is_room count h g = omega (arith, h, g)

  pub no_operator_room : (count : ℕ) → operator_limit ≤ times_of_kind is_operator_kind p.ops + count → room p ≤ count
  no_operator_room count h = omega (arith, h)

  pub no_function_room : (count : ℕ) → function_limit ≤ length p.functions + count → room p ≤ count
  no_function_room count h = omega (arith, h)
