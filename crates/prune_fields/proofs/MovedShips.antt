-- The ships of the edges with Maps on them.
use Rattle.std.proofs.Common.{◌≡◌, ◌≢◌, ◌∙◌, ◌<◌, ◌≤◌, ◌+◌, ◌==◌, inl, inr, ℕ, false, Some, None, List, [], ◌∷◌, length, get_or, set, refl, sym, subst, arith}
use Rattle.std.specs.List.{AllByRecursion}
use Rattle.std.proofs.lemmas.Bool.{cases_Bool, eqb-false, eqb-true}
use Rattle.pact_record.proofs.Lists.{AllByRecursion-weaker}
use Rattle.std.proofs.lemmas.List.{get_or-set_other, get_or-set_same, length-set}
use Rattle.plan_trees.specs.declared.physicals.Ship.{Ship}
use Rattle.plan_trees.specs.declared.physicals.Ship.TheVariants.{Forward}
use Rattle.plan_trees.specs.Distinct.{AreDifferent}
use Rattle.prune_fields.specs.Insertions.{Cuts, cuts_from, moved_from}
use Rattle.prune_fields.proofs.Cuts.{absent-high, cuts_free, each_cut, none_is}

-- the ships of the numbers below `size`, and of the Maps that are inserted on some of their edges
pub record AreMoved (cut : Cuts) (size : ℕ) (ships now : List Ship) : Type 0 where
  pub stays : (n : ℕ) → n < size → cut n ≡ None → get_or now n Forward ≡ get_or ships n Forward
  pub fed : (n m : ℕ) → cut n ≡ Some m → get_or now n Forward ≡ Forward
  pub on : (n m : ℕ) → cut n ≡ Some m → get_or now m Forward ≡ get_or ships n Forward

-- ---- ships

other_number : (k n m : ℕ) (ks : List ℕ) → cuts_from m (k ∷ ks) n ≡ None → (n == k) ≡ false
other_number k n m ks e = elim (cases_Bool (n == k)) as (λ _. (n == k) ≡ false) [
  | inl t ↦ let bad : Some m ≡ None = simp t at e in absurd (none_is m (sym bad))
  | inr f ↦ f
]

-- the ships after one number
abbrev moved_one : ℕ → ℕ → List Ship → List Ship
moved_one m n ships = set (set ships m (get_or ships n Forward)) n Forward

one-long : (m n : ℕ) (ships : List Ship) → length (moved_one m n ships) ≡ length ships
one-long m n ships = length-set (set ships m (get_or ships n Forward)) n Forward ∙ length-set ships m (get_or ships n Forward)

one-other : (m n j : ℕ) (ships : List Ship) → j ≢ n → j ≢ m → get_or (moved_one m n ships) j Forward ≡ get_or ships j Forward
one-other m n j ships a b =
    get_or-set_other (set ships m (get_or ships n Forward)) n j Forward Forward a ∙ get_or-set_other ships m j (get_or ships n Forward) Forward b

one-fed : (m n : ℕ) (ships : List Ship) → n < length ships → get_or (moved_one m n ships) n Forward ≡ Forward
one-fed m n ships lt =
    get_or-set_same (set ships m (get_or ships n Forward)) n Forward Forward (omega (arith, lt, length-set ships m (get_or ships n Forward)))

one-on : (m n : ℕ) (ships : List Ship) → n < m → m < length ships → get_or (moved_one m n ships) m Forward ≡ get_or ships n Forward
one-on m n ships lt long =
    get_or-set_other (set ships m (get_or ships n Forward)) n m Forward Forward (λ (e : m ≡ n). absurd (omega (arith, e, lt)))
    ∙ get_or-set_same ships m (get_or ships n Forward) Forward long

stays : (m n : ℕ) (ns : List ℕ) (ships : List Ship) → n < m → cuts_from m ns n ≡ None
    → get_or (moved_from m ns ships) n Forward ≡ get_or ships n Forward
stays m n [] ships lt e = refl
stays m n (k ∷ ks) ships lt e =
    let f = other_number k n m ks e in
    stays (m + 1) n ks (moved_one m k ships) (omega (arith, lt)) (simp f at e)
    ∙ one-other m k n ships (eqb-false n k f) (λ (s : n ≡ m). absurd (omega (arith, s, lt)))

-- the numbers are below the first new one, and there is room for the new ones
pub record HaveRoom (m : ℕ) (ns : List ℕ) (ships : List Ship) : Type 0 where
  pub below : AllByRecursion (λ k. k < m) ns
  pub different : AreDifferent ns
  pub room : m + length ns ≤ length ships

room_next : (m k : ℕ) (ks : List ℕ) (ships : List Ship) → HaveRoom m (k ∷ ks) ships → HaveRoom (m + 1) ks (moved_one m k ships)
room_next m k ks ships h =
    record {
      below = AllByRecursion-weaker (λ k. k < m) (λ k. k < m + 1) ks (λ k lt. omega (arith, lt)) h.below.1;
      different = h.different.1;
      room = omega (arith, h.room, one-long m k ships);
    }

fed : (m n j : ℕ) (ns : List ℕ) (ships : List Ship) → HaveRoom m ns ships → cuts_from m ns n ≡ Some j
    → get_or (moved_from m ns ships) n Forward ≡ Forward
fed m n j [] ships h e = absurd (none_is j e)
fed m n j (k ∷ ks) ships h e = elim (cases_Bool (n == k)) as (λ _. get_or (moved_from m (k ∷ ks) ships) n Forward ≡ Forward) [
  | inl t ↦
      let same : k ≡ n = sym (eqb-true n k t) in
      subst (λ (i : ℕ). get_or (moved_from (m + 1) ks (moved_one m k ships)) i Forward ≡ Forward) same
      (stays (m + 1) k ks (moved_one m k ships) (omega (arith, h.below.0)) (cuts_free (m + 1) ks k h.different.0) ∙ one-fed m k ships
      (omega (arith, h.below.0, h.room)))
  | inr f ↦ fed (m + 1) n j ks (moved_one m k ships) (room_next m k ks ships h) (simp f at e)
]

on : (m n j : ℕ) (ns : List ℕ) (ships : List Ship) → HaveRoom m ns ships → cuts_from m ns n ≡ Some j
    → get_or (moved_from m ns ships) j Forward ≡ get_or ships n Forward
on m n j [] ships h e = absurd (none_is j e)
on m n j (k ∷ ks) ships h e = elim (cases_Bool (n == k)) as (λ _. get_or (moved_from m (k ∷ ks) ships) j Forward ≡ get_or ships n Forward) [
  | inl t ↦
      let here : Some m ≡ Some j = simp t at e in
      let place : m ≡ j = cc in
      let same : k ≡ n = sym (eqb-true n k t) in
      let at : get_or (moved_from (m + 1) ks (moved_one m k ships)) m Forward ≡ get_or ships k Forward =
      stays (m + 1) m ks (moved_one m k ships) (omega arith) (cuts_free (m + 1) ks m (absent-high m ks h.below.1))
      ∙ one-on m k ships h.below.0 (omega (arith, h.room)) in
      subst (λ (i : ℕ). get_or (moved_from (m + 1) ks (moved_one m k ships)) i Forward ≡ get_or ships n Forward) place
      (subst (λ (i : ℕ). get_or (moved_from (m + 1) ks (moved_one m k ships)) m Forward ≡ get_or ships i Forward) same at)
  | inr f ↦
      let rest = simp f at e in
      let lt = each_cut (λ i. i < m) (m + 1) n j ks h.below.1 rest in
      on (m + 1) n j ks (moved_one m k ships) (room_next m k ks ships h) rest
      ∙ one-other m k n ships (eqb-false n k f) (λ (s : n ≡ m). absurd (omega (arith, s, lt)))
]

pub are_moved : (m : ℕ) (ns : List ℕ) (ships : List Ship) → HaveRoom m ns ships → AreMoved (cuts_from m ns) m ships (moved_from m ns ships)
are_moved m ns ships h =
    record { stays = λ n lt e. stays m n ns ships lt e; fed = λ n j e. fed m n j ns ships h e; on = λ n j e. on m n j ns ships h e }
