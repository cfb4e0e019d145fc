-- What a table says of a name: whether it was added, and whether more than once.
use Rattle.std.proofs.Common.{◌≡◌, ◌+◌, ◌++◌, ◌∷◌, [], inl, inr, ℕ, zero, suc, Bool, false, List, Some, Bor, is_some, bytes_eq, refl, sym, ap, subst, ◌∙◌, arith}
use Rattle.std.proofs.lemmas.Bool.{cases_Bool, cond-false, cond-true}
use Rattle.std.proofs.lemmas.Map.Text.{hash_map_updates_str}
use Rattle.std.specs.Cmp.Lexicographic.{bytes_decides, nat_list_eq_equiv}
use Rattle.indexmap.specs.IndexMap.{IndexMap, UpdatesBy, get_by}
use Rattle.program_check.specs.NameTables.{IsTableOf, mark_of}
use Rattle.pact_operators.specs.Resolved.{is_among, times_among}
use Rattle.program_check.proofs.NamedInputs.{same_name, times-append, times_here, times_later}

once_more : (n : ℕ) → mark_of (n + 1) ≡ Some (is_some (mark_of n))
once_more zero = refl
once_more (suc zero) = refl
once_more (suc (suc n)) = let e : suc (suc n) + 1 ≡ suc (suc (suc n)) = omega arith in ap mark_of e

-- ---- one more name

times-same : (name : List ℕ) (names : List (List ℕ)) → times_among name (names ++ name ∷ []) ≡ times_among name names + 1
times-same name names =
    let one = times_here name name [] (same_name name) in
    let all = times-append name names (name ∷ []) in
    omega (arith, one, all)

times-other : (q name : List ℕ) (names : List (List ℕ)) → bytes_eq q name ≡ false → times_among q (names ++ name ∷ []) ≡ times_among q names
times-other q name names other =
    let none = times_later q name [] other in
    let all = times-append q names (name ∷ []) in
    omega (arith, none, all)

-- The name occurs once more among the names, and is marked accordingly. The marks of the others stay.
pub added : {S : Type 0} (old new : IndexMap (Bor (List ℕ)) Bool S) (name : List ℕ) (b : Bool) → UpdatesBy (λ x y. bytes_eq x.now y.now) (λ k. bytes_eq name k.now) old new (Some b)
    → b ≡ is_some (get_by (λ k. bytes_eq name k.now) old) → (names : List (List ℕ)) → IsTableOf names old → IsTableOf (names ++ name ∷ []) new
added {S} old new name b updates is names h q =
    let of_old = λ (x : List ℕ). get_by (λ k. bytes_eq x k.now) old in
    let put = hash_map_updates_str name old new (Some b) updates in
    elim (cases_Bool (bytes_eq name q)) as (λ _. get_by (λ k. bytes_eq q k.now) new ≡ mark_of (times_among q (names ++ name ∷ []))) [
      | inl same ↦ (
          let here : get_by (λ k. bytes_eq name k.now) new ≡ mark_of (times_among name (names ++ name ∷ [])) =
          put name ∙ cond-true (bytes_eq name name) (Some b) (of_old name) (same_name name) ∙ ap Some (is ∙ ap is_some (h name)) ∙ sym (once_more (times_among name names)) ∙ ap mark_of (sym (times-same name names)) in
          subst (λ (x : List ℕ). get_by (λ k. bytes_eq x k.now) new ≡ mark_of (times_among x (names ++ name ∷ []))) ((bytes_decides name q).0 same) here
          )
      | inr other ↦ put q ∙ cond-false (bytes_eq name q) (Some b) (of_old q) other ∙ h q ∙ ap mark_of (sym (times-other q name names (nat_list_eq_equiv.symm q name ∙ other)))
    ]

-- ---- what a mark says

marked-among : (name : List ℕ) (names : List (List ℕ)) → is_some (mark_of (times_among name names)) ≡ is_among name names
marked-among name [] = refl
marked-among name (n ∷ names) = elim (cases_Bool (bytes_eq name n)) as (λ _. is_some (mark_of (times_among name (n ∷ names))) ≡ is_among name (n ∷ names)) [
  | inl e ↦ rw e (ap is_some (once_more (times_among name names)))
  | inr e ↦ rw e (marked-among name names)
]

pub table-among : {S : Type 0} (table : IndexMap (Bor (List ℕ)) Bool S) (name : List ℕ) (names : List (List ℕ)) → IsTableOf names table
    → is_some (get_by (λ k. bytes_eq name k.now) table) ≡ is_among name names
table-among table name names h = ap is_some (h name) ∙ marked-among name names
