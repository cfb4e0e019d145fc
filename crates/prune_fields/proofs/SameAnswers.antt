-- A program's plan, and the same plan with Maps that keep the needed fields, allow the same records, cut to the sink's
-- fields, with the same counts.
use Rattle.std.proofs.Common.{◌≡◌, ◌∙◌, ◌<◌, ◌≤◌, ◌==◌, ◌||◌, ◌++◌, inl, inr, ℕ, zero, suc, true, Some, List, [], ◌∷◌, length, map, get_or, slice_get, take, replicate, refl, sym, ap, subst, arith}
use Rattle.std.specs.List.{AllByRecursion}
use Rattle.std.proofs.lemmas.Bool.{eq-eqb, or_left, or_right, eqb-true, false_from_ne_true, or_cases, true≢false}
use Rattle.std.proofs.lemmas.List.{length-append, length-replicate, length-take-le}
use Rattle.std.proofs.lemmas.Option.{get_or_from_slice_get, slice_get_within}
use Rattle.pact_bag.specs.Rows.{cut}
use Rattle.pact_record.specs.Keys.{is_listed}
use Rattle.pact_record.specs.Widths.{AreBelow}
use Rattle.tac_syntax.specs.Contexts.{FieldSet, Has, IsBelow}
use Rattle.plan_trees.specs.Plans.{PlanTree, leaf, over, both, has, nodes, root_of}
use Rattle.pact_record.proofs.Lists.{AllByRecursion-append}
use Rattle.pact_operators.specs.declared.operators.Op.{Op}
use Rattle.pact_operators.specs.Allowed.{Bag, Evaluates, count_of}
use Rattle.pact_operators.specs.Inputs.{AreInputsOf}
use Rattle.pact_operators.specs.PlanOps.{PlanOps, plan_ops}
use Rattle.pact_operators.specs.Programs.{HasArity, IsPlanOf, IsProgram, ProgramData}
use Rattle.pact_operators.proofs.PermutedEvaluations.{evaluates_told}
use Rattle.pact_operators.proofs.WithinFields.{same_key_of}
use Rattle.prune_fields.specs.Insertions.{cuts_from, grown, with_keeps}
use Rattle.prune_fields.specs.Needs.{need}
use Rattle.prune_fields.specs.SameAnswers.{GiveSame}
use Rattle.prune_fields.proofs.Cuts.{cut_place}
use Rattle.prune_fields.proofs.KeptPlans.{are_kept}
use Rattle.prune_fields.proofs.NeedsByEdge.{are_needs, needs_root}
use Rattle.prune_fields.proofs.MoreOps.{slice_get-behind, slice_get-front, slice_get-map}
use Rattle.prune_fields.proofs.TwinPlans.{Alike, AreKept, leads_down, leads_up}

-- ---- the fields that the sink keeps

listed_all : (s : FieldSet) (keys : List ℕ) → ((k : ℕ) → is_listed keys k ≡ true → s k ≡ true) → AllByRecursion (Has s) keys
listed_all s [] f = tt
listed_all s (k ∷ keys) f =
    (f k (or_left (k == k) (is_listed keys k) (eq-eqb k k refl)), listed_all s keys (λ j m. f j (or_right (j == k) (is_listed keys j) m)))

cut_same : (sink : List ℕ) (xs ys : Bag) → Alike (is_listed sink) xs ys → map (cut sink) xs ≡ map (cut sink) ys
cut_same sink [] [] h = refl
cut_same sink [] (y ∷ ys) h = absurd h
cut_same sink (x ∷ xs) [] h = absurd h
cut_same sink (x ∷ xs) (y ∷ ys) h =
    λ i. same_key_of (is_listed sink) sink x y (listed_all (is_listed sink) sink (λ k m. m)) h.0 i ∷ cut_same sink xs ys h.1 i

listed_is : (bound : ℕ) (keys : List ℕ) → AreBelow bound keys → (k : ℕ) → bound ≤ k → is_listed keys k ≡ true → ⊥
listed_is bound [] h k past e = true≢false (sym e)
listed_is bound (j ∷ keys) h k past e = elim (or_cases (k == j) (is_listed keys k) e) as (λ _. ⊥) [
  | inl t ↦ let same : k ≡ j = eqb-true k j t in absurd (omega (arith, same, past, h.0))
  | inr m ↦ listed_is bound keys h.1 k past m
]

listed_below : (bound : ℕ) (keys : List ℕ) → AreBelow bound keys → IsBelow bound (is_listed keys)
listed_below bound keys h k past = false_from_ne_true (is_listed keys k) (λ e. listed_is bound keys h k past e)

-- ---- counts

-- the counts of the numbers below `size`; a missing count is 0
abbrev filled : ℕ → List ℕ → List ℕ
filled size counts = take size (counts ++ replicate size 0)

slice_get-taken : {X : Type 0} (xs : List X) (size n : ℕ) → n < size → slice_get (take size xs) n ≡ slice_get xs n
slice_get-taken xs zero n h = absurd (omega (arith, h))
slice_get-taken [] (suc size) n h = refl
slice_get-taken (x ∷ xs) (suc size) zero h = refl
slice_get-taken (x ∷ xs) (suc size) (suc n) h = slice_get-taken xs size n (omega (arith, h))

filled-long : (size : ℕ) (counts : List ℕ) → length (filled size counts) ≡ size
filled-long size counts =
    length-take-le size (counts ++ replicate size 0) (omega (arith, length-append counts (replicate size 0), length-replicate {A = ℕ} size 0))

abbrev more_counts : ℕ → List ℕ → List ℕ → List ℕ
more_counts size ns counts = filled size counts ++ map (λ n. get_or counts n 0) ns

old_count : (size : ℕ) (ns counts : List ℕ) (n c : ℕ) → n < size → slice_get counts n ≡ Some c
    → slice_get (more_counts size ns counts) n ≡ slice_get counts n
old_count size ns counts n c lt e =
    slice_get-front (filled size counts) (map (λ m. get_or counts m 0) ns) n (omega (arith, lt, filled-long size counts))
    ∙ slice_get-taken (counts ++ replicate size 0) size n lt
    ∙ slice_get-front counts (replicate size 0) n (slice_get_within counts n c e)

new_count : (size : ℕ) (ns counts : List ℕ) (n m c : ℕ) → cuts_from size ns n ≡ Some m → slice_get counts n ≡ Some c
    → slice_get (more_counts size ns counts) m ≡ Some c
new_count size ns counts n m c e told =
    let r = cut_place size ns n m e in
    slice_get-behind (filled size counts) (map (λ k. get_or counts k 0) ns) r.0 m (omega (arith, r.1, filled-long size counts))
    ∙ slice_get-map (λ k. get_or counts k 0) ns r.0 n r.2
    ∙ ap Some (get_or_from_slice_get counts n c 0 told)

-- the count of each node
told_at : (Told : ℕ → ℕ → Type 0) (o : PlanOps) (t : PlanTree) (bag : Bag) (n : ℕ) → has n t ≡ true → Evaluates Told o t bag → (k : ℕ) × Told n k
told_at Told o (leaf m) bag n there h = (length bag, subst (λ (j : ℕ). Told j (length bag)) (sym (eqb-true n m there)) h.1)
told_at Told o (over m t) bag n there h = elim (or_cases (n == m) (has n t) there) as (λ _. (k : ℕ) × Told n k) [
  | inl e ↦ (length bag, subst (λ (j : ℕ). Told j (length bag)) (sym (eqb-true n m e)) h.1)
  | inr e ↦ told_at Told o t h.0.rows n e h.0.below
]
told_at Told o (both m t u) bag n there h = elim (or_cases (n == m) (has n t || has n u) there) as (λ _. (k : ℕ) × Told n k) [
  | inl e ↦ (length bag, subst (λ (j : ℕ). Told j (length bag)) (sym (eqb-true n m e)) h.1)
  | inr e ↦ elim (or_cases (has n t) (has n u) e) as (λ _. (k : ℕ) × Told n k) [
    | inl l ↦ told_at Told o t h.0.left_rows n l h.0.left_below
    | inr r ↦ told_at Told o u h.0.right_rows n r h.0.right_below
  ]
]

-- every number of a tree is an operator's or source's
small_nodes : (ops : List Op) (t : PlanTree) → HasArity ops t → AllByRecursion (λ n. n < length ops) (nodes t)
small_nodes ops (leaf n) a = (slice_get_within ops n a.0 a.1, tt)
small_nodes ops (over n t) a = (slice_get_within ops n a.0.0 a.0.1, small_nodes ops t a.1)
small_nodes ops (both n t u) a = (
  slice_get_within ops n a.0.0 a.0.1,
  AllByRecursion-append (λ n. n < length ops) (nodes t) (nodes u) (small_nodes ops t a.1) (small_nodes ops u a.2),
)

told_small : (size : ℕ) (Told : ℕ → ℕ → Type 0) (ns : List ℕ) → AllByRecursion (λ n. n < size) ns
    → AllByRecursion (λ n. (k : ℕ) → Told n k → (n < size) × Told n k) ns
told_small size Told [] h = tt
told_small size Told (n ∷ ns) h = ((λ k t. (h.0, t)), told_small size Told ns h.1)

-- ---- the theorem

-- For the plan of any tree of the program, and Maps on the edges of any of its numbers.
module _ (p : ProgramData) (program : IsProgram p) (inputs : List Bag) (of_inputs : AreInputsOf p inputs) (tree : PlanTree)
    (plan : IsPlanOf p.functions p.ops tree) (ns : List ℕ)
    (more : IsProgram (with_keeps p tree (need p tree) ns)) where
  abbrev Q : ProgramData
  Q = with_keeps p tree (need p tree) ns

  abbrev Needs : ℕ → FieldSet
  Needs = need p tree

  root_need : Needs (root_of tree) ≡ is_listed p.sink
  root_need = needs_root p (is_listed p.sink) tree

  kept : AreKept p.fields (plan_ops p inputs) (plan_ops Q inputs) (cuts_from (length p.ops) ns) Needs tree
  kept =
      are_kept p program inputs of_inputs tree Needs ns more tree plan.arity plan.apart
      (are_needs p Needs tree (is_listed p.sink) plan.different (λ at there. refl))
      (subst (IsBelow p.fields) (sym root_need) (listed_below p.fields p.sink program.sink.below))

  pub gives_same_answers : GiveSame p.sink (plan_ops p inputs) tree (plan_ops Q inputs) (grown (cuts_from (length p.ops) ns) tree)
  gives_same_answers = record {
    there = λ bag counts h.
        let size = length p.ops in
        let Told = λ (n k : ℕ). slice_get counts n ≡ Some (count_of k) in
        let Small = λ (n k : ℕ). (n < size) × (slice_get counts n ≡ Some (count_of k)) in
        let Then = λ (n k : ℕ). slice_get (more_counts size ns counts) n ≡ Some (count_of k) in
        let small =
        evaluates_told Told Small (plan_ops p inputs) tree bag (told_small size Told (nodes tree) (small_nodes p.ops tree plan.arity)) h in
        let r = leads_up p.fields (plan_ops p inputs) (plan_ops Q inputs) (cuts_from size ns) Needs Small Then
        (λ n k t. old_count size ns counts n (count_of k) t.0 t.1 ∙ t.1)
        (λ n m k e t. new_count size ns counts n m (count_of k) e t.1) tree kept bag small in
        record {
          now = r.0;
          more = more_counts size ns counts;
          counted = r.1;
          rows = sym (cut_same p.sink bag r.0 (subst (λ (s : FieldSet). Alike s bag r.0) root_need r.2));
          same_counts =
              λ n there. let t = told_at Small (plan_ops p inputs) tree bag n there small in old_count size ns counts n (count_of t.0) t.1.0 t.1.1;
        };
    back = λ bag counts h.
        let r =
        leads_down p.fields (plan_ops p inputs) (plan_ops Q inputs) (cuts_from (length p.ops) ns) Needs
        (λ n k. slice_get counts n ≡ Some (count_of k)) tree kept bag h in
        record { now = r.0; counted = r.1; rows = sym (cut_same p.sink bag r.0 (subst (λ (s : FieldSet). Alike s bag r.0) root_need r.2)) };
    allowed_there = λ bag h.
        let r = leads_up p.fields (plan_ops p inputs) (plan_ops Q inputs) (cuts_from (length p.ops) ns) Needs (λ n k. Unit {0}) (λ n k. Unit {0}) (λ n k t. tt) (λ n m k e t. tt) tree kept bag h in
        record { now = r.0; allowed = r.1; rows = sym (cut_same p.sink bag r.0 (subst (λ (s : FieldSet). Alike s bag r.0) root_need r.2)) };
    allowed_back = λ bag h.
        let r = leads_down p.fields (plan_ops p inputs) (plan_ops Q inputs) (cuts_from (length p.ops) ns) Needs (λ n k. Unit {0}) tree kept bag h in
        record { now = r.0; allowed = r.1; rows = sym (cut_same p.sink bag r.0 (subst (λ (s : FieldSet). Alike s bag r.0) root_need r.2)) };
  }
