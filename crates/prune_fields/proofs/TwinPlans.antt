-- A plan, and the same plan with Maps on some edges that keep the fields needed above them. For each bag that one plan
-- allows, the other allows one whose records agree with it, place by place, on the fields needed of the root, with the
-- same counts.
use Rattle.std.proofs.Common.{◌≡◌, ◌∙◌, ℕ, Option, Some, None, List, [], ◌∷◌, ◌++◌, length, refl, sym, subst}
use Rattle.std.specs.Prelude.{flat_map}
use Rattle.std.specs.List.{AllByRecursion, AllZip}
use Rattle.std.specs.List.Sorted.{IsPermutation}
use Rattle.std.proofs.lemmas.List.Sorted.{IsPermutation-refl}
use Rattle.pact_record.specs.declared.values.Value.{Value}
use Rattle.pact_record.specs.Record.{Agree}
use Rattle.pact_record.specs.Widths.{AreWide}
use Rattle.pact_record.proofs.Permutations.{from_permutation, to_permutation}
use Rattle.pact_record.proofs.SideBySide.{AllZip-permuted}
use Rattle.tac_syntax.specs.declared.declarations.OpKind.{OpKind}
use Rattle.tac_syntax.specs.declared.declarations.OpKind.TheVariants.{Map}
use Rattle.tac_syntax.specs.Contexts.{FieldSet, Has}
use Rattle.tac_syntax.specs.Forms.{AreApart, IsWithin}
use Rattle.plan_trees.specs.Plans.{PlanTree, leaf, over, both, root_of}
use Rattle.pact_operators.specs.Allowed.{Allows, Bag, Evaluates, Gives}
use Rattle.pact_operators.specs.PlanOps.{PlanOps}
use Rattle.pact_operators.specs.SoundOps.{function_kind}
use Rattle.pact_operators.proofs.PermutedEvaluations.{evaluates_allowed, evaluates_permuted}
use Rattle.pact_operators.proofs.WithinFields.{agree_self}
use Rattle.tac_flow.specs.Known.{no_fields}
use Rattle.prune_fields.specs.Insertions.{Cuts, capped, grown}
use Rattle.prune_fields.specs.Needs.{within}
use Rattle.prune_fields.proofs.BesideLists.{AllZip-chain, AllZip-length}
use Rattle.prune_fields.proofs.SameOperators.{DoSame, gives_both_same, gives_same, same_turned}
use Rattle.prune_fields.proofs.TwinBags.{AreTwins, HasTwinCalls, all_twins, gives_both_twins, gives_twins}

-- bags that agree
abbrev pub Alike : FieldSet → Bag → Bag → Type 0
Alike s xs ys = AllZip (Agree s) xs ys

pub alike_chain : (s : FieldSet) (xs ys zs : Bag) → Alike s xs ys → Alike s ys zs → Alike s xs zs
alike_chain s xs ys zs h g = AllZip-chain (Agree s) (Agree s) (Agree s) xs ys zs (λ x y z e f k m. e k m ∙ f k m) h g

pub alike_turned : (s : FieldSet) (xs ys : Bag) → Alike s xs ys → Alike s ys xs
alike_turned s [] [] h = tt
alike_turned s [] (y ∷ ys) h = absurd h
alike_turned s (x ∷ xs) [] h = absurd h
alike_turned s (x ∷ xs) (y ∷ ys) h = ((λ k m. sym (h.0 k m)), alike_turned s xs ys h.1)

-- if a bag is permuted, a bag that agrees with it can be permuted to agree with the result
permuted_alike : (s : FieldSet) (xs zs ys : Bag) → IsPermutation xs zs → Alike s xs ys → (ws : Bag) × IsPermutation ys ws × Alike s zs ws
permuted_alike s xs zs ys p h = let q = AllZip-permuted (Agree s) (from_permutation xs zs p) ys h in (q.0, to_permutation q.1, q.2)

-- both bags have the same number of records
alike_told : (s : FieldSet) (P : ℕ → Type 0) (xs ys : Bag) → Alike s xs ys → P (length xs) → P (length ys)
alike_told s P xs ys h t = subst P (AllZip-length (Agree s) xs ys h) t

-- ---- the operator on an edge

-- A Map that emits one record for each, which agrees with it on a set.
pub record IsCut (fields : ℕ) (o : PlanOps) (need : FieldSet) (m : ℕ) : Type 0 where
  pub kind : o.kind m ≡ Map
  pub gives : (row : List Value) → length row ≡ fields → (out : List Value) × (o.of_record m row ≡ out ∷ []) × Agree need row out

cut_bag : (fields : ℕ) (o : PlanOps) (need : FieldSet) (m : ℕ) → IsCut fields o need m → (rows : Bag) → AreWide fields rows
    → Alike need rows (flat_map (o.of_record m) rows)
cut_bag fields o need m c [] h = tt
cut_bag fields o need m c (row ∷ rows) h =
    let g = c.gives row h.0 in
    subst (λ (l : Bag). Alike need (row ∷ rows) (l ++ flat_map (o.of_record m) rows)) (sym g.1) (g.2, cut_bag fields o need m c rows h.1)

-- ---- plans

-- `o` has the operators of the plan, and `p` those of the plan with more Maps.
module _ (fields : ℕ) (o p : PlanOps) (cut : Cuts) (needs : ℕ → FieldSet) where
  -- the edge that leaves a tree's root
  abbrev pub onto : PlanTree → PlanTree
  onto t = capped (cut (root_of t)) (grown cut t)

  -- The operator needs this set of its inputs, and this input has values only in its own fields.
  pub record IsEdge (want own : FieldSet) (t : PlanTree) : Type 0 where
    pub needed : needs (root_of t) ≡ within want own
    pub fits : (bag : Bag) → Allows o t bag → AllByRecursion (IsWithin fields (Has own)) bag
    pub grown_fits : (bag : Bag) → Allows p (onto t) bag → AllByRecursion (IsWithin fields (Has own)) bag
    pub grown_wide : (bag : Bag) → Allows p (grown cut t) bag → AreWide fields bag
    pub cuts : (m : ℕ) → cut (root_of t) ≡ Some m → IsCut fields p (needs (root_of t)) m

  pub record IsOverOne (n : ℕ) (t : PlanTree) : Type 0 where
    pub want : FieldSet
    pub own : FieldSet
    pub same : DoSame o p n
    pub keys : AllByRecursion (Has want) (o.left_keys n)
    pub apart : AreApart (Has own) (Has no_fields)
    pub calls : HasTwinCalls o fields n own no_fields want (needs n) apart (function_kind (o.kind n))
    pub edge : IsEdge want own t

  pub record IsOverTwo (n : ℕ) (t u : PlanTree) : Type 0 where
    pub want : FieldSet
    pub left : FieldSet
    pub right : FieldSet
    pub same : DoSame o p n
    pub left_keys : AllByRecursion (Has want) (o.left_keys n)
    pub right_keys : AllByRecursion (Has want) (o.right_keys n)
    pub apart : AreApart (Has left) (Has right)
    pub calls : HasTwinCalls o fields n left right want (needs n) apart (function_kind (o.kind n))
    pub left_edge : IsEdge want left t
    pub right_edge : IsEdge want right u

  abbrev pub AreKept : PlanTree → Type 0
  AreKept (leaf n) = (o.kind n ≡ p.kind n) × (o.rows n ≡ p.rows n)
  AreKept (over n t) = IsOverOne n t × AreKept t
  AreKept (both n t u) = IsOverTwo n t u × AreKept t × AreKept u

  -- ---- from the plan with more Maps to the plan

  module _ (Told : ℕ → ℕ → Type 0) where
    abbrev LeadsDown : PlanTree → PlanTree → Type 0
    LeadsDown t s = (bag : Bag) → Evaluates Told p s bag → (now : Bag) × Evaluates Told o t now × Alike (needs (root_of t)) bag now

    edge_down : (want own : FieldSet) (t : PlanTree) → IsEdge want own t → LeadsDown t (grown cut t) → (c : Option ℕ) → cut (root_of t) ≡ c
        → LeadsDown t (capped c (grown cut t))
    edge_down want own t edge below None e bag h = below bag h
    edge_down want own t edge below (Some m) e bag h =
        let a = h.0 in
        let need = needs (root_of t) in
        let c = edge.cuts m e in
        let r = below a.rows a.below in
        let given : a.out ≡ flat_map (p.of_record m) a.rows = subst (λ (k : OpKind). Gives p k m a.rows a.out) c.kind a.given in
        let cut_rows =
        subst (λ (l : Bag). Alike need a.rows l) (sym given)
        (cut_bag fields p need m c a.rows (edge.grown_wide a.rows (evaluates_allowed Told p (grown cut t) a.rows a.below))) in
        let z = alike_chain need a.out a.rows r.0 (alike_turned need a.rows a.out cut_rows) r.2 in
        let q = AllZip-permuted (Agree need) (from_permutation a.out bag a.permuted) r.0 z in
        (q.0, evaluates_permuted Told o t r.0 q.0 q.1 r.1, q.2)

    edge_twins : (want own : FieldSet) (t : PlanTree) (bag now : Bag) → IsEdge want own t → Evaluates Told p (onto t) bag → Evaluates Told o t now
        → Alike (needs (root_of t)) bag now
        → AllZip (AreTwins fields own want) bag now
    edge_twins want own t bag now edge h g z =
        all_twins fields own want bag now (edge.grown_fits bag (evaluates_allowed Told p (onto t) bag h))
        (edge.fits now (evaluates_allowed Told o t now g))
        (subst (λ (s : FieldSet). Alike s bag now) edge.needed z)

    pub leads_down : (t : PlanTree) → AreKept t → LeadsDown t (grown cut t)
    leads_down (leaf n) s bag h =
        let a = h.0 in (
          bag,
          (record { source = s.0 ∙ a.source; permuted = subst (λ (l : Bag). IsPermutation l bag) (sym s.1) a.permuted }, h.1),
          agree_self (needs n) bag,
        )
    leads_down (over n t) s bag h =
        let a = h.0 in
        let x = s.0 in
        let r = edge_down x.want x.own t x.edge (leads_down t s.1) (cut (root_of t)) refl a.rows a.below in
        let twins = edge_twins x.want x.own t a.rows r.0 x.edge a.below r.1 r.2 in
        let g =
        gives_twins o fields n x.own no_fields x.want (needs n) x.apart x.keys (o.kind n) x.calls a.rows r.0 a.out twins
        (gives_same p o n (same_turned o p n x.same) a.rows a.out a.given) in
        let q = permuted_alike (needs n) a.out bag g.0 a.permuted g.2 in (
          q.0,
          (record { rows = r.0; out = g.0; below = r.1; given = g.1; permuted = q.1 }, alike_told (needs n) (Told n) bag q.0 q.2 h.1),
          q.2,
        )
    leads_down (both n t u) s bag h =
        let a = h.0 in
        let x = s.0 in
        let l = edge_down x.want x.left t x.left_edge (leads_down t s.1) (cut (root_of t)) refl a.left_rows a.left_below in
        let r = edge_down x.want x.right u x.right_edge (leads_down u s.2) (cut (root_of u)) refl a.right_rows a.right_below in
        let g =
        gives_both_twins o fields n x.left x.right x.want (needs n) x.apart x.left_keys x.right_keys
        (o.kind n) x.calls a.left_rows l.0 a.right_rows r.0 a.out
        (edge_twins x.want x.left t a.left_rows l.0 x.left_edge a.left_below l.1 l.2)
        (edge_twins x.want x.right u a.right_rows r.0 x.right_edge a.right_below r.1 r.2)
        (gives_both_same p o n (same_turned o p n x.same) a.left_rows a.right_rows a.out a.given) in
        let q = permuted_alike (needs n) a.out bag g.0 a.permuted g.2 in (
          q.0,
          (
            record { left_rows = l.0; right_rows = r.0; out = g.0; left_below = l.1; right_below = r.1; given = g.1; permuted = q.1 },
            alike_told (needs n) (Told n) bag q.0 q.2 h.1,
          ),
          q.2,
        )

  -- ---- from the plan to the plan with more Maps

  -- a count of a number in the plan is also its count in the other plan, and the count of the Map on its edge
  module _ (Told Then : ℕ → ℕ → Type 0) (keeps : (n k : ℕ) → Told n k → Then n k) (puts : (n m k : ℕ) → cut n ≡ Some m → Told n k → Then m k) where
    abbrev LeadsUp : PlanTree → PlanTree → Type 0
    LeadsUp t s = (bag : Bag) → Evaluates Told o t bag → (now : Bag) × Evaluates Then p s now × Alike (needs (root_of t)) bag now

    told_root : (t : PlanTree) (bag : Bag) → Evaluates Told o t bag → Told (root_of t) (length bag)
    told_root (leaf n) bag h = h.1
    told_root (over n t) bag h = h.1
    told_root (both n t u) bag h = h.1

    edge_up : (want own : FieldSet) (t : PlanTree) → IsEdge want own t → LeadsUp t (grown cut t) → (c : Option ℕ) → cut (root_of t) ≡ c
        → LeadsUp t (capped c (grown cut t))
    edge_up want own t edge below None e bag h = below bag h
    edge_up want own t edge below (Some m) e bag h =
        let need = needs (root_of t) in
        let c = edge.cuts m e in
        let r = below bag h in
        let out = flat_map (p.of_record m) r.0 in
        let cut_rows = cut_bag fields p need m c r.0 (edge.grown_wide r.0 (evaluates_allowed Then p (grown cut t) r.0 r.1)) in
        let z = alike_chain need bag r.0 out r.2 cut_rows in (
          out,
          (
            record {
              rows = r.0;
              out = out;
              below = r.1;
              given = subst (λ (k : OpKind). Gives p k m r.0 out) (sym c.kind) refl;
              permuted = IsPermutation-refl out;
            },
            alike_told need (Then m) bag out z (puts (root_of t) m (length bag) e (told_root t bag h)),
          ),
          z,
        )

    twins_up : (want own : FieldSet) (t : PlanTree) (bag now : Bag) → IsEdge want own t → Evaluates Told o t bag → Evaluates Then p (onto t) now
        → Alike (needs (root_of t)) bag now
        → AllZip (AreTwins fields own want) bag now
    twins_up want own t bag now edge h g z =
        all_twins fields own want bag now (edge.fits bag (evaluates_allowed Told o t bag h))
        (edge.grown_fits now (evaluates_allowed Then p (onto t) now g))
        (subst (λ (s : FieldSet). Alike s bag now) edge.needed z)

    pub leads_up : (t : PlanTree) → AreKept t → LeadsUp t (grown cut t)
    leads_up (leaf n) s bag h =
        let a = h.0 in (
          bag,
          (record { source = sym s.0 ∙ a.source; permuted = subst (λ (l : Bag). IsPermutation l bag) s.1 a.permuted }, keeps n (length bag) h.1),
          agree_self (needs n) bag,
        )
    leads_up (over n t) s bag h =
        let a = h.0 in
        let x = s.0 in
        let r = edge_up x.want x.own t x.edge (leads_up t s.1) (cut (root_of t)) refl a.rows a.below in
        let twins = twins_up x.want x.own t a.rows r.0 x.edge a.below r.1 r.2 in
        let g = gives_twins o fields n x.own no_fields x.want (needs n) x.apart x.keys (o.kind n) x.calls a.rows r.0 a.out twins a.given in
        let q = permuted_alike (needs n) a.out bag g.0 a.permuted g.2 in (
          q.0,
          (
            record { rows = r.0; out = g.0; below = r.1; given = gives_same o p n x.same r.0 g.0 g.1; permuted = q.1 },
            alike_told (needs n) (Then n) bag q.0 q.2 (keeps n (length bag) h.1),
          ),
          q.2,
        )
    leads_up (both n t u) s bag h =
        let a = h.0 in
        let x = s.0 in
        let l = edge_up x.want x.left t x.left_edge (leads_up t s.1) (cut (root_of t)) refl a.left_rows a.left_below in
        let r = edge_up x.want x.right u x.right_edge (leads_up u s.2) (cut (root_of u)) refl a.right_rows a.right_below in
        let g =
        gives_both_twins o fields n x.left x.right x.want (needs n) x.apart x.left_keys x.right_keys
        (o.kind n) x.calls a.left_rows l.0 a.right_rows r.0 a.out
        (twins_up x.want x.left t a.left_rows l.0 x.left_edge a.left_below l.1 l.2)
        (twins_up x.want x.right u a.right_rows r.0 x.right_edge a.right_below r.1 r.2) a.given in
        let q = permuted_alike (needs n) a.out bag g.0 a.permuted g.2 in (
          q.0,
          (
            record {
              left_rows = l.0;
              right_rows = r.0;
              out = g.0;
              left_below = l.1;
              right_below = r.1;
              given = gives_both_same o p n x.same l.0 r.0 g.0 g.1;
              permuted = q.1;
            },
            alike_told (needs n) (Then n) bag q.0 q.2 (keeps n (length bag) h.1),
          ),
          q.2,
        )
