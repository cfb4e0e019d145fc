-- Counts of one evaluation, made node by node.
use Rattle.std.proofs.Common.{◌≡◌, ◌<◌, ◌-◌, ◌^◌, ℕ, List, [], ◌∷◌, Some, length, min, slice_get, slice_set, ap, sym, ◌∙◌, subst, arith}
use Rattle.std.specs.List.{AllByRecursion}
use Rattle.std.specs.List.Sorted.{IsPermutation}
use Rattle.std.proofs.lemmas.List.Sorted.{IsPermutation-refl}
use Rattle.pact_operators.specs.Allowed.{Bag, Counted, Gives, GivesBoth, count_of}
use Rattle.plan_trees.specs.Distinct.{AreDifferent, IsAbsent}
use Rattle.pact_operators.specs.PlanOps.{PlanOps}
use Rattle.pact_operators.proofs.PermutedEvaluations.{evaluates_told}
use Rattle.plan_trees.specs.Plans.{PlanTree, leaf, over, both, nodes}
use Rattle.tac_syntax.specs.declared.declarations.OpKind.TheVariants.{Source}
use Rattle.plan_trees.proofs.DifferentNumbers.{AreDifferent-absent, IsAbsent-left, IsAbsent-right}
use Rattle.pact_record.proofs.Lists.{AllByRecursion-weaker, slice_get-set_other, slice_get-set_same}

-- ---- counts that are set

abbrev SameAt : List ℕ → List ℕ → List ℕ → Type 0
SameAt ns cs ds = AllByRecursion (λ n. slice_get cs n ≡ slice_get ds n) ns

same_apart : (ns ms cs ds : List ℕ) → AllByRecursion (λ n. IsAbsent n ms) ns → ((n : ℕ) → IsAbsent n ms → slice_get ds n ≡ slice_get cs n) → SameAt ns cs ds
same_apart [] ms cs ds a h = tt
same_apart (n ∷ ns) ms cs ds a h = (sym (h n a.0), same_apart ns ms cs ds a.1 h)

same_set : (ns : List ℕ) (n v : ℕ) (cs : List ℕ) → IsAbsent n ns → SameAt ns cs (slice_set cs n v)
same_set [] n v cs h = tt
same_set (m ∷ ns) n v cs h = (sym (slice_get-set_other cs n m v (λ e. h.0 (sym e))), same_set ns n v cs h.1)

-- the same evaluation, with counts that are equal at its nodes
recounted : (o : PlanOps) (t : PlanTree) (bag : Bag) (cs ds : List ℕ) → SameAt (nodes t) cs ds → Counted o t bag cs → Counted o t bag ds
recounted o t bag cs ds e h =
    let P = λ (n k : ℕ). slice_get cs n ≡ Some (count_of k) in
    let Q = λ (n k : ℕ). slice_get ds n ≡ Some (count_of k) in
    evaluates_told P Q o t bag (AllByRecursion-weaker (λ n. slice_get cs n ≡ slice_get ds n) (λ n. (k : ℕ) → P n k → Q n k) (nodes t) (λ n same k is. sym same ∙ is) e) h

told : (cs : List ℕ) (n len : ℕ) (bag : Bag) → n < length cs → len ≡ length bag → len < 2 ^ 64 → slice_get (slice_set cs n len) n ≡ Some (count_of (length bag))
told cs n len bag h e b = slice_get-set_same cs n len h ∙ ap Some ((let f : len ≡ min len (2 ^ 64 - 1) = omega arith in f) ∙ ap count_of e)

pub counted-leaf : (o : PlanOps) (n len : ℕ) (bag : Bag) (cs : List ℕ) → o.kind n ≡ Source → bag ≡ o.rows n → n < length cs → len ≡ length bag → len < 2 ^ 64 → Counted o (leaf n) bag (slice_set cs n len)
counted-leaf o n len bag cs k e h l b = (record { source = k; permuted = subst (IsPermutation (o.rows n)) (sym e) (IsPermutation-refl (o.rows n)) }, told cs n len bag h l b)

pub counted-over : (o : PlanOps) (n len : ℕ) (t : PlanTree) (rows out : Bag) (cs : List ℕ) → Counted o t rows cs → IsAbsent n (nodes t) → n < length cs → Gives o (o.kind n) n rows out → len ≡ length out → len < 2 ^ 64
    → Counted o (over n t) out (slice_set cs n len)
counted-over o n len t rows out cs h a below g l b =
    (record { rows = rows; out = out; below = recounted o t rows cs (slice_set cs n len) (same_set (nodes t) n len cs a) h; given = g; permuted = IsPermutation-refl out }, told cs n len out below l b)

pub counted-both : (o : PlanOps) (n len : ℕ) (t u : PlanTree) (ls rs out : Bag) (cs ds : List ℕ) → Counted o t ls cs → Counted o u rs ds → AreDifferent (nodes (both n t u)) → ((m : ℕ) → IsAbsent m (nodes u) → slice_get ds m ≡ slice_get cs m)
    → n < length ds → GivesBoth o (o.kind n) n ls rs out → len ≡ length out → len < 2 ^ 64 → Counted o (both n t u) out (slice_set ds n len)
counted-both o n len t u ls rs out cs ds h j d frame below g l b =
    let first = recounted o t ls cs ds (same_apart (nodes t) (nodes u) cs ds (AreDifferent-absent (nodes t) (nodes u) d.1) frame) h in (
      record {
        left_rows = ls;
        right_rows = rs;
        out = out;
        left_below = recounted o t ls ds (slice_set ds n len) (same_set (nodes t) n len ds (IsAbsent-left n (nodes t) (nodes u) d.0)) first;
        right_below = recounted o u rs ds (slice_set ds n len) (same_set (nodes u) n len ds (IsAbsent-right n (nodes t) (nodes u) d.0)) j;
        given = g;
        permuted = IsPermutation-refl out;
      },
      told ds n len out below l b,
    )

pub others-leaf : (n m len : ℕ) (cs : List ℕ) → IsAbsent m (nodes (leaf n)) → slice_get (slice_set cs n len) m ≡ slice_get cs m
others-leaf n m len cs a = slice_get-set_other cs n m len a.0

pub others-over : (n m len : ℕ) (t : PlanTree) (es cs : List ℕ) → ((k : ℕ) → IsAbsent k (nodes t) → slice_get cs k ≡ slice_get es k) → IsAbsent m (nodes (over n t)) → slice_get (slice_set cs n len) m ≡ slice_get es m
others-over n m len t es cs f a = slice_get-set_other cs n m len a.0 ∙ f m a.1

pub others-both : (n m len : ℕ) (t u : PlanTree) (es cs ds : List ℕ) → ((k : ℕ) → IsAbsent k (nodes t) → slice_get cs k ≡ slice_get es k) → ((k : ℕ) → IsAbsent k (nodes u) → slice_get ds k ≡ slice_get cs k)
    → IsAbsent m (nodes (both n t u)) → slice_get (slice_set ds n len) m ≡ slice_get es m
others-both n m len t u es cs ds f g a =
    slice_get-set_other ds n m len a.0 ∙ g m (IsAbsent-right m (nodes t) (nodes u) a.1) ∙ f m (IsAbsent-left m (nodes t) (nodes u) a.1)
