-- A program has at most 2n + 1 sources and operators if n of them are operators.
use Rattle.std.proofs.Common.{◌≡◌, ◌<◌, ◌≤◌, ◌+◌, ◌*◌, ℕ, zero, suc, Bool, true, false, cond, inl, inr, List, [], ◌∷◌, ◌++◌, Some, length, slice_get, refl, sym, ap, subst, ◌∙◌, arith, length-append}
use Rattle.std.specs.Prelude.{filter}
use Rattle.std.proofs.lemmas.Option.{same_Some}
use Rattle.plan_trees.specs.Distinct.{AreDifferent}
use Rattle.plan_trees.specs.Plans.{PlanTree, leaf, over, both, nodes, node_limit}
use Rattle.plan_trees.proofs.DifferentNumbers.{IsIn, IsIn-left, IsIn-right, IsIn-parts, IsAbsent-from, IsAbsent-not, AreDifferent-append, AreDifferent-parts, length-le_from_different}
use Rattle.plan_trees.proofs.NodesOfTrees.{nodes-has}
use Rattle.tac_syntax.specs.Valid.{WithFields}
use Rattle.tac_syntax.specs.declared.declarations.OpKind.{OpKind}
use Rattle.tac_syntax.specs.declared.declarations.OpKind.TheVariants.{Source, Map, Reduce, Match, Cross, CoGroup}
use Rattle.pact_operators.specs.declared.operators.Op.{Op}
use Rattle.pact_operators.specs.Programs.{IsPlanOf, HasArity, takes, is_operator_kind, operator_limit, times_of_kind}

-- ---- numbers from a first one on

upto : (at count : ℕ) → List ℕ
upto at zero = []
upto at (suc n) = at ∷ upto (suc at) n

in_upto : (at count m : ℕ) → IsIn m (upto at count) → (at ≤ m) × (m < at + count)
unfolding upto
in_upto at zero m i = elim i [ ]
in_upto at (suc n) m (inl e) = (omega (arith, e), omega (arith, e))
in_upto at (suc n) m (inr i) = let r = in_upto (suc at) n m i in (omega (arith, r.0), omega (arith, r.1))

different_upto : (at count : ℕ) → AreDifferent (upto at count)
unfolding upto
different_upto at zero = tt
different_upto at (suc n) = (IsAbsent-from at (upto (suc at) n) (λ m i e. let r = (in_upto (suc at) n m i).0 in omega (arith, r, e)), different_upto (suc at) n)

length_upto : (at count : ℕ) → length (upto at count) ≡ count
unfolding upto
length_upto at zero = refl
length_upto at (suc n) = ap suc (length_upto (suc at) n)

-- ---- the numbers of operators

places : (at : ℕ) → List Op → List ℕ
places at [] = []
places at (op ∷ ops) = cond (is_operator_kind op.kind) (at ∷ places (suc at) ops) (places (suc at) ops)

length_places : (at : ℕ) (ops : List Op) → length (places at ops) ≡ times_of_kind is_operator_kind ops
unfolding places
length_places at [] = refl
length_places at (op ∷ ops) = by (is_operator_kind op.kind) (length_places (suc at) ops) where
  by : (b : Bool) → length (places (suc at) ops) ≡ times_of_kind is_operator_kind ops → length (cond b (at ∷ places (suc at) ops) (places (suc at) ops)) ≡ length (cond b (op ∷ filter (λ o. is_operator_kind o.kind) ops) (filter (λ o. is_operator_kind o.kind) ops))
  by true e = ap suc e
  by false e = e

at_head : (b : Bool) (at : ℕ) (rest : List ℕ) → b ≡ true → IsIn at (cond b (at ∷ rest) rest)
at_head true at rest e = inl refl
at_head false at rest e = cc

in_rest : (b : Bool) (m at : ℕ) (rest : List ℕ) → IsIn m rest → IsIn m (cond b (at ∷ rest) rest)
in_rest true m at rest i = inr i
in_rest false m at rest i = i

in_places : (at n m : ℕ) (ops : List Op) (op : Op) → m ≡ at + n → slice_get ops n ≡ Some op → is_operator_kind op.kind ≡ true → IsIn m (places at ops)
unfolding places
in_places at n m [] op q e t = cc
in_places at zero m (o ∷ ops) op q e t =
    let same : m ≡ at = omega (arith, q) in
    let is : is_operator_kind o.kind ≡ true = ap (λ (x : Op). is_operator_kind x.kind) (same_Some o op e) ∙ t in
    subst (λ (k : ℕ). IsIn k (cond (is_operator_kind o.kind) (at ∷ places (suc at) ops) (places (suc at) ops))) (sym same) (at_head (is_operator_kind o.kind) at (places (suc at) ops) is)
in_places at (suc n) m (o ∷ ops) op q e t = in_rest (is_operator_kind o.kind) m at (places (suc at) ops) (in_places (suc at) n m ops op (omega (arith, q)) e t)

-- ---- the numbers above leaves

inner : PlanTree → List ℕ
inner (leaf n) = []
inner (over n t) = n ∷ inner t
inner (both n t u) = n ∷ (inner t ++ inner u)

inner_in : (m : ℕ) (t : PlanTree) → IsIn m (inner t) → IsIn m (nodes t)
unfolding inner
inner_in m (leaf n) i = elim i [ ]
inner_in m (over n t) (inl e) = inl e
inner_in m (over n t) (inr i) = inr (inner_in m t i)
inner_in m (both n t u) (inl e) = inl e
inner_in m (both n t u) (inr i) = elim (IsIn-parts m (inner t) (inner u) i) as (λ _. IsIn m (nodes (both n t u))) [
  | inl l ↦ inr (IsIn-left m (nodes t) (nodes u) (inner_in m t l))
  | inr r ↦ inr (IsIn-right m (nodes t) (nodes u) (inner_in m u r))
]

different_inner : (t : PlanTree) → AreDifferent (nodes t) → AreDifferent (inner t)
unfolding inner
different_inner (leaf n) d = tt
different_inner (over n t) d = (IsAbsent-from n (inner t) (λ m i e. IsAbsent-not n (nodes t) d.0 (subst (λ (k : ℕ). IsIn k (nodes t)) e (inner_in m t i))), different_inner t d.1)
different_inner (both n t u) d =
    let parts = AreDifferent-parts (nodes t) (nodes u) d.1 in (
      IsAbsent-from n (inner t ++ inner u) (λ m i e. IsAbsent-not n (nodes t ++ nodes u) d.0 (subst (λ (k : ℕ). IsIn k (nodes t ++ nodes u)) e (elim (IsIn-parts m (inner t) (inner u) i) as (λ _. IsIn m (nodes t ++ nodes u)) [
        | inl l ↦ IsIn-left m (nodes t) (nodes u) (inner_in m t l)
        | inr r ↦ IsIn-right m (nodes t) (nodes u) (inner_in m u r)
      ]))),
      AreDifferent-append (inner t) (inner u) (different_inner t parts.0) (different_inner u parts.1) (λ m i j. parts.2 m (inner_in m t i) (inner_in m u j)),
    )

few_leaves : (t : PlanTree) → length (nodes t) ≤ 2 * length (inner t) + 1
unfolding inner
few_leaves (leaf n) = omega arith
few_leaves (over n t) = omega (arith, few_leaves t)
few_leaves (both n t u) = omega (arith, few_leaves t, few_leaves u, length-append (nodes t) (nodes u), length-append (inner t) (inner u))

one_input_operator : (kind : OpKind) → takes kind ≡ 1 → is_operator_kind kind ≡ true
one_input_operator Source e = absurd (omega (arith, e))
one_input_operator Map e = refl
one_input_operator Reduce e = refl
one_input_operator Match e = refl
one_input_operator Cross e = refl
one_input_operator CoGroup e = refl

two_inputs_operator : (kind : OpKind) → takes kind ≡ 2 → is_operator_kind kind ≡ true
two_inputs_operator Source e = absurd (omega (arith, e))
two_inputs_operator Map e = refl
two_inputs_operator Reduce e = refl
two_inputs_operator Match e = refl
two_inputs_operator Cross e = refl
two_inputs_operator CoGroup e = refl

inner_places : (ops : List Op) (t : PlanTree) → HasArity ops t → (m : ℕ) → IsIn m (inner t) → IsIn m (places 0 ops)
unfolding inner
inner_places ops (leaf n) h m i = elim i [ ]
inner_places ops (over n t) h m (inl e) = in_places 0 n m ops h.0.0 (omega (arith, e)) h.0.1 (one_input_operator h.0.0.kind h.0.2)
inner_places ops (over n t) h m (inr i) = inner_places ops t h.1 m i
inner_places ops (both n t u) h m (inl e) = in_places 0 n m ops h.0.0 (omega (arith, e)) h.0.1 (two_inputs_operator h.0.0.kind h.0.2)
inner_places ops (both n t u) h m (inr i) = elim (IsIn-parts m (inner t) (inner u) i) as (λ _. IsIn m (places 0 ops)) [
  | inl l ↦ inner_places ops t h.1 m l
  | inr r ↦ inner_places ops u h.2 m r
]

pub few_numbers : (valids : List WithFields) (ops : List Op) (tree : PlanTree) → IsPlanOf valids ops tree → length ops ≤ 2 * times_of_kind is_operator_kind ops + 1
few_numbers valids ops tree plan =
    let all = length-le_from_different (upto 0 (length ops)) (nodes tree) (different_upto 0 (length ops)) (λ m i. nodes-has m tree (plan.all m (let r = (in_upto 0 (length ops) m i).1 in omega (arith, r)))) in
    let operators = length-le_from_different (inner tree) (places 0 ops) (different_inner tree plan.different) (inner_places ops tree plan.arity) in
    omega (arith, all, operators, length_upto 0 (length ops), length_places 0 ops, few_leaves tree)

-- a further operator has a number that a program can have
pub next_below : (valids : List WithFields) (ops : List Op) (tree : PlanTree) → IsPlanOf valids ops tree → times_of_kind is_operator_kind ops < operator_limit → length ops < node_limit
next_below valids ops tree plan room = omega (arith, few_numbers valids ops tree plan, room)
