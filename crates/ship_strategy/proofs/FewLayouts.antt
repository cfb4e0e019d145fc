-- A program has at least one layout and at most 6,561.
use Rattle.std.proofs.Common.{◌≡◌, ◌≤◌, ◌+◌, ◌*◌, ℕ, zero, suc, List, [], ◌∷◌, refl, subst, sym, arith}
use Rattle.std.specs.Prelude.{◌-◌}
use Rattle.tac_syntax.specs.declared.declarations.OpKind.{OpKind}
use Rattle.tac_syntax.specs.declared.declarations.OpKind.TheVariants.{Source, Map, Reduce, Match, Cross, CoGroup}
use Rattle.pact_operators.specs.declared.operators.Op.{Op}
use Rattle.pact_operators.specs.Programs.{times_of_kind, is_pair_kind}
use Rattle.ship_strategy.specs.Layouts.{choices_of, layout_count}

-- 3 to a power
abbrev power_of_three : ℕ → ℕ
power_of_three zero = 1
power_of_three (suc n) = 3 * power_of_three n

pairs_more : (kind : OpKind) (op : Op) (ops : List Op) → op.kind ≡ kind → layout_count ops ≤ power_of_three (times_of_kind is_pair_kind ops)
    → choices_of op.kind * layout_count ops ≤ power_of_three (times_of_kind is_pair_kind (op ∷ ops))
pairs_more Source op ops e h = rw e (omega (arith, h))
pairs_more Map op ops e h = rw e (omega (arith, h))
pairs_more Reduce op ops e h = rw e (omega (arith, h))
pairs_more Match op ops e h = rw e (omega (arith, h))
pairs_more Cross op ops e h = rw e (omega (arith, h))
pairs_more CoGroup op ops e h = rw e (omega (arith, h))

count-power : (ops : List Op) → layout_count ops ≤ power_of_three (times_of_kind is_pair_kind ops)
count-power [] = omega arith
count-power (op ∷ ops) = pairs_more op.kind op ops refl (count-power ops)

power_rises : (m n : ℕ) → power_of_three n ≤ power_of_three (m + n)
power_rises zero n =
    let same : n ≡ zero + n = omega arith in
    let here : power_of_three n ≤ power_of_three n = omega arith in
    subst (λ (k : ℕ). power_of_three n ≤ power_of_three k) same here
power_rises (suc m) n =
    let below = power_rises m n in
    let same : suc (m + n) ≡ suc m + n = omega arith in
    subst (λ (k : ℕ). power_of_three n ≤ power_of_three k) same (omega (arith, below))

small_power : (n : ℕ) → n ≤ 8 → power_of_three n ≤ 6561
small_power n h =
    let same : (8 - n) + n ≡ 8 = omega (arith, h) in
    subst (λ (k : ℕ). power_of_three n ≤ power_of_three k) same (power_rises (8 - n) n)

few_layouts : (ops : List Op) → times_of_kind is_pair_kind ops ≤ 8 → layout_count ops ≤ 6561
few_layouts ops h = let a = count-power ops in let b = small_power (times_of_kind is_pair_kind ops) h in omega (arith, a, b)

pub few_by : (all : List Op) (op : Op) (rest : List Op) (a b : ℕ) → all ≡ op ∷ rest → a ≡ choices_of op.kind → b ≡ layout_count rest → times_of_kind is_pair_kind all ≤ 8 → a * b ≤ 6561
few_by all op rest a b e f g h =
    let few = few_layouts (op ∷ rest) (subst (λ (x : List Op). times_of_kind is_pair_kind x ≤ 8) e h) in
    let same : a * b ≡ choices_of op.kind * layout_count rest = λ i. f i * g i in
    subst (λ (n : ℕ). n ≤ 6561) (sym same) few

some_choice : (kind : OpKind) (n : ℕ) → 1 ≤ n → 1 ≤ choices_of kind * n
some_choice Source n h = omega (arith, h)
some_choice Map n h = omega (arith, h)
some_choice Reduce n h = omega (arith, h)
some_choice Match n h = omega (arith, h)
some_choice Cross n h = omega (arith, h)
some_choice CoGroup n h = omega (arith, h)

pub some_layout : (ops : List Op) → 1 ≤ layout_count ops
some_layout [] = omega arith
some_layout (op ∷ ops) = some_choice op.kind (layout_count ops) (some_layout ops)
