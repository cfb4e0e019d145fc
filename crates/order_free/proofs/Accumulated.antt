-- The value of an accumulator after operands, which it may take in any order.
use Rattle.std.proofs.Common.{◌≡◌, ℤ, ◌+ℤ◌, List, [], ◌∷◌, ◌++◌, refl, sym, ap, ◌∙◌}
use Rattle.std.proofs.lemmas.Int.{int_wrap-add_left}
use Rattle.std.proofs.Math.IntN.{+ℤ_assoc, +ℤ_comm}
use Rattle.std.specs.Int.{w64, int_wrap}
use Rattle.pact_record.specs.declared.values.Value.{Value}
use Rattle.pact_record.specs.declared.values.Value.TheVariants.{Int}
use Rattle.pact_record.specs.Operations.{applied2, number_or_zero, wrapped_sum_of}
use Rattle.pact_record.proofs.Permutations.{Perm, nothing, keeps, swaps, chains}
use Rattle.order_free.specs.declared.accumulators.Accumulation.{Accumulation}
use Rattle.order_free.specs.declared.accumulators.Accumulation.TheVariants.{Sum, Least, Greatest}
use Rattle.order_free.specs.Accumulators.{op_of}
use Rattle.order_free.proofs.ValueOrder.{smaller_swap, greater_swap}

-- its value after these operands, one after the other
abbrev pub accumulated : Accumulation → Value → List Value → Value
accumulated by held [] = held
accumulated by held (a ∷ rest) = accumulated by (applied2 (op_of by) held a) rest

wrapped_swap : (x a b : ℤ) → wrapped_sum_of (wrapped_sum_of x a) b ≡ wrapped_sum_of (wrapped_sum_of x b) a
wrapped_swap x a b =
    int_wrap-add_left w64 (x +ℤ a) b
    ∙ ap (int_wrap w64) (+ℤ_assoc x a b ∙ ap (λ (z : ℤ). x +ℤ z) (+ℤ_comm a b) ∙ sym (+ℤ_assoc x b a))
    ∙ sym (int_wrap-add_left w64 (x +ℤ b) a)

-- either of two operands may come first
applied_swap : (by : Accumulation) (x a b : Value) → applied2 (op_of by) (applied2 (op_of by) x a) b ≡ applied2 (op_of by) (applied2 (op_of by) x b) a
applied_swap Sum x a b = ap Int (wrapped_swap (number_or_zero x) (number_or_zero a) (number_or_zero b))
applied_swap Least x a b = smaller_swap x a b
applied_swap Greatest x a b = greater_swap x a b

pub accumulated-perm : (by : Accumulation) {xs ys : List Value} → Perm xs ys → (x : Value) → accumulated by x xs ≡ accumulated by x ys
accumulated-perm by nothing x = refl
accumulated-perm by (keeps {x = a} p) x = accumulated-perm by p (applied2 (op_of by) x a)
accumulated-perm by (swaps {x = a} {y = b} {xs = xs}) x = ap (λ (z : Value). accumulated by z xs) (applied_swap by x a b)
accumulated-perm by (chains p q) x = accumulated-perm by p x ∙ accumulated-perm by q x

pub accumulated-append : (by : Accumulation) (xs ys : List Value) (x : Value) → accumulated by x (xs ++ ys) ≡ accumulated by (accumulated by x xs) ys
accumulated-append by [] ys x = refl
accumulated-append by (a ∷ xs) ys x = accumulated-append by xs ys (applied2 (op_of by) x a)
