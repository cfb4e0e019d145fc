-- A function that passes the order test gives the same outputs, up to order, for any order inside the groups.
use Rattle.std.proofs.Common.{◌≡◌, ℕ, List, refl, sym, subst, arith}
use Rattle.std.proofs.lemmas.List.{length-replicate}
use Rattle.std.proofs.lemmas.List.Sorted.{IsPermutation-refl}
use Rattle.std.specs.List.Sorted.{IsPermutation}
use Rattle.pact_record.specs.declared.values.Value.{Value}
use Rattle.pact_record.specs.declared.values.Value.TheVariants.{Null}
use Rattle.pact_record.proofs.Permutations.{nothing, chains, is_same, to_permutation}
use Rattle.tac_syntax.specs.declared.functions.Function.{Function}
use Rattle.tac_syntax.specs.declared.functions.Kind.{Kind}
use Rattle.tac_syntax.specs.declared.functions.Kind.TheVariants.{Map, Match, Cross, Reduce, CoGroup}
use Rattle.tac_syntax.specs.Limits.{value_registers, record_registers}
use Rattle.tac_syntax.specs.Code.{Code}
use Rattle.tac_syntax.specs.Call.{CallInput, of_record, of_pair, of_group, of_groups, start_store, empty_record, Out}
use Rattle.tac_syntax.specs.Valid.{IsValid}
use Rattle.tac_syntax.specs.WellFormed.{IsWellFormed}
use Rattle.tac_syntax.proofs.StepsAsRecursion.{Out-exec}
use Rattle.tac_syntax.proofs.WellFormed.{valid_is_well_formed}
use Rattle.order_free.specs.Registers.{RegisterSet, no_registers}
use Rattle.order_free.specs.Liveness.{live}
use Rattle.order_free.specs.OrderFree.{IsGroupFree, IsOrderFree}
use Rattle.order_free.specs.Permutes.{Permutes}
use Rattle.order_free.proofs.ReorderedInputs.{SameUpToOrder, reordered_group, reordered_groups}
use Rattle.order_free.proofs.AgreeingStores.{IsWhole}
use Rattle.order_free.proofs.ReorderedRuns.{Along, exec-along}

start-whole : (F : ℕ) (x : CallInput) → IsWhole 0 (start_store F x)
start-whole F x = record { values = length-replicate value_registers Null; records = length-replicate record_registers (empty_record F); loops = omega arith }

start-along : (F : ℕ) (set : RegisterSet) (x y : CallInput) → SameUpToOrder x y → Along 0 set (start_store F x) (start_store F y)
start-along F set x y h = record {
  agree = record {
    own = start-whole F x;
    other = start-whole F y;
    fields = refl;
    inputs = h;
    loops = refl;
    values = λ k _. refl;
    records = λ k _. refl;
  };
  emitted = nothing;
}

group-permutes : (kind : Kind) (F : ℕ) (body : Code) (x y : CallInput) → IsWellFormed kind F 0 body → IsGroupFree body → SameUpToOrder x y → IsPermutation (Out F body x) (Out F body y)
group-permutes kind F body x y w free h =
    let p = exec-along kind F body 0 no_registers (start_store F x) (start_store F y) w free.0 free.1 (start-along F (live body no_registers) x y h) in
    to_permutation (chains (is_same (Out-exec F body x)) (chains p.emitted (is_same (sym (Out-exec F body y)))))

-- without groups both inputs are equal
equal-permutes : (F : ℕ) (body : Code) (x y : CallInput) → x ≡ y → IsPermutation (Out F body x) (Out F body y)
equal-permutes F body x y e = subst (λ (z : CallInput). IsPermutation (Out F body x) (Out F body z)) e (IsPermutation-refl (Out F body x))

well_formed-permutes : (kind : Kind) (F : ℕ) (body : Code) → IsWellFormed kind F 0 body → IsOrderFree kind body → Permutes kind F body
well_formed-permutes Map F body w free (of_record r) (of_record q) h = equal-permutes F body (of_record r) (of_record q) (λ i. of_record (h i))
well_formed-permutes Match F body w free (of_pair l r) (of_pair m q) h = equal-permutes F body (of_pair l r) (of_pair m q) (λ i. of_pair (h.0 i) (h.1 i))
well_formed-permutes Cross F body w free (of_pair l r) (of_pair m q) h = equal-permutes F body (of_pair l r) (of_pair m q) (λ i. of_pair (h.0 i) (h.1 i))
well_formed-permutes Reduce F body w free (of_group key group) (of_group other_key other) h =
    group-permutes Reduce F body (of_group key group) (of_group other_key other) w free
    (subst (λ (k : List Value). SameUpToOrder (of_group key group) (of_group k other)) h.0 (reordered_group key group other h.1))
well_formed-permutes CoGroup F body w free (of_groups key left right) (of_groups other_key other_left other_right) h =
    group-permutes CoGroup F body (of_groups key left right) (of_groups other_key other_left other_right) w free
    (subst (λ (k : List Value). SameUpToOrder (of_groups key left right) (of_groups k other_left other_right)) h.0 (reordered_groups key left right other_left other_right h.1 h.2))
well_formed-permutes kind F body w free x y h = absurd h

pub valid-permutes : (f : Function) (fields : ℕ) → IsValid f fields → IsOrderFree f.kind f.body → Permutes f.kind fields f.body
valid-permutes f fields h free = well_formed-permutes f.kind fields f.body (valid_is_well_formed f fields h) free
