-- Functions of a Reduce that may be split into a sender and a merger.
use Rattle.std.specs.Prelude.{◌≡◌, ◌≤◌, ◌==◌, ℕ, ℤ, Bool, true, false, not, ◌&&◌, ◌||◌, if◌then◌else◌, List, length, Some}
use Rattle.std.specs.List.{AllByRecursion}
use Rattle.std.specs.Int.{w64, int_wrap}
use Rattle.std.specs.Ordering.{int_eq}
use Rattle.tac_syntax.specs.declared.functions.Function.{Function}
use Rattle.tac_syntax.specs.declared.functions.Kind.TheVariants.{Reduce}
use Rattle.tac_syntax.specs.Bounded.{Names}
use Rattle.tac_syntax.specs.Code.{Simple, load_int, Code, stop, plain, branch, again, each}
use Rattle.tac_syntax.specs.Valid.{IsValid}
use Rattle.order_free.specs.declared.accumulators.Accumulation.{Accumulation}
use Rattle.order_free.specs.declared.accumulators.Accumulation.TheVariants.{Sum, Least, Greatest}
use Rattle.order_free.specs.Registers.{value_at, assigns, is_assigned}
use Rattle.order_free.specs.OrderFree.{IsOrderFree}
use Rattle.combine_rule.specs.Pieces.{has_emit, has_one_loop, front_of, loop_of}
use Rattle.combine_rule.specs.Slots.{accumulation_of, accumulators_of, spare_fields, slots_of, spare_register}
use Rattle.combine_rule.specs.Halves.{sender_of, merger_of}

-- a 64-bit number, as every number in a function's code is
abbrev pub is_i64 : ℤ → Bool
is_i64 z = int_eq (int_wrap w64 z) z

-- Whether the last assignment of value register d up to this statement is `vD = int N`, outside every block. `so` says
-- whether this holds before the statement.
abbrev pub number_after : Simple → ℕ → Bool → Bool
number_after (load_int to value) d so = if d == to then is_i64 value else so
number_after s d so = so && not (assigns s (value_at d))

-- this property after a body; an assignment inside a block makes it false
abbrev pub is_number_behind : Code → ℕ → Bool → Bool
is_number_behind stop d so = so
is_number_behind (plain s next) d so = is_number_behind next d (number_after s d so)
is_number_behind (branch on body other next) d so = is_number_behind next d (so && not (is_assigned body (value_at d) || is_assigned other (value_at d)))
is_number_behind (again count body next) d so = is_number_behind next d (so && not (is_assigned body (value_at d)))
is_number_behind (each name list body next) d so = is_number_behind next d (so && not (is_assigned body (value_at d)))

-- A sum must start as a number, so that adding 0 doesn't change it. Least and greatest values have no such condition.
abbrev pub StartsAsNumber : Accumulation → Code → ℕ → Type 0
StartsAsNumber Sum front d = is_number_behind front d false ≡ true
StartsAsNumber Least front d = Unit {0}
StartsAsNumber Greatest front d = Unit {0}

-- the function with another body
abbrev pub with_body : Function → Code → Function
with_body f body = record f { body = body }

abbrev pub sender_with : Function → ℕ → ℕ → List ℕ → (ℕ → Bool) → Function
sender_with f fields t keys set = with_body f (sender_of f.body t keys (slots_of (loop_of f.body) fields keys set))

abbrev pub merger_with : Function → ℕ → ℕ → List ℕ → (ℕ → Bool) → Function
merger_with f fields t keys set = with_body f (merger_of f.body t (slots_of (loop_of f.body) fields keys set))

-- A function of a Reduce with these keys, whose input has the attributes in `set`. It may take its group in any order.
-- It has one loop over the group, outside every other block, and emits nothing before that loop or in it. Sums start as
-- numbers. The keys are in the set, and for each accumulator the set has a field outside the keys. A value register is
-- left unused. The sender and the merger are valid, and the sender sets only fields of the set.
pub record IsCombinable (f : Function) (fields : ℕ) (keys : List ℕ) (set : ℕ → Bool) : Type 0 where
  pub kind : f.kind ≡ Reduce
  pub order_free : IsOrderFree f.kind f.body
  pub one_loop : has_one_loop f.body ≡ true
  pub silent_front : has_emit (front_of f.body) ≡ false
  pub silent_loop : has_emit (loop_of f.body) ≡ false
  pub sums : AllByRecursion (λ d. StartsAsNumber (accumulation_of (loop_of f.body) d) (front_of f.body) d) (accumulators_of (loop_of f.body))
  pub keys_inside : AllByRecursion (λ k. set k ≡ true) keys
  pub room : length (accumulators_of (loop_of f.body)) ≤ length (spare_fields fields keys set)
  pub register : ℕ
  pub is_spare : spare_register f.body ≡ Some register
  pub sender_valid : IsValid (sender_with f fields register keys set) fields
  pub merger_valid : IsValid (merger_with f fields register keys set) fields
  pub named_inside : (k : ℕ) → Names fields k (sender_of f.body register keys (slots_of (loop_of f.body) fields keys set)) → set k ≡ true
