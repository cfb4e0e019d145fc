-- The tests of a body.
use Rattle.std.specs.Prelude.{◌≡◌, ◌≤◌, ◌<◌, ℕ, zero, suc, Bool, true, false, ◌&&◌, ◌+◌, ◌*◌, List, [], ◌∷◌, length, Some}
use Rattle.std.specs.List.{AllByRecursion}
use Rattle.tac_syntax.specs.declared.statements.Stmt.{Stmt}
use Rattle.tac_syntax.specs.Trees.{code_of}
use Rattle.combine_rule.specs.Slots.{accumulation_of, accumulators_of, spare_fields, spare_register}
use Rattle.combine_rule.specs.Combinable.{StartsAsNumber}
use Rattle.combine_rule.specs.Pieces.{has_emit, front_of, loop_of, rest_of}
use Rattle.tac_syntax.specs.declared.functions.Function.{Function}
use Rattle.tac_syntax.specs.Limits.{statement_limit}
use Rattle.tac_syntax.specs.Code.{count_of, Simple, set_field, set_at, Code, stop, plain, branch, again, each}
use Rattle.order_free.specs.declared.accumulators.Accumulation.{Accumulation}
use Rattle.order_free.specs.declared.accumulators.Accumulation.TheVariants.{Sum, Least, Greatest}

-- the set has each field below the number
abbrev pub has_all : ℕ → (ℕ → Bool) → Bool
has_all zero set = true
has_all (suc n) set = set n && has_all n set

-- The body sets only fields of the set. A statement that takes its field from a register may set any field below the
-- number of fields.
abbrev pub sets_one_inside : ℕ → (ℕ → Bool) → Simple → Bool
sets_one_inside fields set (set_field to field value) = set field
sets_one_inside fields set (set_at to at value) = has_all fields set
sets_one_inside fields set statement = true

abbrev pub sets_inside : ℕ → (ℕ → Bool) → Code → Bool
sets_inside fields set stop = true
sets_inside fields set (plain s next) = sets_one_inside fields set s && sets_inside fields set next
sets_inside fields set (branch on body other next) = sets_inside fields set body && (sets_inside fields set other && sets_inside fields set next)
sets_inside fields set (again count body next) = sets_inside fields set body && sets_inside fields set next
sets_inside fields set (each name list body next) = sets_inside fields set body && sets_inside fields set next

-- The number of statements that a sender has for an accumulator: one copies its value to its field, and a sum has one
-- more, which starts it.
abbrev pub weight : Accumulation → ℕ
weight Sum = 2
weight Least = 1
weight Greatest = 1

abbrev pub weights : (ℕ → Accumulation) → List ℕ → ℕ
weights by [] = 0
weights by (d ∷ ds) = weight (by d) + weights by ds

-- the statements of the pieces of a body
pub record ArePiecesOf (front : List Stmt) (inner : Code) (rest : List Stmt) (body : Code) : Type 0 where
  pub front_is : code_of front ≡ front_of body
  pub inner_is : inner ≡ loop_of body
  pub rest_is : code_of rest ≡ rest_of body

-- the number of statements of a sender for this number of keys; below, that of a merger
abbrev pub sender_size : (front inner : Code) → ℕ → ℕ
sender_size front inner keys = count_of front + weights (accumulation_of inner) (accumulators_of inner) + 1 + count_of inner + 1 + 2 * keys + 1

abbrev pub merger_size : (front inner rest : Code) → ℕ
merger_size front inner rest = count_of front + 1 + 2 * length (accumulators_of inner) + count_of rest

-- the tests of the pieces
pub record PiecesPass (front inner : Code) (fields : ℕ) (set : ℕ → Bool) : Type 0 where
  pub silent_front : has_emit front ≡ false
  pub silent_loop : has_emit inner ≡ false
  pub front_inside : sets_inside fields set front ≡ true
  pub loop_inside : sets_inside fields set inner ≡ true
  pub sums : AllByRecursion (λ d. StartsAsNumber (accumulation_of inner d) front d) (accumulators_of inner)

-- the tests of the keys
pub record KeysPass (keys : List ℕ) (positions fields : ℕ) (set : ℕ → Bool) : Type 0 where
  pub inside : AllByRecursion (λ k. set k ≡ true) keys
  pub below : AllByRecursion (λ k. k < fields) keys
  pub few : length keys ≤ positions

-- the tests of counts: there is a field for each accumulator, and the sender and the merger aren't too long
pub record HasRoom (front inner rest : Code) (fields : ℕ) (keys : List ℕ) (set : ℕ → Bool) : Type 0 where
  pub room : length (accumulators_of inner) ≤ length (spare_fields fields keys set)
  pub sender_small : sender_size front inner (length keys) ≤ statement_limit
  pub merger_small : merger_size front inner rest ≤ statement_limit

-- all tests of a function whose kind, order test and loop are right
pub record HalvesPass (f : Function) (fields : ℕ) (keys : List ℕ) (set : ℕ → Bool) : Type 0 where
  pub of_pieces : PiecesPass (front_of f.body) (loop_of f.body) fields set
  pub of_keys : KeysPass keys f.keys fields set
  pub of_room : HasRoom (front_of f.body) (loop_of f.body) (rest_of f.body) fields keys set
  pub register : ℕ
  pub is_spare : spare_register f.body ≡ Some register
