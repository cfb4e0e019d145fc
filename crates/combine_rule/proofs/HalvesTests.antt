-- Tests of the pieces in the code, and of the body itself.
use Rattle.std.proofs.Common.{◌≡◌, ◌≤◌, ℕ, Bool, true, List, Some, sym, subst}
use Rattle.tac_syntax.specs.declared.functions.Function.{Function}
use Rattle.tac_syntax.specs.declared.functions.Kind.TheVariants.{Reduce}
use Rattle.tac_syntax.specs.declared.statements.Stmt.{Stmt}
use Rattle.tac_syntax.specs.Code.{Code, count_of}
use Rattle.tac_syntax.specs.Limits.{statement_limit}
use Rattle.tac_syntax.specs.Trees.{code_of}
use Rattle.tac_syntax.specs.Valid.{IsValid, WithFields}
use Rattle.order_free.specs.OrderFree.{IsOrderFree}
use Rattle.combine_rule.specs.Pieces.{has_one_loop, front_of, loop_of, rest_of}
use Rattle.combine_rule.specs.Slots.{spare_register}
use Rattle.combine_rule.specs.Combinable.{IsCombinable}
use Rattle.combine_rule.specs.Tests.{ArePiecesOf, PiecesPass, KeysPass, HasRoom, HalvesPass}
use Rattle.combine_rule.proofs.TestedHalves.{few_in_pieces, combinable_of, pieces_pass, keys_pass, has_room}

module _ (f : Function) (F : ℕ) (keys : List ℕ) (set : ℕ → Bool) (front : List Stmt) (inner : Code) (rest : List Stmt) (p : ArePiecesOf front inner rest f.body) where
  pub few_in_parts : IsValid f F → f.kind ≡ Reduce → has_one_loop f.body ≡ true → (count_of (code_of front) ≤ statement_limit) × (count_of inner ≤ statement_limit) × (count_of (code_of rest) ≤ statement_limit)
  few_in_parts valid kind one =
      let few = few_in_pieces f F keys set valid kind one in (
        subst (λ (c : Code). count_of c ≤ statement_limit) (sym p.front_is) few.0,
        subst (λ (c : Code). count_of c ≤ statement_limit) (sym p.inner_is) few.1,
        subst (λ (c : Code). count_of c ≤ statement_limit) (sym p.rest_is) few.2,
      )

  pub halves_of : (t : ℕ) → spare_register f.body ≡ Some t → PiecesPass (code_of front) inner F set → KeysPass keys f.keys F set → HasRoom (code_of front) inner (code_of rest) F keys set → HalvesPass f F keys set
  halves_of t e a b r = record {
    of_pieces = subst (λ (c : Code). PiecesPass c (loop_of f.body) F set) p.front_is (subst (λ (c : Code). PiecesPass (code_of front) c F set) p.inner_is a);
    of_keys = b;
    of_room = subst (λ (c : Code). HasRoom c (loop_of f.body) (rest_of f.body) F keys set) p.front_is
        (subst (λ (c : Code). HasRoom (code_of front) c (rest_of f.body) F keys set) p.inner_is (subst (λ (c : Code). HasRoom (code_of front) inner c F keys set) p.rest_is r));
    register = t;
    is_spare = e;
  }

  pub pieces_of : HalvesPass f F keys set → PiecesPass (code_of front) inner F set
  pieces_of h = subst (λ (c : Code). PiecesPass c inner F set) (sym p.front_is) (subst (λ (c : Code). PiecesPass (front_of f.body) c F set) (sym p.inner_is) h.of_pieces)

  pub room_of : HalvesPass f F keys set → HasRoom (code_of front) inner (code_of rest) F keys set
  room_of h =
      subst (λ (c : Code). HasRoom c inner (code_of rest) F keys set) (sym p.front_is)
      (subst (λ (c : Code). HasRoom (front_of f.body) c (code_of rest) F keys set) (sym p.inner_is) (subst (λ (c : Code). HasRoom (front_of f.body) (loop_of f.body) c F keys set) (sym p.rest_is) h.of_room))

-- if all tests pass, the function is combinable
pub combinable_by : (f : Function) (F : ℕ) (keys : List ℕ) (set : ℕ → Bool) → IsValid f F → f.kind ≡ Reduce → IsOrderFree f.kind f.body → has_one_loop f.body ≡ true → HalvesPass f F keys set → IsCombinable f F keys set
combinable_by f F keys set valid kind free one h = combinable_of f F keys set valid kind one free h.of_pieces h.of_keys h.of_room h.register h.is_spare

pub tests_of : (f : Function) (F : ℕ) (keys : List ℕ) (set : ℕ → Bool) → IsValid f F → IsCombinable f F keys set → HalvesPass f F keys set
tests_of f F keys set valid h = record {
  of_pieces = pieces_pass f F keys set valid h.kind h.one_loop h;
  of_keys = keys_pass f F keys set valid h.kind h.one_loop h;
  of_room = has_room f F keys set valid h.kind h.one_loop h;
  register = h.register;
  is_spare = h.is_spare;
}

-- the tests decide it for a function as the code holds it
pub exact : (v : WithFields) (g : Function) (F : ℕ) (keys : List ℕ) (set : ℕ → Bool) (b : Bool) → g ≡ v.function → F ≡ v.fields → IsValid v.function v.fields → g.kind ≡ Reduce → IsOrderFree v.function.kind v.function.body → has_one_loop g.body ≡ true
    → ((b ≡ true → HalvesPass g F keys set) × (HalvesPass g F keys set → b ≡ true)) → (b ≡ true → IsCombinable v.function v.fields keys set) × (IsCombinable v.function v.fields keys set → b ≡ true)
exact v g F keys set b e eF valid kind free one h =
    let kind_is = subst (λ (x : Function). x.kind ≡ Reduce) e kind in
    let one_is = subst (λ (x : Function). has_one_loop x.body ≡ true) e one in (
      λ q. combinable_by v.function v.fields keys set valid kind_is free one_is (subst (λ (n : ℕ). HalvesPass v.function n keys set) eF (subst (λ (x : Function). HalvesPass x F keys set) e (h.0 q))),
      λ c. h.1 (subst (λ (n : ℕ). HalvesPass g n keys set) (sym eF) (subst (λ (x : Function). HalvesPass x v.fields keys set) (sym e) (tests_of v.function v.fields keys set valid c))),
    )
