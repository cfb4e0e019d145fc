-- A body keeps what each of its statements keeps.
use Rattle.std.proofs.Common.{◌≡◌, ℕ, zero, suc, Bool, true, false, if◌then◌else◌, List, [], ◌∷◌, ◌++◌, sym, subst}
use Rattle.std.specs.List.{AllByRecursion}
use Rattle.pact_record.specs.declared.values.Value.{Value}
use Rattle.pact_record.specs.Value.{is_true}
use Rattle.tac_syntax.specs.declared.statements.LoopList.{LoopList}
use Rattle.tac_syntax.specs.Code.{Simple, Code, stop, plain, branch, again, each, simple, over}
use Rattle.tac_syntax.specs.Call.{CallInput, Store, value_in, rows_of, after, bind}
use Rattle.tac_syntax.specs.Exec.{times, for_each, exec}
use Rattle.tac_syntax.specs.Places.{Place, Placed, placed, at_place, in_if, in_repeat, in_each}
use Rattle.pact_record.proofs.Lists.{AllByRecursion-left, AllByRecursion-right}

-- A fact about a place and a store that good statements keep, if the records that loops go through are good.
pub record IsKept (Good : Placed → Type 0) (GoodRow : List Value → Type 0) (Fact : Place → Store → Type 0) (input : CallInput) : Type 0 where
  pub same_input : (p : Place) (s : Store) → Fact p s → s.input ≡ input
  pub rows : (list : LoopList) → AllByRecursion GoodRow (rows_of input list)
  pub acts : (p : Place) (a : Simple) (s : Store) → Good (at_place p (simple a)) → Fact p s → Fact p (after a s)
  pub into_if : (p : Place) (s : Store) → Fact p s → Fact (in_if p) s
  pub out_of_if : (p : Place) (s : Store) → Fact (in_if p) s → Fact p s
  pub into_repeat : (count : ℕ) (p : Place) (s : Store) → Fact p s → Fact (in_repeat count p) s
  pub out_of_repeat : (count : ℕ) (p : Place) (s : Store) → Fact (in_repeat count p) s → Fact p s
  pub into_each : (p : Place) (name : ℕ) (list : LoopList) (row : List Value) (s : Store) → Good (at_place p (over name list)) → GoodRow row → Fact p s → Fact (in_each p) (bind s name row)
  pub out_of_each : (p : Place) (s : Store) → Fact (in_each p) s → Fact p s

times-kept : (Fact : Store → Type 0) (n : ℕ) (f : Store → Store) → ((s : Store) → Fact s → Fact (f s)) → (s : Store) → Fact s → Fact (times n f s)
times-kept Fact zero f k s h = h
times-kept Fact (suc n) f k s h = times-kept Fact n f k (f s) (k s h)

for_each-kept : (GoodRow : List Value → Type 0) (Fact : Store → Type 0) (name : ℕ) (rows : List (List Value)) (f : Store → Store)
    → ((row : List Value) (s : Store) → GoodRow row → Fact s → Fact (f (bind s name row)))
    → AllByRecursion GoodRow rows → (s : Store) → Fact s → Fact (for_each name rows f s)
for_each-kept GoodRow Fact name [] f k g s h = h
for_each-kept GoodRow Fact name (row ∷ rows) f k g s h = for_each-kept GoodRow Fact name rows f k g.1 (f (bind s name row)) (k row s g.0 h)

either-kept : (Fact : Store → Type 0) (b : Bool) (x y : Store) → Fact x → Fact y → Fact (if b then x else y)
either-kept Fact true x y h k = h
either-kept Fact false x y h k = k

module _ (Good : Placed → Type 0) (GoodRow : List Value → Type 0) (Fact : Place → Store → Type 0) (input : CallInput) (k : IsKept Good GoodRow Fact input) where
  pub exec-kept : (c : Code) (p : Place) (s : Store) → AllByRecursion Good (placed p c) → Fact p s → Fact p (exec c s)
  exec-kept stop p s g h = h
  exec-kept (plain a next) p s g h = exec-kept next p (after a s) g.1 (k.acts p a s g.0 h)
  exec-kept (branch on body other next) p s g h =
      let rest = AllByRecursion-right Good (placed (in_if p) body) (placed (in_if p) other ++ placed p next) g.1 in
      let inside = AllByRecursion-left Good (placed (in_if p) body) (placed (in_if p) other ++ placed p next) g.1 in
      let outside = AllByRecursion-left Good (placed (in_if p) other) (placed p next) rest in
      let start = k.into_if p s h in
      exec-kept next p (if is_true (value_in s on) then exec body s else exec other s) (AllByRecursion-right Good (placed (in_if p) other) (placed p next) rest)
      (either-kept (Fact p) (is_true (value_in s on)) (exec body s) (exec other s)
      (k.out_of_if p (exec body s) (exec-kept body (in_if p) s inside start))
      (k.out_of_if p (exec other s) (exec-kept other (in_if p) s outside start)))
  exec-kept (again count body next) p s g h =
      let q = in_repeat count p in
      let inside = AllByRecursion-left Good (placed q body) (placed p next) g.1 in
      exec-kept next p (times count (exec body) s) (AllByRecursion-right Good (placed q body) (placed p next) g.1)
      (k.out_of_repeat count p (times count (exec body) s)
      (times-kept (Fact q) count (exec body) (λ t f. exec-kept body q t inside f) s (k.into_repeat count p s h)))
  exec-kept (each name list body next) p s g h =
      let q = in_each p in
      let inside = AllByRecursion-left Good (placed q body) (placed p next) g.1 in
      let good = subst (λ (i : CallInput). AllByRecursion GoodRow (rows_of i list)) (sym (k.same_input p s h)) (k.rows list) in
      exec-kept next p (for_each name (rows_of s.input list) (exec body) s) (AllByRecursion-right Good (placed q body) (placed p next) g.1)
      (for_each-kept GoodRow (Fact p) name (rows_of s.input list) (exec body)
      (λ row t r f. k.out_of_each p (exec body (bind t name row)) (exec-kept body q (bind t name row) inside (k.into_each p name list row t g.0 r f)))
      good s h)
