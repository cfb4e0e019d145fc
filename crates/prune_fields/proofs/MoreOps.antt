-- A program with more operators: its own operators do what they did before, and each new one keeps the fields of its
-- set.
use Rattle.std.proofs.Common.{◌≡◌, ◌∙◌, ◌<◌, ◌+◌, ℕ, zero, suc, cond, Option, Some, None, List, [], ◌∷◌, ◌++◌, length, map, slice_get, get_or, refl, sym, ap, subst, arith}
use Rattle.std.proofs.lemmas.List.{take-append-le}
use Rattle.std.proofs.lemmas.Option.{same_Some}
use Rattle.tac_syntax.specs.declared.declarations.OpKind.TheVariants.{Source}
use Rattle.tac_syntax.specs.Code.{Code}
use Rattle.tac_syntax.specs.Call.{Out, empty_record, of_record, of_pair, of_group, of_groups}
use Rattle.tac_syntax.specs.Contexts.{FieldSet, IsBelow}
use Rattle.plan_trees.specs.Plans.{PlanTree}
use Rattle.pact_operators.specs.declared.operators.Op.{Op}
use Rattle.pact_operators.specs.Allowed.{Bag}
use Rattle.pact_operators.specs.Inputs.{AreInputsOf, HaveRows}
use Rattle.pact_operators.specs.PlanOps.{body_at, function_in, kind_at, kind_in, left_keys_in, plan_ops, right_keys_in, is_source_kind, sources_of}
use Rattle.pact_operators.specs.Programs.{IsProgram, ProgramData, body_of}
use Rattle.pact_operators.proofs.CalledFunctions.{called_at, is_operator}
use Rattle.pact_operators.proofs.OwnFields.{body_of-some}
use Rattle.pact_operators.proofs.OneMore.{body_of-more}
use Rattle.prune_fields.specs.Insertions.{cuts_from, keep_functions, keep_op, keep_ops, with_keeps}
use Rattle.prune_fields.specs.KeepFunctions.{keep_body, keep_function, members}
use Rattle.prune_fields.proofs.Cuts.{cut_place}
use Rattle.prune_fields.proofs.KeepCalls.{keep_agrees, keep_gives, with_fields}
use Rattle.prune_fields.proofs.SameOperators.{DoSame}
use Rattle.prune_fields.proofs.TwinPlans.{IsCut}

-- ---- lists with appended elements

pub slice_get-front : {X : Type 0} (xs ys : List X) (n : ℕ) → n < length xs → slice_get (xs ++ ys) n ≡ slice_get xs n
slice_get-front [] ys n h = absurd (omega (arith, h))
slice_get-front (x ∷ xs) ys zero h = refl
slice_get-front (x ∷ xs) ys (suc n) h = slice_get-front xs ys n (omega (arith, h))

pub slice_get-behind : {X : Type 0} (xs ys : List X) (n m : ℕ) → m ≡ length xs + n → slice_get (xs ++ ys) m ≡ slice_get ys n
slice_get-behind [] ys n m e = ap (slice_get ys) (omega (arith, e))
slice_get-behind (x ∷ xs) ys n zero e = absurd (omega (arith, e))
slice_get-behind (x ∷ xs) ys n (suc m) e = slice_get-behind xs ys n m (omega (arith, e))

pub slice_get-map : {X Y : Type 0} (f : X → Y) (xs : List X) (n : ℕ) (x : X) → slice_get xs n ≡ Some x → slice_get (map f xs) n ≡ Some (f x)
slice_get-map f [] n x e = cc
slice_get-map f (y ∷ xs) zero x e = ap (λ (o : Option _). map_some f o) e
  where
    map_some : {X Y : Type 0} → (X → Y) → Option X → Option Y
    map_some f None = None
    map_some f (Some x) = Some (f x)
slice_get-map f (y ∷ xs) (suc n) x e = slice_get-map f xs n x e

-- ---- the new operators and functions

new_op : (new f : ℕ) (ns : List ℕ) (j n m g : ℕ) → slice_get ns j ≡ Some n → m ≡ new + j → g ≡ f + j
    → slice_get (keep_ops new f ns) j ≡ Some (keep_op m g)
new_op new f [] j n m g e a b = cc
new_op new f (k ∷ ns) zero n m g e a b =
    let x : new ≡ m = omega (arith, a) in
    let y : f ≡ g = omega (arith, b) in
    λ i. Some (keep_op (x i) (y i))
new_op new f (k ∷ ns) (suc j) n m g e a b = new_op (new + 1) (f + 1) ns j n m g e (omega (arith, a)) (omega (arith, b))

new_function : (new fields : ℕ) (needs : ℕ → FieldSet) (ns : List ℕ) (j n m : ℕ) → slice_get ns j ≡ Some n → m ≡ new + j
    → slice_get (keep_functions new fields needs ns) j ≡ Some (keep_function m fields (needs n))
new_function new fields needs [] j n m e a = cc
new_function new fields needs (k ∷ ns) zero n m e a =
    let x : new ≡ m = omega (arith, a) in
    let y : k ≡ n = same_Some k n e in
    λ i. Some (keep_function (x i) fields (needs (y i)))
new_function new fields needs (k ∷ ns) (suc j) n m e a = new_function (new + 1) fields needs ns j n m e (omega (arith, a))

-- ---- a program

module _ (p : ProgramData) (program : IsProgram p) (inputs : List Bag) (tree : PlanTree) (needs : ℕ → FieldSet) (ns : List ℕ) where
  abbrev pub More : ProgramData
  More = with_keeps p tree needs ns

  -- ---- the operators that were there before

  pub same_op : (n : ℕ) → n < length p.ops → slice_get More.ops n ≡ slice_get p.ops n
  same_op n h = slice_get-front p.ops (keep_ops (length p.ops) (length p.functions) ns) n h

  pub same_kind : (n : ℕ) → n < length p.ops → kind_at More.ops n ≡ kind_at p.ops n
  same_kind n h = ap kind_in (same_op n h)

  pub same_rows : (n : ℕ) → n < length p.ops → (plan_ops p inputs).rows n ≡ (plan_ops More inputs).rows n
  same_rows n h =
      ap (λ (ops : List Op). get_or inputs (length (sources_of ops)) [])
      (sym (take-append-le n p.ops (keep_ops (length p.ops) (length p.functions) ns) (omega (arith, h))))

  operator_function : (n : ℕ) (found : Option Op) → slice_get p.ops n ≡ found → (kind_at p.ops n ≡ Source → ⊥)
      → function_in (slice_get p.ops n) < length p.functions
  operator_function n None e operator = absurd (operator (ap kind_in e))
  operator_function n (Some op) e operator =
      let h = is_operator p program n op operator e in
      subst (λ (o : Option Op). function_in o < length p.functions) (sym e) (called_at p program n op operator h.called e h.function).below

  pub same_body : (n : ℕ) → n < length p.ops → (kind_at p.ops n ≡ Source → ⊥) → body_at More n ≡ body_at p n
  same_body n h operator =
      ap (λ (o : Option Op). body_of More.functions (function_in o)) (same_op n h)
      ∙ body_of-more p.functions (keep_functions (length p.ops) p.fields needs ns) (function_in (slice_get p.ops n))
      (operator_function n (slice_get p.ops n) refl operator)

  pub do_same : (n : ℕ) → n < length p.ops → (kind_at p.ops n ≡ Source → ⊥) → DoSame (plan_ops p inputs) (plan_ops More inputs) n
  do_same n h operator =
      let body = sym (same_body n h operator) in
      let op = sym (same_op n h) in
      record {
        nulls = refl;
        kind = ap kind_in op;
        of_record = λ i row. Out p.fields (body i) (of_record row);
        of_pair = λ i l r. Out p.fields (body i) (of_pair l r);
        of_group = λ i k group. Out p.fields (body i) (of_group k group);
        of_groups = λ i k l r. Out p.fields (body i) (of_groups k l r);
        left_keys = ap left_keys_in op;
        right_keys = ap right_keys_in op;
      }

  -- ---- the new operators

  -- a new operator and its function
  pub record IsNewAt (n m g : ℕ) : Type 0 where
    pub op : slice_get More.ops m ≡ Some (keep_op m g)
    pub function : slice_get More.functions g ≡ Some (keep_function m p.fields (needs n))

  pub new_at : (n m : ℕ) → cuts_from (length p.ops) ns n ≡ Some m → (g : ℕ) × IsNewAt n m g
  new_at n m e =
      let c = cut_place (length p.ops) ns n m e in
      let g = length p.functions + c.0 in (
        g,
        record {
          op =
              slice_get-behind p.ops (keep_ops (length p.ops) (length p.functions) ns) c.0 m c.1
              ∙ new_op (length p.ops) (length p.functions) ns c.0 n m g c.2 c.1 refl;
          function =
              slice_get-behind p.functions (keep_functions (length p.ops) p.fields needs ns) c.0 g refl
              ∙ new_function (length p.ops) p.fields needs ns c.0 n m c.2 c.1;
        },
      )

  pub is_cut : (n m : ℕ) → cuts_from (length p.ops) ns n ≡ Some m → IsBelow p.fields (needs n) → IsCut p.fields (plan_ops More inputs) (needs n) m
  is_cut n m e below =
      let found = new_at n m e in
      let a = found.1 in
      let body : body_at More m ≡ keep_body p.fields (needs n) =
      ap (λ (q : Option Op). body_of More.functions (function_in q)) a.op
      ∙ body_of-some More.functions found.0 (keep_function m p.fields (needs n)) a.function in
      record {
        kind = ap kind_in a.op;
        gives = λ row long. (
          with_fields (members p.fields (needs n)) row (empty_record p.fields),
          ap (λ (code : Code). Out p.fields code (of_record row)) body ∙ keep_gives p.fields (needs n) row,
          keep_agrees p.fields (needs n) row below,
        );
      }

-- ---- sources

no_new_source : (new f : ℕ) (ns : List ℕ) → sources_of (keep_ops new f ns) ≡ []
no_new_source new f [] = refl
no_new_source new f (n ∷ ns) = no_new_source (new + 1) (f + 1) ns

same_sources : (front : List Op) (new f : ℕ) (ns : List ℕ) → sources_of (front ++ keep_ops new f ns) ≡ sources_of front
same_sources [] new f ns = no_new_source new f ns
same_sources (op ∷ front) new f ns = ap (λ (l : List Op). cond (is_source_kind op.kind) (op ∷ l) l) (same_sources front new f ns)

pub same_inputs : (p : ProgramData) (inputs : List Bag) (tree : PlanTree) (needs : ℕ → FieldSet) (ns : List ℕ) → AreInputsOf p inputs
    → AreInputsOf (with_keeps p tree needs ns) inputs
same_inputs p inputs tree needs ns h =
    subst (λ (sources : List Op). HaveRows p.fields sources inputs) (sym (same_sources p.ops (length p.ops) (length p.functions) ns)) h
