-- The sources and operators of a program are sound: their rows and calls have values only in their own fields and those
-- of their input.
use Rattle.std.proofs.Common.{◌≡◌, ◌<◌, ◌≤◌, ◌+◌, ◌⊎◌, inl, inr, ℕ, zero, suc, Bool, true, false, cond, Option, Some, None, List, [], ◌∷◌, length, take, get_or, slice_get, refl, sym, ap, subst, arith}
use Rattle.std.proofs.lemmas.Bool.{both_ways}
use Rattle.std.proofs.lemmas.List.{length-map}
use Rattle.std.specs.List.{AllByRecursion}
use Rattle.pact_bag.specs.SourceRows.{IsSourceRow, AreSourceRows, IsColumnField}
use Rattle.pact_record.specs.declared.columns.Column.{Column}
use Rattle.pact_record.specs.Widths.{AreWide}
use Rattle.pact_record.specs.declared.values.Value.{Value}
use Rattle.pact_record.specs.Record.{at_field}
use Rattle.pact_record.proofs.Lists.{AllByRecursion-slice_get, AllByRecursion-weaker}
use Rattle.tac_syntax.specs.declared.functions.Kind.{Kind}
use Rattle.tac_syntax.specs.Bounded.{InputHasValue, Names, IsBounded}
use Rattle.tac_syntax.specs.Code.{Code}
use Rattle.tac_syntax.specs.Call.{CallInput, of_record, of_pair, of_group, of_groups, Out}
use Rattle.tac_syntax.specs.CallInputs.{HasKeys, HasSome, HasWidth, IsInputOf}
use Rattle.tac_syntax.specs.Forms.{AreKeyed, HaveKey, IsWithin, left_records, right_records}
use Rattle.tac_syntax.specs.Valid.{WithFields, IsValid}
use Rattle.tac_syntax.proofs.Bounds.{AreBounded-Out}
use Rattle.tac_syntax.specs.declared.declarations.OpKind.{OpKind}
use Rattle.tac_syntax.specs.declared.declarations.OpKind.TheVariants.{Source, Map, Reduce, Match, Cross, CoGroup}
use Rattle.pact_operators.specs.declared.operators.Op.{Op}
use Rattle.pact_operators.specs.Allowed.{Bag}
use Rattle.pact_operators.specs.Inputs.{HaveRows, AreInputsOf}
use Rattle.pact_operators.specs.PlanOps.{plan_ops, kind_in, kind_at, function_in, left_keys_in, right_keys_in, body_at, is_source_kind, sources_of, source_place}
use Rattle.pact_operators.specs.Programs.{FunctionNames, HasKeyLists, IsKindFor, IsOpOf, IsProgram, Owns, OwnsBy, ProgramData, body_of}
use Rattle.pact_operators.specs.SoundOps.{AreOpsOf, IsCallOf, called, function_kind, keyed_by}
use Rattle.pact_operators.proofs.OwnFields.{body_of-some, names_of-some, owned_at}

-- ---- what the operator of a number emits is the meaning of a call

pub called_is : (p : ProgramData) (inputs : List Bag) (n : ℕ) (x : CallInput) → called (plan_ops p inputs) n x ≡ Out p.fields (body_at p n) x
called_is p inputs n (of_record row) = refl
called_is p inputs n (of_pair left right) = refl
called_is p inputs n (of_group key group) = refl
called_is p inputs n (of_groups key left right) = refl

pub all_called : (p : ProgramData) (inputs : List Bag) (n : ℕ) → called (plan_ops p inputs) n ≡ Out p.fields (body_at p n)
all_called p inputs n = λ i x. called_is p inputs n x i

-- ---- the rows of sources

source_rows : (fields : ℕ) (columns : List Column) (rows : Bag) → AreSourceRows fields columns rows → AllByRecursion (IsWithin fields (λ k. IsColumnField k columns)) rows
source_rows fields columns rows h =
    AllByRecursion-weaker (IsSourceRow fields columns) (IsWithin fields (λ k. IsColumnField k columns)) rows (λ row s. record { width = s.width; null = s.null }) h

no_rows : (fields : ℕ) (s : ℕ → Type 0) (inputs : List Bag) (n : ℕ) → HaveRows fields [] inputs → AllByRecursion (IsWithin fields s) (get_or inputs n [])
no_rows fields s [] n h = tt
no_rows fields s (rows ∷ inputs) n h = absurd h

first_rows : (fields : ℕ) (v : List WithFields) (op : Op) (sources : List Op) (inputs : List Bag) (b : Bool) → is_source_kind op.kind ≡ b → op.kind ≡ Source → HaveRows fields (cond b (op ∷ sources) sources) inputs
    → AllByRecursion (IsWithin fields (OwnsBy op.kind v op)) (get_or inputs 0 [])
first_rows fields v op sources [] true e k h = absurd h
first_rows fields v op sources (rows ∷ inputs) true e k h =
    subst (λ (q : OpKind). AllByRecursion (IsWithin fields (OwnsBy q v op)) rows) (sym k) (source_rows fields op.columns rows h.0)
first_rows fields v op sources inputs false e k h = absurd (both_ways (is_source_kind op.kind) e (ap is_source_kind k))

later_rows : (fields : ℕ) (s : ℕ → Type 0) (op : Op) (sources taken : List Op) (inputs : List Bag) (b : Bool)
    → ((rest : List Bag) → HaveRows fields sources rest → AllByRecursion (IsWithin fields s) (get_or rest (length taken) []))
    → HaveRows fields (cond b (op ∷ sources) sources) inputs → AllByRecursion (IsWithin fields s) (get_or inputs (length (cond b (op ∷ taken) taken)) [])
later_rows fields s op sources taken [] true f h = absurd h
later_rows fields s op sources taken (rows ∷ inputs) true f h = f inputs h.1
later_rows fields s op sources taken inputs false f h = f inputs h

rows_within : (fields : ℕ) (v : List WithFields) (ops : List Op) (inputs : List Bag) (n : ℕ) → HaveRows fields (sources_of ops) inputs → kind_at ops n ≡ Source
    → AllByRecursion (IsWithin fields (Owns v ops n)) (get_or inputs (source_place ops n) [])
rows_within fields v [] inputs n h k = no_rows fields (λ i. ⊥) inputs (source_place [] n) h
rows_within fields v (op ∷ ops) inputs zero h k = first_rows fields v op (sources_of ops) inputs (is_source_kind op.kind) refl k h
rows_within fields v (op ∷ ops) inputs (suc n) h k =
    later_rows fields (Owns v ops n) op (sources_of ops) (sources_of (take n ops)) inputs (is_source_kind op.kind) (λ rest g. rows_within fields v ops rest n g k) h

-- ---- calls

named_is_owned : (v : List WithFields) (op : Op) (kind : OpKind) (k : ℕ) → (kind ≡ Source → ⊥) → FunctionNames v op.function k → OwnsBy kind v op k
named_is_owned v op Source k operator h = absurd (operator refl)
named_is_owned v op Map k operator h = h
named_is_owned v op Reduce k operator h = h
named_is_owned v op Match k operator h = h
named_is_owned v op Cross k operator h = h
named_is_owned v op CoGroup k operator h = h

-- there are as many key values as key fields
key_long : (keys : List ℕ) (key : List Value) (rows : Bag) → 0 < length rows → HaveKey keys key rows → length keys ≤ length key
key_long keys key [] some h = absurd (omega (arith, some))
key_long keys key (row ∷ rows) some h = omega (arith, length-map keys (at_field row), ap length h.0)

key_longs : (keys others : List ℕ) (key : List Value) (ls rs : Bag) (n : ℕ) → length keys ≡ n → length others ≡ n → 0 < length ls + length rs → HaveKey keys key ls → HaveKey others key rs → n ≤ length key
key_longs keys others key [] rs n e f some h j = omega (arith, f, key_long others key rs (omega (arith, some)) j)
key_longs keys others key (l ∷ ls) rs n e f some h j = omega (arith, e, length-map keys (at_field l), ap length h.0)

pub function_kind-for : (kind : OpKind) (f : Kind) → IsKindFor kind f → function_kind kind ≡ f
function_kind-for Source f e = absurd e
function_kind-for Map f e = sym e
function_kind-for Reduce f e = sym e
function_kind-for Match f e = sym e
function_kind-for Cross f e = sym e
function_kind-for CoGroup f e = sym e

width_is : (fields : ℕ) (x : CallInput) → HasSome x → AreWide fields (left_records x) → AreWide fields (right_records x) → HasWidth fields x
width_is fields (of_record row) s h j = h.0
width_is fields (of_pair l r) s h j = (h.0, j.0)
width_is fields (of_group key group) s h j = (s, h)
width_is fields (of_groups key l r) s h j = (h, j)

keys_are : (keys : ℕ) (kind : OpKind) (ks js : List ℕ) (x : CallInput) → HasKeyLists kind keys ks js → IsInputOf (function_kind kind) x → HasSome x → AreKeyed (keyed_by ks js) x → HasKeys keys x
keys_are keys kind ks js (of_record row) e i s h = tt
keys_are keys kind ks js (of_pair l r) e i s h = tt
keys_are keys Reduce ks js (of_group key group) e i s h = omega (arith, e.0, key_long ks key group s h)
keys_are keys CoGroup ks js (of_groups key l r) e i s h = key_longs ks js key l r keys e.0 e.1 s h.0 h.1
keys_are keys kind ks js x e i s h = absurd i

module _ (p : ProgramData) (inputs : List Bag) (program : IsProgram p) where
  -- the fields of the input, and those of the operator
  abbrev Mine : ℕ → CallInput → ℕ → Type 0
  Mine n x k = InputHasValue k x ⊎ Owns p.functions p.ops n k

  operator_calls : (n : ℕ) (op : Op) (x : CallInput) → slice_get p.ops n ≡ Some op → (c : IsCallOf op.kind op.left_keys op.right_keys x) → AreWide p.fields (left_records x) → AreWide p.fields (right_records x)
      → IsOpOf p.fields p.functions op → AllByRecursion (IsWithin p.fields (Mine n x)) (Out p.fields (body_of p.functions op.function) x)
  operator_calls n op x e c h j (inl source) = absurd (c.operator source)
  operator_calls n op x e c h j (inr a) =
      let f = a.called in
      let valid = AllByRecursion-slice_get (λ (w : WithFields). IsValid w.function w.fields) p.functions op.function f program.valid a.function in
      let fields = AllByRecursion-slice_get (λ (w : WithFields). w.fields ≡ p.fields) p.functions op.function f program.functions a.function in
      let body = body_of-some p.functions op.function f a.function in
      let bounded = AreBounded-Out f.function p.fields x (subst (IsValid f.function) fields valid) (subst (λ (q : Kind). IsInputOf q x) (function_kind-for op.kind f.function.kind a.kind) c.called)
      (keys_are f.function.keys op.kind op.left_keys op.right_keys x a.keys c.called c.some c.keyed) (width_is p.fields x c.some h j) in
      subst (λ (q : Code). AllByRecursion (IsWithin p.fields (Mine n x)) (Out p.fields q x)) (sym body)
      (AllByRecursion-weaker (IsBounded p.fields f.function.body x) (IsWithin p.fields (Mine n x)) (Out p.fields f.function.body x)
      (λ row b. record {
        width = b.width;
        null = λ k out. b.null k (λ has. out (inl has)) (λ names. out (inr ((owned_at p.functions p.ops n k op e).1
            (named_is_owned p.functions op op.kind k c.operator
            ((names_of-some p.functions op.function k f a.function).1 (subst (λ (q : ℕ). Names q k f.function.body) (sym fields) names))))));
      }) bounded)

  calls_at : (n : ℕ) (x : CallInput) (found : Option Op) → slice_get p.ops n ≡ found → IsCallOf (kind_in found) (left_keys_in found) (right_keys_in found) x → AreWide p.fields (left_records x)
      → AreWide p.fields (right_records x) → AllByRecursion (IsWithin p.fields (Mine n x)) (Out p.fields (body_of p.functions (function_in found)) x)
  calls_at n x None e c h j = absurd (c.operator refl)
  calls_at n x (Some op) e c h j = operator_calls n op x e c h j (AllByRecursion-slice_get (IsOpOf p.fields p.functions) p.ops n op program.ops e)

  pub are_ops : AreInputsOf p inputs → AreOpsOf p.fields p.functions p.ops (plan_ops p inputs)
  are_ops of_inputs = record {
    rows = λ n k. rows_within p.fields p.functions p.ops inputs n of_inputs k;
    calls = λ n x c h j. subst (AllByRecursion (IsWithin p.fields (Mine n x))) (sym (called_is p inputs n x)) (calls_at n x (slice_get p.ops n) refl c h j);
  }
