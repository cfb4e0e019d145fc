-- Names still differ, and the rows of sources stay the same, if an operator is inserted or calls another function.
use Rattle.std.proofs.Common.{◌≡◌, ◌≢◌, ◌==◌, ℕ, zero, suc, Bool, true, false, cond, inl, inr, List, [], ◌∷◌, ◌++◌, Some, None, length, slice_get, refl, sym, ap, subst, ◌∙◌, append-nil}
use Rattle.std.specs.Prelude.{IsTrue}
use Rattle.std.proofs.lemmas.Bool.{cases_Bool, eqb-true, eqb-false}
use Rattle.std.proofs.lemmas.List.Elements.{filter-append}
use Rattle.std.proofs.lemmas.Option.{same_Some}
use Rattle.pact_record.specs.declared.values.Value.{Value}
use Rattle.plan_trees.specs.Plans.{PlanTree}
use Rattle.tac_syntax.specs.Names.{is_name}
use Rattle.tac_syntax.specs.Valid.{WithFields}
use Rattle.pact_operators.specs.declared.operators.Op.{Op}
use Rattle.pact_operators.specs.Inputs.{AreInputsOf, HaveRows}
use Rattle.pact_operators.specs.Insertions.{calling, inserted_into, replaced_in}
use Rattle.pact_operators.specs.PlanOps.{is_source_kind, sources_of}
use Rattle.pact_operators.specs.Programs.{AreNames, NamesDiffer, ProgramData}
use Rattle.pact_operators.proofs.OneMore.{slice_get-last, slice_get-other}

-- ---- names

pub inserted-NamesDiffer : (ops : List Op) (op : Op) → NamesDiffer ops → ((n : ℕ) (o : Op) → slice_get ops n ≡ Some o → o.name ≢ op.name) → NamesDiffer (ops ++ op ∷ [])
inserted-NamesDiffer ops op differ other m n a b at_m at_n same = elim (cases_Bool (m == length ops)) as (λ _. m ≡ n) [
  | inl e ↦ elim (cases_Bool (n == length ops)) as (λ _. m ≡ n) [
    | inl f ↦ eqb-true m (length ops) e ∙ sym (eqb-true n (length ops) f)
    | inr f ↦ absurd (other n b (old n b f at_n) (sym same ∙ ap (λ (o : Op). o.name) (new m a e at_m)))
  ]
  | inr e ↦ elim (cases_Bool (n == length ops)) as (λ _. m ≡ n) [
    | inl f ↦ absurd (other m a (old m a e at_m) (same ∙ ap (λ (o : Op). o.name) (new n b f at_n)))
    | inr f ↦ differ m n a b (old m a e at_m) (old n b f at_n) same
  ]
] where
  old : (k : ℕ) (o : Op) → (k == length ops) ≡ false → slice_get (ops ++ op ∷ []) k ≡ Some o → slice_get ops k ≡ Some o
  old k o e h = sym (slice_get-other ops op k (eqb-false k (length ops) e)) ∙ h

  new : (k : ℕ) (o : Op) → (k == length ops) ≡ true → slice_get (ops ++ op ∷ []) k ≡ Some o → o ≡ op
  new k o e h = same_Some o op (sym h ∙ ap (slice_get (ops ++ op ∷ [])) (eqb-true k (length ops) e) ∙ slice_get-last ops op)

no_name : (b : Bool) → b ≡ false → IsTrue b → ⊥
no_name true e h = cc
no_name false e h = cc

-- a name that no text can have isn't a name of a text's program
pub unlike_names : (ops : List Op) (name : List ℕ) → AreNames ops → is_name name ≡ false → (n : ℕ) (o : Op) → slice_get ops n ≡ Some o → o.name ≢ name
unlike_names ops name names none n o e same = no_name (is_name name) none (subst (λ (x : List ℕ). IsTrue (is_name x)) same (names n o e))

named_before : (at k : ℕ) (ops : List Op) (m : ℕ) (a : Op) → slice_get (calling at k ops) m ≡ Some a → (o : Op) × (slice_get ops m ≡ Some o) × (o.name ≡ a.name)
named_before at k [] m a e = let bad : None ≡ Some a = e in absurd cc
named_before zero k (op ∷ ops) zero a e = (op, refl, ap (λ (o : Op). o.name) (same_Some (record op { function = k }) a e))
named_before zero k (op ∷ ops) (suc m) a e = (a, e, refl)
named_before (suc at) k (op ∷ ops) zero a e = (a, e, refl)
named_before (suc at) k (op ∷ ops) (suc m) a e = named_before at k ops m a e

pub replaced-NamesDiffer : (at k : ℕ) (ops : List Op) → NamesDiffer ops → NamesDiffer (calling at k ops)
replaced-NamesDiffer at k ops differ m n a b at_m at_n same =
    let x = named_before at k ops m a at_m in
    let y = named_before at k ops n b at_n in
    differ m n x.0 y.0 x.1 y.1 (x.2 ∙ same ∙ sym y.2)

-- ---- rows of sources

sources-more : (ops : List Op) (op : Op) → is_source_kind op.kind ≡ false → sources_of (ops ++ op ∷ []) ≡ sources_of ops
sources-more ops op e = filter-append (λ o. is_source_kind o.kind) ops (op ∷ []) ∙ ap (λ (b : Bool). sources_of ops ++ cond b (op ∷ []) []) e ∙ append-nil (sources_of ops)

sources-calling : (at k : ℕ) (ops : List Op) → ((op : Op) → slice_get ops at ≡ Some op → is_source_kind op.kind ≡ false) → sources_of (calling at k ops) ≡ sources_of ops
sources-calling at k [] h = refl
sources-calling zero k (op ∷ ops) h =
    let e = h op refl in
    ap (λ (b : Bool). cond b (record op { function = k } ∷ sources_of ops) (sources_of ops)) e ∙ sym (ap (λ (b : Bool). cond b (op ∷ sources_of ops) (sources_of ops)) e)
sources-calling (suc at) k (op ∷ ops) h = ap (λ (l : List Op). cond (is_source_kind op.kind) (op ∷ l) l) (sources-calling at k ops h)

pub inserted-inputs : (p : ProgramData) (op : Op) (f : WithFields) (tree : PlanTree) (inputs : List (List (List Value))) → is_source_kind op.kind ≡ false → AreInputsOf p inputs → AreInputsOf (inserted_into p op f tree) inputs
inserted-inputs p op f tree inputs e h = subst (λ (l : List Op). HaveRows p.fields l inputs) (sym (sources-more p.ops (record op { function = length p.functions }) e)) h

pub replaced-inputs : (p : ProgramData) (at : ℕ) (f : WithFields) (inputs : List (List (List Value))) → ((op : Op) → slice_get p.ops at ≡ Some op → is_source_kind op.kind ≡ false) → AreInputsOf p inputs → AreInputsOf (replaced_in p at f) inputs
replaced-inputs p at f inputs none h = subst (λ (l : List Op). HaveRows p.fields l inputs) (sym (sources-calling at (length p.functions) p.ops none)) h
