-- What an operator of a program calls, and what it then emits.
use Rattle.std.proofs.Common.{◌≡◌, ◌<◌, ℕ, suc, Bool, List, length, get_or, slice_get, ap, sym, ◌∙◌, subst, arith}
use Rattle.std.specs.Prelude.{flat_map}
use Rattle.std.proofs.lemmas.Option.{slice_get_within}
use Rattle.tac_syntax.specs.declared.declarations.OpKind.{OpKind}
use Rattle.tac_syntax.specs.declared.declarations.OpKind.TheVariants.{Source, Map, Reduce, Match, Cross, CoGroup}
use Rattle.pact_operators.specs.declared.operators.Op.{Op}
use Rattle.pact_operators.specs.Allowed.{Bag, CoGrouped, Gives, GivesBoth, Grouped, keys_in, keys_in_either}
use Rattle.pact_bag.specs.Pairs.{crossed, matched}
use Rattle.pact_operators.specs.PlanOps.{body_at, kind_at, kind_in, left_keys_in, plan_ops, right_keys_in}
use Rattle.pact_operators.specs.Programs.{IsProgram, ProgramData, Takes, nulls_match, takes}
use Rattle.tac_syntax.specs.Call.{Out, of_group, of_groups, of_pair, of_record}
use Rattle.tac_syntax.specs.Code.{Code}
use Rattle.tac_syntax.specs.Valid.{WithFields}
use Rattle.pact_operators.proofs.CalledFunctions.{IsCalled, is_called}
use Rattle.pact_operators.proofs.SourceKinds.{takes_at}

-- ---- operators and their functions

is_operator : (ops : List Op) (at count : ℕ) → Takes ops at (suc count) → kind_at ops at ≡ Source → ⊥
is_operator ops at count t source = let none : takes Source ≡ suc count = sym (ap takes source) ∙ takes_at ops at (suc count) t in omega (arith, none)

pub at_below : (p : ProgramData) (at count : ℕ) → Takes p.ops at count → at < length p.ops
at_below p at count t = slice_get_within p.ops at t.0 t.1

pub called_from : (p : ProgramData) (at count : ℕ) (ops : List Op) (functions : List WithFields) (op : Op) (v : WithFields) → IsProgram p → ops ≡ p.ops → functions ≡ p.functions → Takes p.ops at (suc count)
    → op ≡ get_or ops at op → v ≡ get_or functions op.function v → IsCalled p at op v
called_from p at count ops functions op v keeps o f t e g =
    is_called p keeps at op (is_operator p.ops at count t) (subst (λ (l : List Op). op ≡ get_or l at op) o e) v (subst (λ (l : List WithFields). v ≡ get_or l op.function v) f g)

-- ---- what they emit

kind_is : (p : ProgramData) (at : ℕ) (op : Op) (v : WithFields) (kind : OpKind) → IsCalled p at op v → op.kind ≡ kind → kind ≡ kind_at p.ops at
kind_is p at op v kind h k = sym k ∙ sym (ap kind_in h.found)

pub gives_map : (p : ProgramData) (inputs : List Bag) (at : ℕ) (op : Op) (v : WithFields) (ls out : Bag) → IsCalled p at op v → op.kind ≡ Map
    → out ≡ flat_map (λ row. Out v.fields v.function.body (of_record row)) ls → Gives (plan_ops p inputs) (kind_at p.ops at) at ls out
gives_map p inputs at op v ls out h k e =
    subst (λ (kind : OpKind). Gives (plan_ops p inputs) kind at ls out) (kind_is p at op v Map h k) (e ∙ (λ i. flat_map (λ row. Out (h.fields i) (h.body i) (of_record row)) ls))

pub gives_reduce : (p : ProgramData) (inputs : List Bag) (at : ℕ) (op : Op) (v : WithFields) (ls out : Bag) → IsCalled p at op v → op.kind ≡ Reduce
    → Grouped (λ key group. Out v.fields v.function.body (of_group key group)) op.left_keys ls (keys_in op.left_keys ls) out → Gives (plan_ops p inputs) (kind_at p.ops at) at ls out
gives_reduce p inputs at op v ls out h k g =
    let keys : op.left_keys ≡ left_keys_in (slice_get p.ops at) = sym (ap left_keys_in h.found) in
    subst (λ (kind : OpKind). Gives (plan_ops p inputs) kind at ls out) (kind_is p at op v Reduce h k)
    (subst (λ (ks : List ℕ). Grouped (λ key group. Out p.fields (body_at p at) (of_group key group)) ks ls (keys_in ks ls) out) keys
    (subst (λ (n : ℕ). Grouped (λ key group. Out n (body_at p at) (of_group key group)) op.left_keys ls (keys_in op.left_keys ls) out) h.fields
    (subst (λ (body : Code). Grouped (λ key group. Out v.fields body (of_group key group)) op.left_keys ls (keys_in op.left_keys ls) out) h.body g)))

pub gives_match : (p : ProgramData) (inputs : List Bag) (nulls : Bool) (at : ℕ) (op : Op) (v : WithFields) (ls rs out : Bag) → nulls ≡ nulls_match p → IsCalled p at op v → op.kind ≡ Match
    → out ≡ crossed (matched nulls (λ l r. Out v.fields v.function.body (of_pair l r)) op.left_keys op.right_keys) ls rs → GivesBoth (plan_ops p inputs) (kind_at p.ops at) at ls rs out
gives_match p inputs nulls at op v ls rs out n h k e =
    let left : op.left_keys ≡ left_keys_in (slice_get p.ops at) = sym (ap left_keys_in h.found) in
    let right : op.right_keys ≡ right_keys_in (slice_get p.ops at) = sym (ap right_keys_in h.found) in
    subst (λ (kind : OpKind). GivesBoth (plan_ops p inputs) kind at ls rs out) (kind_is p at op v Match h k)
    (e ∙ (λ i. crossed (matched (n i) (λ l r. Out (h.fields i) (h.body i) (of_pair l r)) (left i) (right i)) ls rs))

pub gives_cross : (p : ProgramData) (inputs : List Bag) (at : ℕ) (op : Op) (v : WithFields) (ls rs out : Bag) → IsCalled p at op v → op.kind ≡ Cross
    → out ≡ crossed (λ l r. Out v.fields v.function.body (of_pair l r)) ls rs → GivesBoth (plan_ops p inputs) (kind_at p.ops at) at ls rs out
gives_cross p inputs at op v ls rs out h k e =
    subst (λ (kind : OpKind). GivesBoth (plan_ops p inputs) kind at ls rs out) (kind_is p at op v Cross h k) (e ∙ (λ i. crossed (λ l r. Out (h.fields i) (h.body i) (of_pair l r)) ls rs))

pub gives_cogroup : (p : ProgramData) (inputs : List Bag) (at : ℕ) (op : Op) (v : WithFields) (ls rs out : Bag) → IsCalled p at op v → op.kind ≡ CoGroup
    → CoGrouped (λ key left right. Out v.fields v.function.body (of_groups key left right)) op.left_keys op.right_keys ls rs (keys_in_either op.left_keys op.right_keys ls rs) out
    → GivesBoth (plan_ops p inputs) (kind_at p.ops at) at ls rs out
gives_cogroup p inputs at op v ls rs out h k g =
    let left : op.left_keys ≡ left_keys_in (slice_get p.ops at) = sym (ap left_keys_in h.found) in
    let right : op.right_keys ≡ right_keys_in (slice_get p.ops at) = sym (ap right_keys_in h.found) in
    subst (λ (kind : OpKind). GivesBoth (plan_ops p inputs) kind at ls rs out) (kind_is p at op v CoGroup h k)
    (subst (λ (ks : List ℕ). CoGrouped (λ key l r. Out p.fields (body_at p at) (of_groups key l r)) (left_keys_in (slice_get p.ops at)) ks ls rs (keys_in_either (left_keys_in (slice_get p.ops at)) ks ls rs) out) right
    (subst (λ (ks : List ℕ). CoGrouped (λ key l r. Out p.fields (body_at p at) (of_groups key l r)) ks op.right_keys ls rs (keys_in_either ks op.right_keys ls rs) out) left
    (subst (λ (n : ℕ). CoGrouped (λ key l r. Out n (body_at p at) (of_groups key l r)) op.left_keys op.right_keys ls rs (keys_in_either op.left_keys op.right_keys ls rs) out) h.fields
    (subst (λ (body : Code). CoGrouped (λ key l r. Out v.fields body (of_groups key l r)) op.left_keys op.right_keys ls rs (keys_in_either op.left_keys op.right_keys ls rs) out) h.body g))))
