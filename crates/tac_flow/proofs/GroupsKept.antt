-- What a Map's calls for the records of one group have in common.
use Rattle.std.proofs.Common.{◌≡◌, ◌≤◌, inl, inr, List, length, refl, sym, subst, arith}
use Rattle.pact_record.specs.declared.values.Value.{Value}
use Rattle.tac_syntax.specs.declared.functions.Kind.{Kind}
use Rattle.tac_syntax.specs.declared.functions.Kind.TheVariants.{Map}
use Rattle.tac_syntax.specs.Code.{Code}
use Rattle.tac_syntax.specs.Call.{of_record, Out}
use Rattle.tac_syntax.specs.Contexts.{FieldSet}
use Rattle.tac_syntax.specs.EmitBounds.{least_emits, most_emits}
use Rattle.pact_record.specs.Record.{Agree}
use Rattle.tac_syntax.specs.Forms.{IsLawful, KeepsGroups}
use Rattle.tac_syntax.specs.WellFormed.{IsWellFormed}
use Rattle.tac_syntax.proofs.EmitCounts.{AreBounds-emits}
use Rattle.tac_flow.specs.Steps.{Scope}
use Rattle.tac_flow.specs.Results.{Gathered, IsBoundToKeys, control_in, notes_of, summary, found_by, sets_of}
use Rattle.tac_flow.specs.Views.{ports_in}
use Rattle.tac_flow.proofs.NotesCover.{IsDecided, are_decided, told_count}
use Rattle.tac_flow.proofs.SmallScopes.{IsSmallScope}
use Rattle.tac_flow.proofs.FormOfCalls.{told_of}
use Rattle.tac_flow.proofs.KeysRead.{either_form}
use Rattle.tac_flow.proofs.TwoCalls.{Sub}

module _ (c : Scope) (body : Code) (is : c.kind ≡ Map) (fine : IsWellFormed c.kind c.fields 0 body) (small : IsSmallScope c) where
  lawful : (row : List Value) → IsLawful Map c.fields (ports_in c) (of_record row) → IsLawful c.kind c.fields (ports_in c) (of_record row)
  lawful row h = subst (λ (k : Kind). IsLawful k c.fields (ports_in c) (of_record row)) (sym is) h

  at_most_one : most_emits body ≤ 1 → (row : List Value) → IsLawful Map c.fields (ports_in c) (of_record row) → length (Out c.fields body (of_record row)) ≤ 1
  at_most_one high row h = let p = (AreBounds-emits c.kind c.fields body fine).most (omega (arith, high)) (of_record row) in omega (arith, p, high)

  same_count : (keys : FieldSet) → Sub (control_in (notes_of c body)) keys → (a b : List Value) → IsLawful Map c.fields (ports_in c) (of_record a) → IsLawful Map c.fields (ports_in c) (of_record b) → Agree keys a b
      → length (Out c.fields body (of_record a)) ≡ length (Out c.fields body (of_record b))
  same_count keys sub a b ha hb e =
      told_of c body fine small keys (of_record a) (of_record b) (lawful a ha) (lawful b hb) (record { left = (e, tt); right = tt }) (IsDecided keys) (λ rs qs. length rs ≡ length qs)
      (λ calls. told_count keys c (of_record a) (of_record b)) (are_decided keys (notes_of c body) sub) refl

  exactly_one : least_emits body ≡ 1 → most_emits body ≡ 1 → (row : List Value) → IsLawful Map c.fields (ports_in c) (of_record row) → length (Out c.fields body (of_record row)) ≡ 1
  exactly_one low high row h =
      let own = lawful row h in
      let p = (AreBounds-emits c.kind c.fields body fine).least (of_record row) own.called own.some in
      let q = at_most_one (omega (arith, high)) row h in
      omega (arith, p, q, low)

  keeps_groups : (keys : FieldSet) → IsBoundToKeys (least_emits body) (most_emits body) (control_in (notes_of c body)) keys → KeepsGroups c.fields (ports_in c) keys (Out c.fields body)
  keeps_groups keys (inl p) = record { few = at_most_one (omega (arith, p.1)); decided = inl (exactly_one p.0 p.1) }
  keeps_groups keys (inr p) = record { few = at_most_one p.0; decided = inr (same_count keys p.1) }

-- The control set of a function is that of its notes.
control_is : (kind : Kind) (c : Scope) (g : Gathered) → (found_by kind c g).control ≡ g.control
control_is kind c g = either_form (λ s. s.control ≡ g.control) kind c g (λ l r. refl) refl

pub groups_of : (c : Scope) (body : Code) → IsWellFormed c.kind c.fields 0 body → IsSmallScope c → c.kind ≡ Map → (keys : FieldSet)
    → IsBoundToKeys (least_emits body) (most_emits body) (sets_of c body).control keys → KeepsGroups c.fields (ports_in c) keys (Out c.fields body)
groups_of c body fine small is keys h =
    let same = control_is c.kind c (summary c.fields (notes_of c body)) in
    keeps_groups c body is fine small keys (subst (λ (s : FieldSet). IsBoundToKeys (least_emits body) (most_emits body) s keys) same h)
