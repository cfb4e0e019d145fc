-- A source by its name, as a loop goes over all operators.
use Rattle.std.proofs.Common.{◌≡◌, ◌<◌, ◌≤◌, ◌+◌, ◌&&◌, ℕ, nat_lt, Bool, true, false, List, Err, length, get_or, bytes_eq, refl, sym, ap, subst, ◌∙◌, arith}
use Rattle.std.proofs.lemmas.Option.{same_Some, slice_get_read, slice_get_within}
use Rattle.std.proofs.lemmas.Slice.Eq.{bytes_eq-Decides}
use Rattle.pact_operators.specs.declared.operators.Op.{Op}
use Rattle.pact_operators.specs.PlanOps.{is_source_kind}
use Rattle.pact_operators.specs.Programs.{ProgramData}
use Rattle.pact_load.specs.NamedSources.{IsSourceNamed, LacksSource}
use Rattle.pact_load.specs.declared.refusals.Refusal.{Refusal}
use Rattle.pact_load.specs.declared.refusals.Refusal.TheVariants.{OutOfMemory, Usage, CannotRead, CannotWrite, Decided}
use Rattle.pact_load.specs.Answers.{Decides, Says}
use Rattle.pact_load.specs.RefusalLines.{unnamed_line}
use Rattle.pact_load.specs.Loading.{source_named}

both_true : (a b : Bool) → (a && b) ≡ true → (a ≡ true) × (b ≡ true)
both_true true true e = (refl, refl)
both_true true false e = absurd cc
both_true false b e = absurd cc

-- no operator before this number is a source of this name
abbrev pub AreOthers : List Op → List ℕ → ℕ → Type 0
AreOthers ops name at = (n : ℕ) → n < at → IsSourceNamed ops name n → ⊥

module _ (ops : List Op) (name : List ℕ) (at : ℕ) (op : Op) (test : Bool) (less : at < length ops) (is : op ≡ get_or ops at op) (e : test ≡ (is_source_kind op.kind && bytes_eq name op.name)) where
  pub named_here : test ≡ true → IsSourceNamed ops name at
  named_here t =
      let both = both_true (is_source_kind op.kind) (bytes_eq name op.name) (sym e ∙ t) in
      record { source = op; there = slice_get_read ops (length ops) at op refl less is; kind = both.0; named = sym ((bytes_eq-Decides name op.name).0 both.1) }

  not_here : test ≡ false → IsSourceNamed ops name at → ⊥
  not_here f h =
      let same : h.source ≡ op = same_Some h.source op (sym h.there ∙ slice_get_read ops (length ops) at op refl less is) in
      let kind : is_source_kind op.kind ≡ true = ap (λ (o : Op). is_source_kind o.kind) (sym same) ∙ h.kind in
      let named : bytes_eq name op.name ≡ true = (bytes_eq-Decides name op.name).1 (sym h.named ∙ ap (λ (o : Op). o.name) same) in
      let both : (is_source_kind op.kind && bytes_eq name op.name) ≡ true = λ i. kind i && named i in
      let wrong : false ≡ true = sym f ∙ e ∙ both in
      absurd cc

  pub named_not : test ≡ false → AreOthers ops name at → AreOthers ops name (at + 1)
  named_not f before n below h = by_test (nat_lt n at) refl
    where
      by_test : (b : Bool) → nat_lt n at ≡ b → ⊥
      by_test true g = before n (grind (arith, g)) h
      by_test false g = not_here f (subst (IsSourceNamed ops name) {x = n} {y = at} (grind (arith, g, below)) h)

pub none_named : (ops : List Op) (name : List ℕ) (at : ℕ) → length ops ≤ at → AreOthers ops name at → (n : ℕ) → IsSourceNamed ops name n → ⊥
none_named ops name at over before n h =
    let within = slice_get_within ops n h.source h.there in
    before n (omega (arith, within, over)) h

-- ---- none

-- the refusal if no source has the name
pub unnamed-Decides : (p : ProgramData) (name : List ℕ) (r : Refusal) → LacksSource p.ops name → Says 6 (unnamed_line name) r → Decides (source_named p name) (Err r)
unnamed-Decides p name OutOfMemory lacks h = tt
unnamed-Decides p name Usage lacks h = absurd h
unnamed-Decides p name (CannotRead other) lacks h = absurd h
unnamed-Decides p name CannotWrite lacks h = absurd h
unnamed-Decides p name (Decided status line) lacks h = (refl, (lacks, h.0, h.1))
