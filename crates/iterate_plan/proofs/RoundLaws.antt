-- One more round, and the rows that it begins with.
use Rattle.std.proofs.Common.{◌≡◌, ◌<◌, ◌++◌, ℕ, zero, suc, List, [], ◌∷◌, Some, slice_get, slice_set, length, refl, sym, subst, arith}
use Rattle.std.proofs.lemmas.Option.{none-some, same_Some}
use Rattle.pact_record.specs.declared.columns.Column.{Column}
use Rattle.pact_record.specs.Widths.{AreWide}
use Rattle.pact_bag.specs.SourceRows.{AreSourceRows}
use Rattle.pact_operators.specs.declared.operators.Op.{Op}
use Rattle.pact_operators.specs.Allowed.{Bag}
use Rattle.pact_operators.specs.Inputs.{AreInputsOf, HaveRows}
use Rattle.pact_operators.specs.PlanOps.{plan_ops, sources_of}
use Rattle.pact_operators.specs.Programs.{HasAttribute, IsProgram, ProgramData}
use Rattle.pact_operators.proofs.LawfulBags.{all_wide, lawful_bags}
use Rattle.pact_operators.proofs.SoundPrograms.{are_ops}
use Rattle.iterate_plan.specs.Rounds.{AllowsOn, AreRounds, IsSourceAt, IsStable, NoneStable, cut_to, rows_behind, with_rows}
use Rattle.iterate_plan.proofs.CutRows.{cut_are_source_rows}

-- ---- one more round

pub rounds-last : (p : ProgramData) (inputs : List Bag) (at : ℕ) (columns : List Column) (now front : List Bag) (bag next : Bag)
    → AreRounds p inputs at columns now (front ++ bag ∷ []) → AllowsOn p (with_rows inputs at (cut_to columns bag)) next
    → AreRounds p inputs at columns now ((front ++ bag ∷ []) ++ next ∷ [])
rounds-last p inputs at columns now [] bag next h a = (h.0, (a, tt))
rounds-last p inputs at columns now (b ∷ front) bag next h a =
    (h.0, rounds-last p inputs at columns (with_rows inputs at (cut_to columns b)) front bag next h.1 a)

pub unstable-last : (columns : List Column) (rows : Bag) (front : List Bag) (bag : Bag) → NoneStable columns rows front
    → (IsStable columns (rows_behind columns rows front) bag → ⊥) → NoneStable columns rows (front ++ bag ∷ [])
unstable-last columns rows [] bag h n = (n, tt)
unstable-last columns rows (b ∷ front) bag h n = (h.0, unstable-last columns (cut_to columns b) front bag h.1 n)

pub behind-last : (columns : List Column) (rows : Bag) (front : List Bag) (bag : Bag)
    → rows_behind columns rows (front ++ bag ∷ []) ≡ cut_to columns bag
behind-last columns rows [] bag = refl
behind-last columns rows (b ∷ front) bag = behind-last columns (cut_to columns b) front bag

-- ---- rows that replace others

-- a source's place among the sources is one among their rows
pub place-below : (fields : ℕ) (sources : List Op) (inputs : List Bag) (at : ℕ) (source : Op) → HaveRows fields sources inputs
    → slice_get sources at ≡ Some source → at < length inputs
place-below fields [] inputs at source h e = absurd (none-some source e)
place-below fields (s ∷ sources) [] at source h e = absurd h
place-below fields (s ∷ sources) (z ∷ zs) zero source h e = omega arith
place-below fields (s ∷ sources) (z ∷ zs) (suc at) source h e =
    let below = place-below fields sources zs at source h.1 e in
    omega (arith, below)

-- the sources still have rows that fit them if one of them gets other rows that fit it
have-set : (fields : ℕ) (sources : List Op) (inputs : List Bag) (at : ℕ) (source : Op) (rows : Bag) → HaveRows fields sources inputs
    → slice_get sources at ≡ Some source → AreSourceRows fields source.columns rows → HaveRows fields sources (slice_set inputs at rows)
have-set fields [] inputs at source rows h e r = absurd (none-some source e)
have-set fields (s ∷ sources) [] at source rows h e r = absurd h
have-set fields (s ∷ sources) (z ∷ zs) zero source rows h e r =
    (subst (λ (o : Op). AreSourceRows fields o.columns rows) (sym (same_Some s source e)) r, h.1)
have-set fields (s ∷ sources) (z ∷ zs) (suc at) source rows h e r = (h.0, have-set fields sources zs at source rows h.1 e r)

-- ---- the rows that the next round begins with

allowed_wide : (p : ProgramData) (inputs : List Bag) (bag : Bag) → IsProgram p → AreInputsOf p inputs → AllowsOn p inputs bag → AreWide p.fields bag
allowed_wide p inputs bag program h a =
    let within = lawful_bags p.fields p.functions p.ops (plan_ops p inputs) (are_ops p inputs program h) p.plan bag a in
    all_wide p.fields (HasAttribute p.functions p.ops p.plan) bag within

-- an allowed bag, cut to a source's columns, may be the source's rows
pub next_inputs : (p : ProgramData) (now : List Bag) (at : ℕ) (columns : List Column) (bag : Bag) → IsProgram p → AreInputsOf p now
    → IsSourceAt p at columns → AllowsOn p now bag → AreInputsOf p (with_rows now at (cut_to columns bag))
next_inputs p now at columns bag program h s a =
    let rows = cut_are_source_rows p.fields columns bag (allowed_wide p now bag program h a) in
    have-set p.fields (sources_of p.ops) now at s.0 (cut_to columns bag) h s.1
    (subst (λ (cs : List Column). AreSourceRows p.fields cs (cut_to columns bag)) (sym s.2) rows)

-- the last bag of rounds has the program's width
module _ (p : ProgramData) (inputs : List Bag) (at : ℕ) (columns : List Column) (program : IsProgram p) (own : AreInputsOf p inputs) (source : IsSourceAt p at columns) where
  later_inputs : (now : List Bag) (bag : Bag) → AreInputsOf p now → AllowsOn p now bag → AreInputsOf p (with_rows inputs at (cut_to columns bag))
  later_inputs now bag h a =
      have-set p.fields (sources_of p.ops) inputs at source.0 (cut_to columns bag) own source.1
      (subst (λ (cs : List Column). AreSourceRows p.fields cs (cut_to columns bag)) (sym source.2)
      (cut_are_source_rows p.fields columns bag (allowed_wide p now bag program h a)))

  pub last_wide : (now front : List Bag) (last : Bag) → AreInputsOf p now → AreRounds p inputs at columns now (front ++ last ∷ []) → AreWide p.fields last
  last_wide now [] last h a = allowed_wide p now last program h a.0
  last_wide now (bag ∷ front) last h a = last_wide (with_rows inputs at (cut_to columns bag)) front last (later_inputs now bag h a.0) a.1
