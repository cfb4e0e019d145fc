-- Which operators are sources, and how many inputs an operator takes, by its number.
use Rattle.std.proofs.Common.{◌≡◌, ℕ, true, false, Option, List, refl, ap, ◌∙◌, arith}
use Rattle.std.proofs.lemmas.Bool.{both_ways}
use Rattle.tac_syntax.specs.declared.declarations.OpKind.{OpKind}
use Rattle.tac_syntax.specs.declared.declarations.OpKind.TheVariants.{Source}
use Rattle.pact_operators.specs.declared.operators.Op.{Op}
use Rattle.pact_operators.specs.PlanOps.{is_source_kind, kind_at, kind_in}
use Rattle.pact_operators.specs.Programs.{Takes, takes}

-- ---- kinds

pub source_kind : (kind : OpKind) → is_source_kind kind ≡ true → kind ≡ Source
source_kind Source h = refl
source_kind kind h = absurd cc

pub no_source : (kind : OpKind) → is_source_kind kind ≡ false → kind ≡ Source → ⊥
no_source kind f e = both_ways (is_source_kind kind) f (ap is_source_kind e)

takes_none : (kind : OpKind) → takes kind ≡ 0 → kind ≡ Source
takes_none Source h = refl
takes_none kind h = absurd (omega (arith, h))

-- ---- the operator of a number

pub takes_at : (ops : List Op) (n count : ℕ) → Takes ops n count → takes (kind_at ops n) ≡ count
takes_at ops n count t = ap (λ (o : Option Op). takes (kind_in o)) t.1 ∙ t.2

pub is_source : (ops : List Op) (n : ℕ) → Takes ops n 0 → kind_at ops n ≡ Source
is_source ops n t = takes_none (kind_at ops n) (takes_at ops n 0 t)
