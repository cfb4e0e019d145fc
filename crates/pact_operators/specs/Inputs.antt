-- The rows of a program's sources.
use Rattle.std.specs.Prelude.{ℕ, List, [], ◌∷◌}
use Rattle.pact_bag.specs.SourceRows.{AreSourceRows}
use Rattle.pact_record.specs.declared.values.Value.{Value}
use Rattle.pact_operators.specs.declared.operators.Op.{Op}
use Rattle.pact_operators.specs.PlanOps.{sources_of}
use Rattle.pact_operators.specs.Programs.{ProgramData}

-- each source has its rows
abbrev pub HaveRows : ℕ → List Op → List (List (List Value)) → Type 0
HaveRows fields [] [] = Unit {0}
HaveRows fields (source ∷ sources) (rows ∷ inputs) = AreSourceRows fields source.columns rows × HaveRows fields sources inputs
HaveRows fields sources inputs = ⊥

-- the rows of each source, in the order of the sources' numbers
abbrev pub AreInputsOf : ProgramData → List (List (List Value)) → Type 0
AreInputsOf p inputs = HaveRows p.fields (sources_of p.ops) inputs
