-- How many records a source or an operator is expected to emit.
use Rattle.std.specs.Prelude.{◌+◌, ◌*◌, ◌/◌, ◌==◌, ◌&&◌, ℕ, if◌then◌else◌, List, get_or, min, max}
use Rattle.tac_syntax.specs.EmitBounds.{least_emits, most_emits}
use Rattle.tac_syntax.specs.declared.declarations.OpKind.{OpKind}
use Rattle.tac_syntax.specs.declared.declarations.OpKind.TheVariants.{Map, Reduce, Match, Cross, CoGroup}
use Rattle.plan_trees.specs.Plans.{PlanTree, leaf, over, both}
use Rattle.pact_operators.specs.Allowed.{count_of}
use Rattle.pact_operators.specs.PlanOps.{body_at, kind_at}
use Rattle.pact_operators.specs.Programs.{ProgramData}

-- sums and products are capped at the greatest number of 64 bits
abbrev pub plus : ℕ → ℕ → ℕ
plus a b = count_of (a + b)

abbrev pub times : ℕ → ℕ → ℕ
times a b = count_of (a * b)

-- The estimate for a Map, from how many records a call emits, at least and at most: as many as its input for exactly
-- one; half as many, rounded up, for none or one; otherwise `most` times its input, but at most four times.
abbrev pub of_map : (least most : ℕ) → ℕ → ℕ
of_map least most n =
    if (least == 1) && (most == 1) then n else (if (least == 0) && (most == 1) then plus n 1 / 2 else (if most == 0 then 0 else times n (min most 4)))

-- the estimate for an operator of one input: a Reduce is expected to emit one record for every four, rounded up
abbrev pub estimate_over : OpKind → (least most : ℕ) → ℕ → ℕ
estimate_over Map least most n = of_map least most n
estimate_over Reduce least most n = plus n 3 / 4
estimate_over kind least most n = 0

-- the estimate for an operator of two inputs
abbrev pub estimate_both : OpKind → ℕ → ℕ → ℕ
estimate_both Match m n = max m n
estimate_both Cross m n = times m n
estimate_both CoGroup m n = plus m n
estimate_both kind m n = 0

-- the estimate for a tree's root; `counts` has the number of rows of each source, by its number
abbrev pub estimate : ProgramData → List ℕ → PlanTree → ℕ
estimate p counts (leaf n) = get_or counts n 0
estimate p counts (over n t) = estimate_over (kind_at p.ops n) (least_emits (body_at p n)) (most_emits (body_at p n)) (estimate p counts t)
estimate p counts (both n t u) = estimate_both (kind_at p.ops n) (estimate p counts t) (estimate p counts u)
