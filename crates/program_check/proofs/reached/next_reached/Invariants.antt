use Rattle.std.proofs.Common.{◌≡◌, ℕ, suc, map, take}
use Rattle.program_check.specs.RuleTests.{reached_within}
use Rattle.program_check.proofs.reached.next_reached.Given as goal

abbrev pub invariant-loop-decl : goal.invariant-loop-decl
invariant-loop-decl l =
    (n : ℕ) → l.reached ≡ map (reached_within n l.candidate.draft) l.candidate.draft.decls → l.more.items ≡ map (reached_within (suc n) l.candidate.draft) (take l.decl-index l.decl-items)
