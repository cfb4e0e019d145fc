use Rattle.std.proofs.Common.{◌≡◌, map, take}
use Rattle.drill_program.specs.Drill.{with_fields}
use Rattle.drill_program.proofs.programs.seal_all.Given as goal

abbrev pub invariant-loop-function : goal.invariant-loop-function
invariant-loop-function l = l.valids ≡ map (with_fields l.fields) (take l.function-index l.functions)
