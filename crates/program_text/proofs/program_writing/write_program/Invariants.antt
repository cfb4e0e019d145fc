use Rattle.std.proofs.Common.{◌≡◌, ◌++◌, flat_map, drop}
use Rattle.std.specs.List.{AllByRecursion}
use Rattle.program_text.specs.ProgramTexts.{decl_spelling, program_spelling, CanWrite}
use Rattle.program_text.proofs.program_writing.write_program.Given as goal

abbrev pub invariant-loop-decl : goal.invariant-loop-decl
invariant-loop-decl l =
    (l.out ++ flat_map (decl_spelling l.functions) (drop l.decl-index l.decl-items) ≡ program_spelling l.draft) × AllByRecursion (CanWrite l.draft.version l.functions) (drop l.decl-index l.decl-items)
