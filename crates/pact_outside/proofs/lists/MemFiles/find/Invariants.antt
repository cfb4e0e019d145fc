use Rattle.std.proofs.Common.{◌≡◌, drop}
use Rattle.pact_outside.specs.Outside.{file_named}
use Rattle.pact_outside.proofs.lists.MemFiles.find.Given as goal

abbrev pub invariant-loop-place : goal.invariant-loop-place
invariant-loop-place l = file_named (drop l.place l.file-items) l.name ≡ file_named l.self l.name
