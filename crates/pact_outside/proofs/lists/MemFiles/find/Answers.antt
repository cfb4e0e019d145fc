use Rattle.std.proofs.Common.{◌≡◌, arith, bytes_eq, ◌∙◌, sym, true, false, add-one}
use Rattle.pact_outside.proofs.NamedFiles.{file_named_here, file_named_further}
use Rattle.pact_outside.proofs.lists.MemFiles.find.Goals as goal

pub returns-then-eq-clause-first : goal.returns-then-eq-clause-first
returns-then-eq-clause-first c =
    let named : bytes_eq c.file-item.result.name c.args.name.now ≡ true = cc in
    let here = file_named_here c.deref-file-items.result.now c.loop-place.place c.file-item.result c.args.name.now (omega arith) c.file-item.is named in
    cc

pub loop-place-preserved : goal.loop-place-preserved
loop-place-preserved c =
    let other : bytes_eq c.file-item.result.name c.args.name.now ≡ false = cc in
    let further = file_named_further c.deref-file-items.result.now c.loop-place.place c.file-item.result c.args.name.now (omega arith) c.file-item.is other in
    rw add-one (sym further ∙ c.loop-place.invariant)
