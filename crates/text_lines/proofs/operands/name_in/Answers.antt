use Rattle.std.proofs.Common.{◌≡◌, ◌≢◌, arith}
use Rattle.text_lines.proofs.FilledSlots.{name_reads, name_told}
use Rattle.text_lines.proofs.operands.name_in.Goals as goal

pub returns-then-from-name : goal.returns-then-from-name
returns-then-from-name c =
    let read = c.in_ok-number.ensures in
    let n = c.in_ok-number.number in
    let same : n ≡ c.args.name = omega arith in
    (read.0, (same, read.1), name_reads c.args.name n c.args.word.now read.0 same read.1.0 read.1.1)

pub returns-else-from-name : goal.returns-else-from-name
returns-else-from-name c =
    let read = c.in_ok-number.ensures in
    let n = c.in_ok-number.number in
    let other : n ≢ c.args.name = omega arith in
    name_told c.args.name n c.args.word.now read.0 other read.1.0 read.1.1
