use Rattle.std.proofs.Common.{subst}
use Rattle.pact_load.specs.Readings.{ReadsFile}
use Rattle.pact_load.proofs.FilesRead.{file_read}
use Rattle.pact_load.proofs.files.read_file.Goals as goal

pub returns-in-Ok : goal.returns-in-Ok
returns-in-Ok g c =
    subst (λ name. ReadsFile name c.args.limit (g.F.Feed.shows c.args.feed.now) (g.F.Feed.shows c.read_rest.new.feed) c.read_rest.result) c.in_ok-copy.ensures
    (file_read _ _ _ c.in_ok-copy.copy c.args.limit _ c.read_rest.result c.in-Ok.ensures c.read_rest.ensures)
