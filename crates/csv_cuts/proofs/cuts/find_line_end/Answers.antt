use Rattle.std.proofs.Common.{◌+◌, ◌<◌, length, arith, refl, take, get_or}
use Rattle.std.proofs.lemmas.Bool.{eqb-true}
use Rattle.csv_cuts.specs.declared.cuts.Place.TheVariants.{FieldStart}
use Rattle.csv_cuts.proofs.Marks.{none_found}
use Rattle.csv_cuts.proofs.Seam.{stays_open}
use Rattle.csv_cuts.proofs.cuts.find_line_end.Goals as goal

pub returns-clause-end : goal.returns-clause-end
returns-clause-end c =
    let text = c.args.text.now in
    let k = c.args.near + c.in_ok-line_feed.line_feed in
    let found = c.in_ok-line_feed.ensures in
    let from_near = c.split_at.ensures in
    let low : c.in_ok-line_feed.line_feed < length c.split_at.result.1.now = found.0.high in
    let within : k < length text = omega (arith, from_near.back_len) in
    let feed = rw (from_near.by_index.2 c.in_ok-line_feed.line_feed 0) at found.1 in
    let none = none_found c.memchr-2.result c.split_at-2.result.0.now c.memchr-2.ensures c.if-is_some.ensures in
    record { inside = within; feed = eqb-true (get_or text k 0) 10 feed; outside = stays_open FieldStart (take k text) (rw c.split_at-2.ensures.front at none) refl }
