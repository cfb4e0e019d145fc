use Rattle.std.proofs.Common.{rules}
use Rattle.std.proofs.lemmas.Result.{on_ok_weaker}
use Rattle.flow_instance.proofs.NotesForReceivers.{none_few}
use Rattle.flow_instance.proofs.OnOkTogether.{on_ok_two}
use Rattle.pact_bag.proofs.Widths.{HaveOneWidth-append}
use Rattle.flow_instance.specs.States.{part_of}
use Rattle.flow_instance.proofs.RowsSentOrPlaced.{given_placed, given_sent, orderly_given}
use Rattle.flow_instance.proofs.states.State.give.Goals as goal

pub append-requires : goal.append-requires
append-requires g c = HaveOneWidth-append c.args.self.now.part.fields c.args.self.now.placed c.args.rows c.requires.placed_wide c.requires.wide

pub returns-in_default : goal.returns-in_default
returns-in_default g c =
    let s = c.args.self.now in
    let p = part_of s.part in
    on_ok_weaker c.append.result (λ e.
    let sent = given_placed p c.args.rows s.placed c.append.new.self s.queue.items c.in_default.is c.requires.none c.requires.wide c.requires.placed_wide e in
    record {
      same = search rules;
      counted = search rules;
      sent = sent;
      orderly = orderly_given p c.args.rows s.placed c.append.new.self s.queue.items sent;
      batches = none_few s.part.batch s.queue.items c.requires.none;
    })
    c.append.ensures.ok

pub returns : goal.returns
returns g c =
    let s = c.args.self.now in
    let p = part_of s.part in
    let queue = c.queue_rows.new.queue.items in
    on_ok_two c.queue_rows.result (λ parts batches.
    let sent = given_sent p c.in-Some.ship c.args.rows s.placed queue c.in-Some.is c.requires.at_root c.requires.placed_wide (parts s.part.fields c.requires.wide) in
    record {
      same = search rules;
      counted = search rules;
      sent = sent;
      orderly = orderly_given p c.args.rows s.placed s.placed queue sent;
      batches = batches;
    })
    c.queue_rows.ensures.sent c.queue_rows.ensures.batches
