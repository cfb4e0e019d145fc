use Rattle.std.proofs.Common.{List, ℕ, subst}
use Rattle.std.proofs.lemmas.Result.{on_ok_weaker}
use Rattle.pact_record.specs.Record.{key_of}
use Rattle.local_strategy.specs.Grouped.{IsFound, order_of}
use Rattle.group_table.proofs.StoredRows.{added_behind, added_new}
use Rattle.group_table.proofs.storing.put.Goals as goal

pub returns-in-Some : goal.returns-in-Some
returns-in-Some c =
    let old = c.args.groups.now in
    let found = subst (IsFound (order_of old.keys old.groups) (key_of old.keys c.args.row)) c.in-Some.is
    (subst (λ (ks : List ℕ). IsFound (order_of old.keys old.groups) (key_of ks c.args.row) c.find.result) c.keys-keys.ensures c.find.ensures) in
    on_ok_weaker c.put_behind.result
    (λ e. added_behind c.args.row old c.args.lists.now.lists c.put_behind.new.lists.lists c.args.buckets.now c.in-Some.n c.requires.index c.requires.behind found c.requires.wide c.requires.below e) c.put_behind.ensures

pub returns-in-None : goal.returns-in-None
returns-in-None c =
    on_ok_weaker c.put_new.result
    (λ g. added_new c.args.row c.args.groups.now c.put_new.new.groups c.args.lists.now.lists c.put_new.new.lists.lists c.put_new.new.buckets c.requires.behind c.requires.wide g) c.put_new.ensures
