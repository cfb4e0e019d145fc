use Rattle.std.proofs.Common.{List, ap}
use Rattle.pact_record.specs.Record.{key_of}
use Rattle.chain_arena.specs.Arenas.{ArenaData}
use Rattle.pact_record.specs.declared.values.Value.{Value}
use Rattle.local_strategy.specs.Grouped.{order_of}
use Rattle.group_table.proofs.GrownBuckets.{grown_index}
use Rattle.group_table.proofs.storing.put_new.Goals as goal

pub returns : goal.returns
returns c =
    let put = c.in_ok-put.ensures in
    let old = c.args.groups.now in
    record {
      keys = put.keys;
      order = put.order;
      index = grown_index c.args.buckets.now c.add.new.self (order_of old.keys old.groups) (order_of c.put.new.self.keys c.put.new.self.groups) (key_of old.keys c.args.row) c.args.hash c.requires.index put.order
          c.requires.hash c.in_ok-add.ensures.heads c.in_ok-add.ensures.nexts;
      rows = put.rows;
      listed = ap (λ (a : ArenaData (List Value)). a.lists) c.in_ok-new_chain.ensures.ok;
    }
