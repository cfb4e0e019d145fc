use Rattle.pact_record.specs.Record.{key_of}
use Rattle.slow_eval.proofs.KnownKeys.{known-here, known-later}
use Rattle.slow_eval.proofs.grouping.is_known.Goals as goal

pub returns-then-has_key : goal.returns-then-has_key
returns-then-has_key c =
    known-here (key_of c.args.keys.now c.args.row.now) c.args.found.now c.loop-key.key-index c.key-item.result c.has_key.result c.loop-key-test.true c.key-item.is c.has_key.ensures c.if-has_key.true c.loop-key.invariant

pub loop-key-preserved : goal.loop-key-preserved
loop-key-preserved c =
    known-later (key_of c.args.keys.now c.args.row.now) c.args.found.now c.loop-key.key-index c.key-item.result c.has_key.result c.loop-key-test.true c.key-item.is c.has_key.ensures c.if-has_key.false c.loop-key.invariant
