use Rattle.pact_record.specs.declared.records.TheConstants.{MAX_FIELDS}
use Rattle.pact_operators.proofs.OwnFields.{column-below, column_more}
use Rattle.pact_operators.proofs.attributes.column_fields.Goals as goal

pub with-found-requires : goal.with-found-requires
with-found-requires c = column-below MAX_FIELDS c.args.columns.now c.loop-column.column-index _ c.requires c.loop-column-test.true

pub loop-column-preserved : goal.loop-column-preserved
loop-column-preserved c k =
    column_more c.loop-column.found c.with-found.result k c.args.columns.now c.loop-column.column-index _ c.loop-column-test.true (c.with-found.ensures k) (c.loop-column.invariant k)
