use Rattle.std.proofs.lemmas.Bool.{both_ways}
use Rattle.pact_record.specs.declared.records.TheConstants.{MAX_FIELDS}
use Rattle.pact_operators.proofs.OwnFields.{columns-below, got, got_none, none_owned, owned_at}
use Rattle.pact_operators.proofs.attributes.own_fields.Goals as goal

pub fields_of-requires : goal.fields_of-requires
fields_of-requires c =
    let ops = c.args.ops.now in
    let op = c.in-Some.op.now in
    columns-below MAX_FIELDS ops c.args.at op c.requires (got ops c.args.at op c.in-Some.ensures.lookup.0 c.in-Some.ensures.lookup.1)

pub returns-in-Some : goal.returns-in-Some
returns-in-Some c k =
    let ops = c.args.ops.now in
    let op = c.in-Some.op.now in
    let owned = owned_at c.args.functions.now ops c.args.at k op (got ops c.args.at op c.in-Some.ensures.lookup.0 c.in-Some.ensures.lookup.1) in
    (λ h. owned.1 ((c.fields_of.ensures k).0 h), λ h. (c.fields_of.ensures k).1 (owned.0 h))

pub returns-in-None : goal.returns-in-None
returns-in-None c k = (
  λ h. absurd (both_ways _ (c.empty.ensures k) h),
  λ h. absurd (none_owned c.args.functions.now c.args.ops.now c.args.at k (got_none c.args.ops.now c.args.at c.in-None.ensures.lookup.0) h),
)
