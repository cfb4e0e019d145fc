use Rattle.std.proofs.Common.{nat_lt, length, ap, arith}
use Rattle.pact_record.specs.declared.records.TheConstants.{MAX_FIELDS}
use Rattle.program_check.proofs.OpsOfDeclarations.{kept-taken}
use Rattle.program_check.proofs.resolving.small_keys.Goals as goal

pub push-requires-clause-room : goal.push-requires-clause-room
push-requires-clause-room c =
    let few = kept-taken (λ k. nat_lt k MAX_FIELDS) c.args.numbers.now c.loop-number.number-index (omega arith) in
    omega (arith, ap length c.loop-number.invariant, few, c.requires)
