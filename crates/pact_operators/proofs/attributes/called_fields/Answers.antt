use Rattle.std.proofs.lemmas.Bool.{both_ways}
use Rattle.pact_operators.proofs.OwnFields.{got, got_none, names_of-none, names_of-some}
use Rattle.pact_operators.proofs.attributes.called_fields.Goals as goal

pub returns-in-Some : goal.returns-in-Some
returns-in-Some c k =
    let functions = c.args.functions.now in
    let called = c.in-Some.called.now in
    let names = names_of-some functions c.args.number k called (got functions c.args.number called c.in-Some.ensures.lookup.0 c.in-Some.ensures.lookup.1) in
    (λ h. names.1 ((c.named.ensures k).0 h), λ h. (c.named.ensures k).1 (names.0 h))

pub returns-in-None : goal.returns-in-None
returns-in-None c k = (
  λ h. absurd (both_ways _ (c.empty.ensures k) h),
  λ h. absurd (names_of-none c.args.functions.now c.args.number k (got_none c.args.functions.now c.args.number c.in-None.ensures.lookup.0) h),
)
