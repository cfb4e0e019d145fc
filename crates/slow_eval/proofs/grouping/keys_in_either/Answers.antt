use Rattle.std.proofs.Common.{[], map, subst, sym}
use Rattle.std.proofs.lemmas.Result.{IfOk-weaker}
use Rattle.std.specs.List.{AllByRecursion}
use Rattle.pact_bag.proofs.KeyGroups.{distinct_keys_have_either}
use Rattle.pact_record.specs.Record.{key_of}
use Rattle.slow_eval.specs.Keyed.{HasEitherGroup}
use Rattle.slow_eval.proofs.grouping.keys_in_either.Goals as goal

pub returns-clause-keys : goal.returns-clause-keys
returns-clause-keys c = c.with_keys-2.ensures.keys (map (key_of c.args.left_keys.now) c.args.lefts.now) (c.in_ok-found.ensures.keys [] c.new.ensures)

pub returns-clause-groups : goal.returns-clause-groups
returns-clause-groups c =
    let left_keys = c.args.left_keys.now in
    let right_keys = c.args.right_keys.now in
    let ls = c.args.lefts.now in
    let rs = c.args.rights.now in
    IfOk-weaker c.with_keys-2.result _ _ (λ found e. subst (AllByRecursion (HasEitherGroup left_keys right_keys ls rs)) (sym e) (distinct_keys_have_either left_keys right_keys ls rs))
    (c.with_keys-2.ensures.keys (map (key_of left_keys) ls) (c.in_ok-found.ensures.keys [] c.new.ensures))
