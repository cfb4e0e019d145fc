use Rattle.std.proofs.Common.{[], subst, sym}
use Rattle.std.proofs.lemmas.Result.{IfOk-weaker}
use Rattle.std.specs.List.{AllByRecursion}
use Rattle.pact_bag.proofs.KeyGroups.{distinct_keys_have_groups}
use Rattle.slow_eval.specs.Keyed.{HasGroup}
use Rattle.slow_eval.proofs.grouping.keys_in.Goals as goal

pub returns-clause-keys : goal.returns-clause-keys
returns-clause-keys c = c.with_keys.ensures.keys [] c.new.ensures

pub returns-clause-groups : goal.returns-clause-groups
returns-clause-groups c =
    let keys = c.args.keys.now in
    let rows = c.args.rows.now in
    IfOk-weaker c.with_keys.result _ _ (λ found e. subst (AllByRecursion (HasGroup keys rows)) (sym e) (distinct_keys_have_groups keys rows))
    (c.with_keys.ensures.keys [] c.new.ensures)
