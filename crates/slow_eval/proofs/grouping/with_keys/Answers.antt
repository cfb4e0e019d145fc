use Rattle.std.proofs.Common.{◌≡◌, ◌+◌, ◌++◌, ◌∷◌, [], List, ap, sym, ◌∙◌, map, take, length, subst}
use Rattle.std.proofs.lemmas.List.{length-map}
use Rattle.std.specs.List.{list_any}
use Rattle.pact_bag.proofs.KeyGroups.{distinct_keys-known, distinct_keys-new}
use Rattle.pact_bag.specs.Groups.{is_same_key}
use Rattle.pact_record.proofs.Lists.{AllByRecursion-last}
use Rattle.pact_record.specs.declared.values.Value.{Value}
use Rattle.pact_record.specs.Record.{at_field, key_of}
use Rattle.pact_record.specs.Widths.{AreWide}
use Rattle.slow_eval.proofs.KnownKeys.{keys-more}
use Rattle.slow_eval.proofs.grouping.with_keys.Goals.{then-not-is_known+in_ok-key+in_ok-push, else-not-is_known}
use Rattle.slow_eval.proofs.grouping.with_keys.Goals as goal

pub loop-row-preserved : goal.loop-row-preserved
loop-row-preserved c =
    let keys = c.args.keys.now in
    let items = c.rows-row-items.result.now in
    let n = c.loop-row.row-index in
    let row = c.row-item.result in
    let key = key_of keys row in
    let found = c.loop-row.all in
    let known = c.is_known.ensures ∙ ap (list_any (λ (other : List Value). is_same_key other key)) c.rows.ensures.rows in
    elim c.if-not-is_known.branch [
      | then-not-is_known+in_ok-key+in_ok-push w ↦ (
        (λ before e. distinct_keys-new (before ++ map (key_of keys) (take n items)) (before ++ map (key_of keys) (take (n + 1) items)) found c.if-not-is_known.all key c.is_known.result
            (keys-more before keys items n row c.loop-row-test.true c.row-item.is) (c.loop-row.invariant.0 before e) known w.if-not-is_known.true
            (w.all-is ∙ w.in_ok-push.ensures.ok ∙ ap (λ (k : List Value). found ++ k ∷ []) w.in_ok-key.ensures)),
        subst (AreWide (length keys)) (sym (w.all-is ∙ w.in_ok-push.ensures.ok))
            (AllByRecursion-last (λ (k : List Value). length k ≡ length keys) found w.in_ok-key.field-0 c.loop-row.invariant.1 (ap length w.in_ok-key.ensures ∙ length-map keys (at_field row))),
      )
      | else-not-is_known w ↦ (
        (λ before e. w.all-is ∙ distinct_keys-known (before ++ map (key_of keys) (take n items)) (before ++ map (key_of keys) (take (n + 1) items)) found key c.is_known.result
            (keys-more before keys items n row c.loop-row-test.true c.row-item.is) (c.loop-row.invariant.0 before e) known w.if-not-is_known.false),
        subst (AreWide (length keys)) (sym w.all-is) c.loop-row.invariant.1,
      )
    ]
