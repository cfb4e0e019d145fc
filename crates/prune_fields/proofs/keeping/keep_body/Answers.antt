use Rattle.std.proofs.Common.{◌≡◌, ◌∙◌, ◌+◌, ℕ, sym, subst, arith}
use Rattle.pact_record.specs.FieldSets.{has_field}
use Rattle.prune_fields.proofs.KeepBodies.{IsBegun, kept_one, dropped_one, ended}
use Rattle.prune_fields.proofs.keeping.keep_body.Goals as goal
use Rattle.prune_fields.proofs.keeping.keep_body.Goals.{then-has+in_ok-put_field, else-has}

pub loop-field-preserved : goal.loop-field-preserved
loop-field-preserved c =
    let s = has_field c.args.kept in
    let n = c.loop-field.field in
    elim c.if-has.branch [
      | then-has+in_ok-put_field w ↦
          subst (IsBegun s c.args.fields (n + 1)) (sym w.body-is)
          (kept_one s c.args.fields n c.loop-field.body w.put_field.new.body c.loop-field.invariant
          (sym c.has.ensures.has ∙ w.if-has.true) w.in_ok-put_field.ensures)
      | else-has w ↦
          subst (IsBegun s c.args.fields (n + 1)) (sym w.body-is)
          (dropped_one s c.args.fields n c.loop-field.body c.loop-field.invariant (sym c.has.ensures.has ∙ w.if-has.false))
    ]

pub returns : goal.returns
returns c =
    let s = has_field c.args.kept in
    let past = c.loop-field-test.false in
    let most = c.loop-field.auto.field-end in
    let end : c.loop-field.field ≡ c.args.fields = omega (arith, past, most) in
    ended s c.args.fields c.loop-field.body c.append-2.new.self
    (subst (λ (n : ℕ). IsBegun s c.args.fields n c.loop-field.body) end c.loop-field.invariant) c.in_ok-append-2.ensures
