use Rattle.std.proofs.lemmas.Result.{IfOk-weaker}
use Rattle.prune_fields.proofs.KeepBodies.{field_put}
use Rattle.prune_fields.proofs.keeping.put_field.Goals as goal

pub returns : goal.returns
returns c =
    IfOk-weaker c.append-2.result _ _
    (λ r h. field_put c.args.field c.args.body.now c.append.new.self c.append-2.new.self c.in_ok-append.ensures h) c.append-2.ensures
