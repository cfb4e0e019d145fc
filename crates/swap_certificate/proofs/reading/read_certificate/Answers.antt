use Rattle.std.proofs.lemmas.Result.{IfOk-weaker}
use Rattle.serde_json.specs.View.{view}
use Rattle.swap_certificate.proofs.OneShape.{read_one}
use Rattle.swap_certificate.proofs.reading.read_certificate.Goals as goal

pub returns-in-Ok-clause-only : goal.returns-in-Ok-clause-only
returns-in-Ok-clause-only c =
    IfOk-weaker c.shaped.result _ _ (λ found h other k. read_one c.args.bytes.now (view c.in-Ok.value) found other c.in-Ok.ensures.ok.1 h k) c.shaped.ensures.some
