-- A draft declares at most one program.
use Rattle.std.proofs.Common.{◌≡◌, List, sym, ◌∙◌}
use Rattle.tac_syntax.specs.Valid.{WithFields}
use Rattle.tac_syntax.specs.Drafts.{DraftData}
use Rattle.pact_operators.specs.Programs.{IsProgramOf, ProgramData}
use Rattle.pact_operators.proofs.OnePlan.{same_plan}

pub one_program : (d : DraftData) (v : List WithFields) (p q : ProgramData) → IsProgramOf d v p → IsProgramOf d v q → p ≡ q
one_program d v p q h k =
    let version = h.version ∙ sym k.version in
    let fields = h.fields ∙ sym k.fields in
    let functions = h.functions ∙ sym k.functions in
    let ops = h.ops ∙ sym k.ops in
    let plan = same_plan d p.plan q.plan h.plan k.plan in
    let sink = h.sink ∙ sym k.sink in
    (λ i. record { version = version i; fields = fields i; functions = functions i; ops = ops i; plan = plan i; sink = sink i })
