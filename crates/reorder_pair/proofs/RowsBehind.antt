-- Rows that are added after those of a table of findings.
use Rattle.std.proofs.Common.{◌≡◌, ◌++◌, ◌∷◌, [], inl, inr, List, length, take, drop, take-append-drop, append_assoc, refl, sym, ap, ◌∙◌}
use Rattle.reorder_pair.specs.declared.finding.Found.{Found}
use Rattle.reorder_pair.specs.declared.findings.OperatorIn.{OperatorIn}
use Rattle.reorder_pair.specs.FindingTable.{BeginsWith, Keeps}

front : (old more : List (OperatorIn × Found)) → take (length old) (old ++ more) ≡ old
front [] more = refl
front (row ∷ old) more = ap (λ (rest : List (OperatorIn × Found)). row ∷ rest) (front old more)

behind : (old new : List (OperatorIn × Found)) → BeginsWith old new → new ≡ old ++ drop (length old) new
behind old new h = sym (take-append-drop (length old) new) ∙ ap (λ (rows : List (OperatorIn × Found)). rows ++ drop (length old) new) h

begins-by : (old new more : List (OperatorIn × Found)) → new ≡ old ++ more → BeginsWith old new
begins-by old new more e = ap (λ (rows : List (OperatorIn × Found)). take (length old) rows) e ∙ front old more

pub begins-same : (old middle new : List (OperatorIn × Found)) → BeginsWith old middle → new ≡ middle → BeginsWith old new
begins-same old middle new h e = ap (λ (rows : List (OperatorIn × Found)). take (length old) rows) e ∙ h

-- after one more row, or none, the old rows are still the first ones
pub begins-keeps : (placed : OperatorIn) (s : Found) (old middle new : List (OperatorIn × Found)) → BeginsWith old middle → Keeps placed s middle new → BeginsWith old new
begins-keeps placed s old middle new h (inl k) = begins-same old middle new h k.1
begins-keeps placed s old middle new h (inr k) =
    let more = drop (length old) middle in
    begins-by old new (more ++ (placed, s) ∷ []) (k.1 ∙ ap (λ (rows : List (OperatorIn × Found)). rows ++ (placed, s) ∷ []) (behind old middle h) ∙ append_assoc old more ((placed, s) ∷ []))

pub begins-itself : (old : List (OperatorIn × Found)) → BeginsWith old old
begins-itself [] = refl
begins-itself (row ∷ old) = ap (λ (rest : List (OperatorIn × Found)). row ∷ rest) (begins-itself old)
