-- The lines of operators, with one more at the end.
use Rattle.std.proofs.Common.{◌≡◌, ◌<◌, ◌+◌, ◌++◌, ℕ, List, [], ◌∷◌, get_or, length, take, length-take-le, refl, ap, subst, sym, ◌∙◌, append_assoc, append-nil, arith}
use Rattle.std.proofs.lemmas.List.{take_more}
use Rattle.pact_operators.specs.declared.operators.Op.{Op}
use Rattle.pact_operators.specs.Programs.{IsProgram, ProgramData}
use Rattle.plan_trees.specs.Plans.{IsPlan, PlanTree, node_limit}
use Rattle.plan_trees.proofs.Ships.{below_limit}
use Rattle.plan_printer.specs.SetsText.{AreLinesFrom, IsLineOf}

AreLinesFrom-last : (p : ProgramData) (ops : List Op) (n m : ℕ) (op : Op) (text line : List ℕ) → n + length ops ≡ m → AreLinesFrom p n ops text → IsLineOf p m op.kind op line
    → AreLinesFrom p n (ops ++ op ∷ []) (text ++ line)
AreLinesFrom-last p [] n m op text line e h k =
    (line, [], subst (λ (j : ℕ). IsLineOf p j op.kind op line) (omega (arith, e)) k, refl, ap (λ (t : List ℕ). t ++ line) h ∙ sym (append-nil line))
AreLinesFrom-last p (first ∷ ops) n m op text line e h k =
    (h.0, h.1 ++ line, h.2, AreLinesFrom-last p ops (n + 1) m op h.1 line (omega (arith, e)) h.3 k, ap (λ (t : List ℕ). t ++ line) h.4 ∙ append_assoc h.0 h.1 line)

pub lines-more : (p : ProgramData) (ops : List Op) (n : ℕ) (op : Op) (text line : List ℕ) → n < length ops → op ≡ get_or ops n op → AreLinesFrom p 0 (take n ops) text
    → IsLineOf p n op.kind op line → AreLinesFrom p 0 (take (n + 1) ops) (text ++ line)
lines-more p ops n op text line lt e h k =
    let next : take (n + 1) ops ≡ take n ops ++ op ∷ [] = take_more ops n op lt ∙ ap (λ (x : Op). take n ops ++ x ∷ []) (sym e) in
    subst (λ (front : List Op). AreLinesFrom p 0 front (text ++ line)) (sym next)
    (AreLinesFrom-last p (take n ops) 0 n op text line (omega (arith, length-take-le n ops (omega (arith, lt)))) h k)

-- the numbers of sources and operators are small, since each is in the plan
pub small_number : (p : ProgramData) (plan : PlanTree) (ops : List Op) (n : ℕ) → IsProgram p → plan ≡ p.plan → IsPlan plan → ops ≡ p.ops → n < length ops → n < node_limit
small_number p plan ops n program same is_plan e lt = below_limit n p.plan (subst IsPlan same is_plan) (program.plan.all n (omega (arith, lt, ap length e)))
