-- An exchange has only one refusal: the first of its conditions that fails, with the least field that two sets share.
use Rattle.std.proofs.Common.{◌≡◌, ◌≤◌, inl, inr, ℕ, List, [], ◌∷◌, sym, ap, subst, ◌∙◌, arith}
use Rattle.plan_trees.specs.Plans.{PlanTree}
use Rattle.pact_operators.specs.Programs.{ProgramData}
use Rattle.reorder_pair.specs.declared.finding.Found.{Found}
use Rattle.reorder_pair.specs.declared.legality.NotLegal.{NotLegal}
use Rattle.reorder_pair.specs.declared.rules.Rule.{Rule}
use Rattle.reorder_pair.specs.Conditions.{Fails, FirstFails, IsLeastCommon, Line, anchored, keeps_groups, no_common, told}
use Rattle.reorder_pair.specs.Legal.{IsRefusal, lines_at}
use Rattle.reorder_pair.proofs.OneFinding.{found_one, passes_or_fails}
use Rattle.tac_syntax.specs.Contexts.{FieldSet}

least_one : (ours : FieldSet) (theirs : ℕ → Type 0) (k m : ℕ) → IsLeastCommon ours theirs k → IsLeastCommon ours theirs m → k ≡ m
least_one ours theirs k m h g =
    let below : k ≤ m = h.least m g.one g.other in
    let above : m ≤ k = g.least k h.one h.other in
    omega (arith, below, above)

fails_one : (line : Line) (a b : NotLegal) → Fails line a → Fails line b → a ≡ b
fails_one (no_common ours theirs refusal) a b h g = h.2 ∙ ap refusal (least_one ours theirs h.0 g.0 h.1 g.1) ∙ sym g.2
fails_one (anchored holds) a b h g = h.1 ∙ sym g.1
fails_one (keeps_groups mover keys) a b h g = h.1 ∙ sym g.1
fails_one (told holds refusal) a b h g = h.1 ∙ sym g.1

first_fails_one : (lines : List Line) (a b : NotLegal) → FirstFails lines a → FirstFails lines b → a ≡ b
first_fails_one [] a b h g = absurd h
first_fails_one (line ∷ lines) a b (inl h) (inl g) = fails_one line a b h g
first_fails_one (line ∷ lines) a b (inl h) (inr g) = absurd (passes_or_fails line a g.0 h)
first_fails_one (line ∷ lines) a b (inr h) (inl g) = absurd (passes_or_fails line b h.0 g)
first_fails_one (line ∷ lines) a b (inr h) (inr g) = first_fails_one lines a b h.1 g.1

pub refusal_one : (p : ProgramData) (plan : PlanTree) (at : ℕ) (rule : Rule) (a b : NotLegal) → IsRefusal p plan at rule a → IsRefusal p plan at rule b → a ≡ b
refusal_one p plan at rule a b (inl h) (inl g) = h.1 ∙ sym g.1
refusal_one p plan at rule a b (inl h) (inr g) = absurd (h.0 g.2.place)
refusal_one p plan at rule a b (inr h) (inl g) = absurd (g.0 h.2.place)
refusal_one p plan at rule a b (inr h) (inr g) =
    let same = found_one p plan at rule h.0 h.1 g.0 g.1 h.2 g.2 in
    first_fails_one (lines_at p plan at rule g.0 g.1) a b
    (subst (λ (u : Found). FirstFails (lines_at p plan at rule u g.1) a) same.0 (subst (λ (l : Found). FirstFails (lines_at p plan at rule h.0 l) a) same.1 h.3)) g.3
