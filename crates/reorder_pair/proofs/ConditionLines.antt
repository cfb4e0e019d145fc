-- Conditions over sets of fields mean the same over attributes; and lists of conditions one after another.
use Rattle.std.proofs.Common.{◌≡◌, ◌↔◌, inl, inr, ℕ, List, [], ◌∷◌, ◌++◌, subst}
use Rattle.pact_record.specs.FieldSets.{has_field}
use Rattle.tac_syntax.specs.Contexts.{FieldSet, Has}
use Rattle.plan_trees.specs.Plans.{PlanTree, root_of, subtree_of}
use Rattle.plan_trees.proofs.SubtreesOfPlans.{subtree_of-root}
use Rattle.reorder_pair.specs.declared.legality.NotLegal.{NotLegal}
use Rattle.reorder_pair.specs.Conditions.{AllPass, FirstFails, IsLeastCommon, Line}

-- the attributes of a root's input, given as a set that was found for the root
pub at_root : (set : ℕ) (attributes : PlanTree → ℕ → Type 0) (n : ℕ) (t : PlanTree) → n ≡ root_of t → ((k : ℕ) → Has (has_field set) k ↔ attributes (subtree_of n t) k) → (k : ℕ) → Has (has_field set) k ↔ attributes t k
at_root set attributes n t e h =
    subst (λ (u : PlanTree). (k : ℕ) → Has (has_field set) k ↔ attributes u k) (subtree_of-root t)
    (subst (λ (m : ℕ). (k : ℕ) → Has (has_field set) k ↔ attributes (subtree_of m t) k) e h)

pub IsLeastCommon-of : (ours : FieldSet) (set : ℕ) (attributes : ℕ → Type 0) (k : ℕ) → ((i : ℕ) → Has (has_field set) i ↔ attributes i) → IsLeastCommon ours (Has (has_field set)) k → IsLeastCommon ours attributes k
IsLeastCommon-of ours set attributes k same h = record { one = h.one; other = (same k).0 h.other; least = λ i a b. h.least i a ((same i).1 b) }

-- ---- one list after another

pub FirstFails-left : (one two : List Line) (why : NotLegal) → FirstFails one why → FirstFails (one ++ two) why
FirstFails-left [] two why f = absurd f
FirstFails-left (line ∷ one) two why (inl f) = inl f
FirstFails-left (line ∷ one) two why (inr f) = inr (f.0, FirstFails-left one two why f.1)

pub FirstFails-right : (one two : List Line) (why : NotLegal) → AllPass one → FirstFails two why → FirstFails (one ++ two) why
FirstFails-right [] two why p f = f
FirstFails-right (line ∷ one) two why p f = inr (p.0, FirstFails-right one two why p.1 f)

pub AllPass-append : (one two : List Line) → AllPass one → AllPass two → AllPass (one ++ two)
AllPass-append [] two p q = q
AllPass-append (line ∷ one) two p q = (p.0, AllPass-append one two p.1 q)

pub AllPass-left : (one two : List Line) → AllPass (one ++ two) → AllPass one
AllPass-left [] two p = tt
AllPass-left (line ∷ one) two p = (p.0, AllPass-left one two p.1)
