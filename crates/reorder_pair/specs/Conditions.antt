-- The conditions of an exchange in their order, and the first that fails.
use Rattle.std.specs.Prelude.{◌≡◌, ◌≤◌, ◌⊎◌, ℕ, Bool, true, false, List, [], ◌∷◌, ◌++◌, slice_get}
use Rattle.pact_record.specs.FieldSets.{has_field}
use Rattle.pact_record.specs.Keys.{is_listed}
use Rattle.tac_syntax.specs.Contexts.{FieldSet, Has}
use Rattle.tac_flow.specs.Results.{FoundSets, IsBoundToKeys}
use Rattle.tac_flow.specs.Views.{found_of}
use Rattle.plan_trees.specs.Plans.{PlanTree, both, root_of}
use Rattle.plan_trees.specs.declared.shapes.Shape.{Shape}
use Rattle.plan_trees.specs.declared.shapes.Shape.TheVariants.{OneOverOne, IntoLeft, OutOfLeft, IntoRight, OutOfRight, ToRight, ToLeft}
use Rattle.pact_operators.specs.PlanOps.{left_keys_in, right_keys_in}
use Rattle.pact_operators.specs.Programs.{HasLeftAttribute, HasRightAttribute, ProgramData}
use Rattle.reorder_pair.specs.declared.finding.Found.{Found}
use Rattle.reorder_pair.specs.declared.legality.Clash.TheVariants.{ReadWrite, WriteRead, WriteWrite}
use Rattle.reorder_pair.specs.declared.legality.NotLegal.{NotLegal}
use Rattle.reorder_pair.specs.declared.legality.NotLegal.TheVariants.{Conflict, Side, NotAnchored, KeyGroup, MatchKey, NotUnique}
use Rattle.reorder_pair.specs.declared.rules.Rule.{Rule}
use Rattle.reorder_pair.specs.declared.rules.Rule.TheVariants.{MapReduce, MapReduceUp, MapCoGroupLeft, MapCoGroupLeftUp, MapCoGroupRight, MapCoGroupRightUp, ReduceMatchLeft, ReduceMatchLeftUp, ReduceMatchRight, ReduceMatchRightUp}
use Rattle.reorder_pair.specs.Rules.{exchange_of}
use Rattle.reorder_pair.specs.Unique.{IsUniqueTree}

-- the findings about an operator, apart from how sets are stored
pub record Uses : Type 0 where
  pub sets : FoundSets
  pub touched : FieldSet
  pub low : ℕ
  pub high : ℕ

abbrev pub uses_of : Found → Uses
uses_of s = record { sets = found_of s.sets; touched = has_field s.sets.touched; low = s.lo; high = s.hi }

-- A condition. `no_common`: two sets share no field, and the refusal has the least field that they share. `anchored`: a
-- CoGroup is anchored on the side of the move. `keeps_groups`: the Map that moves keeps the groups of these keys whole.
-- The last one has any other statement, with its refusal.
pub data Line : Type 1 where
  no_common : (ours : FieldSet) → (theirs : ℕ → Type 0) → (refusal : ℕ → NotLegal) → Line
  anchored : (holds : Bool) → Line
  keeps_groups : (mover : Uses) → (keys : List ℕ) → Line
  told : (holds : Type 0) → (refusal : NotLegal) → Line

pub record IsLeastCommon (ours : FieldSet) (theirs : ℕ → Type 0) (k : ℕ) : Type 0 where
  pub one : Has ours k
  pub other : theirs k
  pub least : (i : ℕ) → Has ours i → theirs i → k ≤ i

abbrev pub IsBoundTo : Uses → List ℕ → Type 0
IsBoundTo mover keys = IsBoundToKeys mover.low mover.high mover.sets.control (is_listed keys)

abbrev pub Passes : Line → Type 0
Passes (no_common ours theirs refusal) = (k : ℕ) → Has ours k → theirs k → ⊥
Passes (anchored holds) = holds ≡ true
Passes (keeps_groups mover keys) = IsBoundTo mover keys
Passes (told holds refusal) = holds

abbrev pub Fails : Line → NotLegal → Type 0
Fails (no_common ours theirs refusal) why = (k : ℕ) × IsLeastCommon ours theirs k × (why ≡ refusal k)
Fails (anchored holds) why = (holds ≡ false) × (why ≡ NotAnchored)
Fails (keeps_groups mover keys) why = (IsBoundTo mover keys → ⊥) × (why ≡ KeyGroup)
Fails (told holds refusal) why = (holds → ⊥) × (why ≡ refusal)

-- all conditions hold
abbrev pub AllPass : List Line → Type 0
AllPass [] = Unit {0}
AllPass (line ∷ lines) = Passes line × AllPass lines

-- the first condition that fails, with its refusal
abbrev pub FirstFails : List Line → NotLegal → Type 0
FirstFails [] why = ⊥
FirstFails (line ∷ lines) why = Fails line why ⊎ (Passes line × FirstFails lines why)

-- ---- the table

-- the two operators write a common field, or one writes what the other reads
abbrev pub conflict_lines : Uses → Uses → List Line
conflict_lines upper lower =
    no_common upper.sets.reads (Has lower.sets.writes) (λ k. Conflict ReadWrite k) ∷ no_common upper.sets.writes (Has lower.sets.reads) (λ k. Conflict WriteRead k)
    ∷ no_common upper.sets.writes (Has lower.sets.writes) (λ k. Conflict WriteWrite k) ∷ []

abbrev pub avoids : Uses → (ℕ → Type 0) → Line
avoids mover attributes = no_common mover.touched attributes (λ k. Side k)

-- An operator that moves past an input of another touches none of its fields. This is the input that the other operator
-- has as the root.
abbrev pub side_lines : ProgramData → Shape → PlanTree → PlanTree → Uses → Uses → List Line
side_lines p OneOverOne before after upper lower = []
side_lines p IntoLeft before after upper lower = avoids upper (HasRightAttribute p.functions p.ops after) ∷ []
side_lines p OutOfLeft before after upper lower = avoids lower (HasRightAttribute p.functions p.ops before) ∷ []
side_lines p IntoRight before after upper lower = avoids upper (HasLeftAttribute p.functions p.ops after) ∷ []
side_lines p OutOfRight before after upper lower = avoids lower (HasLeftAttribute p.functions p.ops before) ∷ []
side_lines p ToRight before after upper lower =
    avoids upper (HasLeftAttribute p.functions p.ops after) ∷ avoids lower (HasRightAttribute p.functions p.ops before) ∷ []
side_lines p ToLeft before after upper lower =
    avoids lower (HasLeftAttribute p.functions p.ops before) ∷ avoids upper (HasRightAttribute p.functions p.ops after) ∷ []

-- A Map that moves past a Reduce or a CoGroup keeps the groups whole. `n` and `m` are the numbers of the upper and the
-- lower operator.
abbrev pub group_lines : ProgramData → Rule → ℕ → ℕ → Uses → Uses → List Line
group_lines p MapReduce n m upper lower = keeps_groups upper (left_keys_in (slice_get p.ops m)) ∷ []
group_lines p MapReduceUp n m upper lower = keeps_groups lower (left_keys_in (slice_get p.ops n)) ∷ []
group_lines p MapCoGroupLeft n m upper lower = anchored lower.sets.anchor_left ∷ keeps_groups upper (left_keys_in (slice_get p.ops m)) ∷ []
group_lines p MapCoGroupLeftUp n m upper lower = anchored upper.sets.anchor_left ∷ keeps_groups lower (left_keys_in (slice_get p.ops n)) ∷ []
group_lines p MapCoGroupRight n m upper lower = anchored lower.sets.anchor_right ∷ keeps_groups upper (right_keys_in (slice_get p.ops m)) ∷ []
group_lines p MapCoGroupRightUp n m upper lower = anchored upper.sets.anchor_right ∷ keeps_groups lower (right_keys_in (slice_get p.ops n)) ∷ []
group_lines p rule n m upper lower = []

-- ---- a Reduce past a side of a Match

abbrev pub left_input : PlanTree → PlanTree
left_input (both n t u) = t
left_input tree = tree

abbrev pub right_input : PlanTree → PlanTree
right_input (both n t u) = u
right_input tree = tree

-- The Match's keys on the side of the move are keys of the Reduce. Its other side has each value of its keys there at
-- most once. It emits exactly one record for each pair.
abbrev pub match_lines : ProgramData → (match_keys reduce_keys other_keys : List ℕ) → (other : PlanTree) → (pairing : Uses) → List Line
match_lines p match_keys reduce_keys other_keys other pairing =
    no_common (is_listed match_keys) (λ k. is_listed reduce_keys k ≡ false) (λ k. MatchKey k) ∷ told (IsUniqueTree p other_keys other) NotUnique
    ∷ told ((pairing.low ≡ 1) × (pairing.high ≡ 1)) KeyGroup ∷ []

-- the arguments are the Match's tree and the Reduce's number; the move is to the left side, and below to the right one
abbrev pub match_left_lines : ProgramData → (tree : PlanTree) → (reduce : ℕ) → (pairing : Uses) → List Line
match_left_lines p tree reduce pairing =
    match_lines p (left_keys_in (slice_get p.ops (root_of tree))) (left_keys_in (slice_get p.ops reduce)) (right_keys_in (slice_get p.ops (root_of tree))) (right_input tree) pairing

abbrev pub match_right_lines : ProgramData → (tree : PlanTree) → (reduce : ℕ) → (pairing : Uses) → List Line
match_right_lines p tree reduce pairing =
    match_lines p (right_keys_in (slice_get p.ops (root_of tree))) (left_keys_in (slice_get p.ops reduce)) (left_keys_in (slice_get p.ops (root_of tree))) (left_input tree) pairing

-- the conditions that only this rule has
abbrev pub own_lines : ProgramData → Rule → PlanTree → PlanTree → Uses → Uses → List Line
own_lines p ReduceMatchLeft before after upper lower = match_left_lines p after (root_of before) lower
own_lines p ReduceMatchLeftUp before after upper lower = match_left_lines p before (root_of after) upper
own_lines p ReduceMatchRight before after upper lower = match_right_lines p after (root_of before) lower
own_lines p ReduceMatchRightUp before after upper lower = match_right_lines p before (root_of after) upper
own_lines p rule before after upper lower = group_lines p rule (root_of before) (root_of after) upper lower

-- the conditions that all rules have, for an exchange at the root of a tree
abbrev pub shared_lines : ProgramData → Rule → PlanTree → PlanTree → Uses → Uses → List Line
shared_lines p rule before after upper lower = conflict_lines upper lower ++ side_lines p (exchange_of rule).shape before after upper lower

-- all conditions of the rule
abbrev pub lines : ProgramData → Rule → PlanTree → PlanTree → Uses → Uses → List Line
lines p rule before after upper lower =
    conflict_lines upper lower ++ side_lines p (exchange_of rule).shape before after upper lower ++ own_lines p rule before after upper lower
