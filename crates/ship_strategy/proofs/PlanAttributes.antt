-- The attributes as computed sets are those of the program.
use Rattle.std.proofs.Common.{◌≡◌, ◌==◌, ◌||◌, ◌↔◌, ◌⊎◌, inl, inr, ℕ, zero, suc, Bool, true, false, IsTrue, List, [], ◌∷◌, sym}
use Rattle.std.proofs.lemmas.Bool.{eq-eqb, eqb-true, lt-ltb, ltb-true, or_cases, or_left, or_right, true≢false}
use Rattle.pact_bag.specs.SourceRows.{IsColumnField}
use Rattle.pact_record.specs.declared.columns.Column.{Column}
use Rattle.pact_record.specs.FieldSets.{has_field}
use Rattle.pact_record.proofs.Members.{same_tests}
use Rattle.tac_syntax.specs.Bounded.{Names, NamesField}
use Rattle.tac_syntax.specs.Code.{Simple, load_int, load_text, load_null, move_value, get_field, get_at, get_key, apply_one, apply_two, new_record, copy_record, set_field, set_at, emit_record, Code, stop, plain, branch, again, each}
use Rattle.tac_syntax.specs.Contexts.{Has, IsBelow}
use Rattle.tac_syntax.specs.declared.declarations.OpKind.{OpKind}
use Rattle.tac_syntax.specs.declared.declarations.OpKind.TheVariants.{Source, Map, Reduce, Match, Cross, CoGroup}
use Rattle.tac_syntax.specs.Valid.{WithFields}
use Rattle.plan_trees.specs.Plans.{PlanTree, leaf, over, both, has, subtree_of}
use Rattle.pact_operators.specs.declared.operators.Op.{Op}
use Rattle.pact_operators.specs.Programs.{FunctionNames, HasAttribute, HasLeftAttribute, HasRightAttribute, IsProgram, Owns, OwnsBy, ProgramData}
use Rattle.pact_operators.proofs.BelowFields.{attribute-below}
use Rattle.pact_operators.proofs.PlanContexts.{set-below}
use Rattle.ship_strategy.specs.PlanFacts.{attribute, facts_of, field_named, function_named, is_column, left_attribute, named, owned, owned_by, right_attribute}

-- ---- each test decides what its name says

either_true : (a b : Bool) (A B : Type 0) → ((a ≡ true) ↔ A) → ((b ≡ true) ↔ B) → ((a || b) ≡ true) ↔ (A ⊎ B)
either_true a b A B h g = (
  (λ e. elim (or_cases a b e) as (λ _. A ⊎ B) [ inl x ↦ inl (h.0 x) | inr y ↦ inr (g.0 y) ]),
  (λ s. elim s as (λ _. (a || b) ≡ true) [ inl x ↦ or_left a b (h.1 x) | inr y ↦ or_right a b (g.1 y) ]),
)

never_true : (false ≡ true) ↔ ⊥
never_true = ((λ e. true≢false (sym e)), (λ h. absurd h))

field_named_true : (fields : ℕ) (s : Simple) (k : ℕ) → (field_named fields s k ≡ true) ↔ NamesField fields k s
field_named_true fields (load_int to value) k = never_true
field_named_true fields (load_text to bytes) k = never_true
field_named_true fields (load_null to) k = never_true
field_named_true fields (move_value to from) k = never_true
field_named_true fields (get_field to from field) k = never_true
field_named_true fields (get_at to from at) k = never_true
field_named_true fields (get_key to at) k = never_true
field_named_true fields (apply_one to op a) k = never_true
field_named_true fields (apply_two to op a b) k = never_true
field_named_true fields (new_record to) k = never_true
field_named_true fields (copy_record to from) k = never_true
field_named_true fields (set_field to field value) k = (eqb-true k field, eq-eqb k field)
field_named_true fields (set_at to at value) k = (ltb-true k fields, lt-ltb k fields)
field_named_true fields (emit_record from) k = never_true

named_true : (fields : ℕ) (c : Code) (k : ℕ) → (named fields c k ≡ true) ↔ Names fields k c
named_true fields stop k = never_true
named_true fields (plain s next) k =
    either_true (field_named fields s k) (named fields next k) (NamesField fields k s) (Names fields k next) (field_named_true fields s k) (named_true fields next k)
named_true fields (branch on body other next) k =
    either_true (named fields body k) (named fields other k || named fields next k) (Names fields k body) (Names fields k other ⊎ Names fields k next) (named_true fields body k)
    (either_true (named fields other k) (named fields next k) (Names fields k other) (Names fields k next) (named_true fields other k) (named_true fields next k))
named_true fields (again count body next) k =
    either_true (named fields body k) (named fields next k) (Names fields k body) (Names fields k next) (named_true fields body k) (named_true fields next k)
named_true fields (each name list body next) k =
    either_true (named fields body k) (named fields next k) (Names fields k body) (Names fields k next) (named_true fields body k) (named_true fields next k)

function_true : (v : List WithFields) (n k : ℕ) → (function_named v n k ≡ true) ↔ FunctionNames v n k
function_true [] n k = never_true
function_true (w ∷ v) zero k = named_true w.fields w.function.body k
function_true (w ∷ v) (suc n) k = function_true v n k

column_true : (columns : List Column) (k : ℕ) → (is_column columns k ≡ true) ↔ IsColumnField k columns
column_true [] k = never_true
column_true (c ∷ columns) k = either_true (k == c.field) (is_column columns k) (k ≡ c.field) (IsColumnField k columns) (eqb-true k c.field, eq-eqb k c.field) (column_true columns k)

owned_by_true : (kind : OpKind) (v : List WithFields) (op : Op) (k : ℕ) → (owned_by kind v op k ≡ true) ↔ OwnsBy kind v op k
owned_by_true Source v op k = column_true op.columns k
owned_by_true Map v op k = function_true v op.function k
owned_by_true Reduce v op k = function_true v op.function k
owned_by_true Match v op k = function_true v op.function k
owned_by_true Cross v op k = function_true v op.function k
owned_by_true CoGroup v op k = function_true v op.function k

owned_true : (v : List WithFields) (ops : List Op) (n k : ℕ) → (owned v ops n k ≡ true) ↔ Owns v ops n k
owned_true v [] n k = never_true
owned_true v (op ∷ ops) zero k = owned_by_true op.kind v op k
owned_true v (op ∷ ops) (suc n) k = owned_true v ops n k

attribute_true : (p : ProgramData) (t : PlanTree) (k : ℕ) → (attribute p t k ≡ true) ↔ HasAttribute p.functions p.ops t k
attribute_true p (leaf n) k = owned_true p.functions p.ops n k
attribute_true p (over n t) k =
    either_true (owned p.functions p.ops n k) (attribute p t k) (Owns p.functions p.ops n k) (HasAttribute p.functions p.ops t k) (owned_true p.functions p.ops n k) (attribute_true p t k)
attribute_true p (both n t u) k =
    either_true (owned p.functions p.ops n k) (attribute p t k || attribute p u k) (Owns p.functions p.ops n k) (HasAttribute p.functions p.ops t k ⊎ HasAttribute p.functions p.ops u k)
    (owned_true p.functions p.ops n k)
    (either_true (attribute p t k) (attribute p u k) (HasAttribute p.functions p.ops t k) (HasAttribute p.functions p.ops u k) (attribute_true p t k) (attribute_true p u k))

pub left_true : (p : ProgramData) (t : PlanTree) (k : ℕ) → Has (left_attribute p t) k ↔ HasLeftAttribute p.functions p.ops t k
left_true p (leaf n) k = never_true
left_true p (over n t) k = attribute_true p t k
left_true p (both n t u) k = attribute_true p t k

pub right_true : (p : ProgramData) (t : PlanTree) (k : ℕ) → Has (right_attribute p t) k ↔ HasRightAttribute p.functions p.ops t k
right_true p (leaf n) k = never_true
right_true p (over n t) k = never_true
right_true p (both n t u) k = attribute_true p u k

-- ---- the facts of a plan

pub facts_left : (p : ProgramData) (t : PlanTree) (n k : ℕ) → has n t ≡ true → Has (facts_of p t n).left k ↔ HasLeftAttribute p.functions p.ops (subtree_of n t) k
facts_left p t n k there = rw there (left_true p (subtree_of n t) k)

pub facts_right : (p : ProgramData) (t : PlanTree) (n k : ℕ) → has n t ≡ true → Has (facts_of p t n).right k ↔ HasRightAttribute p.functions p.ops (subtree_of n t) k
facts_right p t n k there = rw there (right_true p (subtree_of n t) k)

-- ---- the fields that a source or an operator owns

pub own_set : (p : ProgramData) (n s : ℕ) → ((k : ℕ) → IsTrue (has_field s k) ↔ HasAttribute p.functions p.ops (leaf n) k) → has_field s ≡ owned p.functions p.ops n
own_set p n s h =
    λ i k. same_tests (has_field s k) (owned p.functions p.ops n k)
    (λ e. (owned_true p.functions p.ops n k).1 ((h k).0 e)) (λ e. (h k).1 ((owned_true p.functions p.ops n k).0 e)) i

pub own_below : (p : ProgramData) (n s : ℕ) → IsProgram p → ((k : ℕ) → IsTrue (has_field s k) ↔ HasAttribute p.functions p.ops (leaf n) k) → IsBelow p.fields (has_field s)
own_below p n s h own =
    set-below p.fields s (λ k e. attribute-below p.fields p.functions p.ops (leaf n) k (record { same = h.functions; valid = h.valid }) h.columns_below ((own k).0 e))
