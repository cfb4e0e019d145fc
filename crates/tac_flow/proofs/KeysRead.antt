-- Keys are read.
use Rattle.std.proofs.Common.{◌<◌, ◌==◌, ℕ, Bool, true, false, List, [], ◌∷◌, refl}
use Rattle.std.specs.List.{AllByRecursion}
use Rattle.std.proofs.lemmas.Bool.{or_left, or_right, lt-ltb, eq-eqb}
use Rattle.pact_record.specs.Keys.{is_listed}
use Rattle.tac_syntax.specs.declared.functions.Kind.{Kind}
use Rattle.tac_syntax.specs.declared.functions.Kind.TheVariants.{Map, Match, Cross, Reduce, CoGroup}
use Rattle.tac_syntax.specs.Code.{Code}
use Rattle.tac_syntax.specs.Contexts.{FieldSet, Has}
use Rattle.tac_flow.specs.Known.{fields_below}
use Rattle.tac_flow.specs.Steps.{Scope}
use Rattle.tac_flow.specs.Results.{Gathered, FoundSets, anchored, by_anchors, found_by, summary, notes_of, sets_of}
use Rattle.tac_flow.proofs.SmallScopes.{IsSmallScope}
use Rattle.tac_flow.proofs.TwoCalls.{Sub}

-- what holds for both forms of the sets holds for the sets
pub either_form : (P : FoundSets → Type 0) (kind : Kind) (c : Scope) (g : Gathered) → ((l r : Bool) → P (anchored l r c g)) → P (by_anchors false false c g) → P (found_by kind c g)
either_form P Map c g h n = h false false
either_form P Match c g h n = h false false
either_form P Cross c g h n = h false false
either_form P Reduce c g h n = h false false
either_form P CoGroup c g h n = cases g.all_left g.all_right where
  cases : (l r : Bool) → P (by_anchors l r c g)
  cases false false = n
  cases true r = h true r
  cases false true = h false true

-- all fields of a list are in a set that contains the list
listed : (s : FieldSet) (ks : List ℕ) → Sub (is_listed ks) s → AllByRecursion (Has s) ks
listed s [] h = tt
listed s (k ∷ ks) h = (h k (or_left (k == k) (is_listed ks k) (eq-eqb k k refl)), listed s ks (λ j m. h j (or_right (j == k) (is_listed ks j) m)))

below : (n : ℕ) (ks : List ℕ) → AllByRecursion (λ k. k < n) ks → AllByRecursion (Has (fields_below n)) ks
below n [] h = tt
below n (k ∷ ks) h = (lt-ltb k n h.0, below n ks h.1)

module _ (c : Scope) (body : Code) (small : IsSmallScope c) where
  pub left_keys_read : AllByRecursion (Has (sets_of c body).reads) c.left_keys
  left_keys_read = either_form (λ s. AllByRecursion (Has s.reads) c.left_keys) c.kind c (summary c.fields (notes_of c body))
      (λ l r. listed (anchored l r c (summary c.fields (notes_of c body))).reads c.left_keys (λ k m. or_left _ _ (or_left _ _ (or_right _ _ m)))) (below c.fields c.left_keys small.left_keys)

  pub right_keys_read : AllByRecursion (Has (sets_of c body).reads) c.right_keys
  right_keys_read = either_form (λ s. AllByRecursion (Has s.reads) c.right_keys) c.kind c (summary c.fields (notes_of c body))
      (λ l r. listed (anchored l r c (summary c.fields (notes_of c body))).reads c.right_keys (λ k m. or_left _ _ (or_right _ _ m))) (below c.fields c.right_keys small.right_keys)
