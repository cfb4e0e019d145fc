-- Each rule is at its place among all rules, so a word that differs from each of theirs belongs to no rule.
use Rattle.std.proofs.Common.{◌≡◌, ◌<◌, ◌≤◌, ◌+◌, inl, inr, ℕ, true, false, nat_eq, List, [], ◌∷◌, get_or, slice_get, Some, refl, sym, ap, subst, ◌∙◌, arith}
use Rattle.std.proofs.lemmas.Bool.{cases_lt}
use Rattle.std.proofs.lemmas.Option.{slice_get-get_or}
use Rattle.std.specs.Cmp.Lexicographic.{pointwise}
use Rattle.reorder_pair.specs.declared.rules.Rule.{Rule}
use Rattle.reorder_pair.specs.declared.rules.Rule.TheVariants.{MapMap, MapLeft, MapLeftUp, MapRight, MapRightUp, Rotate, RotateUp, MapReduce, MapReduceUp, MapCoGroupLeft, MapCoGroupLeftUp, MapCoGroupRight, MapCoGroupRightUp, ReduceMatchLeft, ReduceMatchLeftUp, ReduceMatchRight, ReduceMatchRightUp}
use Rattle.reorder_pair.specs.declared.rules.TheConstants.{RULES}
use Rattle.reorder_pair.specs.Rules.{all_rules, word_of}

abbrev pub place_of : Rule → ℕ
place_of MapMap = 0
place_of MapLeft = 1
place_of MapLeftUp = 2
place_of MapRight = 3
place_of MapRightUp = 4
place_of Rotate = 5
place_of RotateUp = 6
place_of MapReduce = 7
place_of MapReduceUp = 8
place_of MapCoGroupLeft = 9
place_of MapCoGroupLeftUp = 10
place_of MapCoGroupRight = 11
place_of MapCoGroupRightUp = 12
place_of ReduceMatchLeft = 13
place_of ReduceMatchLeftUp = 14
place_of ReduceMatchRight = 15
place_of ReduceMatchRightUp = 16

place_of-below : (rule : Rule) → place_of rule < 17
place_of-below MapMap = omega arith
place_of-below MapLeft = omega arith
place_of-below MapLeftUp = omega arith
place_of-below MapRight = omega arith
place_of-below MapRightUp = omega arith
place_of-below Rotate = omega arith
place_of-below RotateUp = omega arith
place_of-below MapReduce = omega arith
place_of-below MapReduceUp = omega arith
place_of-below MapCoGroupLeft = omega arith
place_of-below MapCoGroupLeftUp = omega arith
place_of-below MapCoGroupRight = omega arith
place_of-below MapCoGroupRightUp = omega arith
place_of-below ReduceMatchLeft = omega arith
place_of-below ReduceMatchLeftUp = omega arith
place_of-below ReduceMatchRight = omega arith
place_of-below ReduceMatchRightUp = omega arith

at_place : (rule d : Rule) → get_or RULES (place_of rule) d ≡ rule
at_place MapMap d = refl
at_place MapLeft d = refl
at_place MapLeftUp d = refl
at_place MapRight d = refl
at_place MapRightUp d = refl
at_place Rotate d = refl
at_place RotateUp d = refl
at_place MapReduce d = refl
at_place MapReduceUp d = refl
at_place MapCoGroupLeft d = refl
at_place MapCoGroupLeftUp d = refl
at_place MapCoGroupRight d = refl
at_place MapCoGroupRightUp d = refl
at_place ReduceMatchLeft d = refl
at_place ReduceMatchLeftUp d = refl
at_place ReduceMatchRight d = refl
at_place ReduceMatchRightUp d = refl

pub all_rules-place_of : (rule : Rule) → slice_get all_rules (place_of rule) ≡ Some rule
all_rules-place_of rule = slice_get-get_or all_rules (place_of rule) rule (place_of-below rule) ∙ ap Some (at_place rule rule)

itself : (n : ℕ) → nat_eq n n ≡ true
itself n = grind arith

pointwise-itself : (a : List ℕ) → pointwise nat_eq a a ≡ true
pointwise-itself [] = refl
pointwise-itself (x ∷ a) = rw (itself x) (pointwise-itself a)

pub other_word : (a b : List ℕ) → false ≡ pointwise nat_eq a b → a ≡ b → ⊥
other_word a b differ same = let e = differ ∙ ap (λ (l : List ℕ). pointwise nat_eq a l) (sym same) ∙ pointwise-itself a in cc

-- none of the rules before place n has the word
abbrev pub AreOthers : List ℕ → ℕ → Type 0
AreOthers word n = (rule : Rule) → place_of rule < n → word_of rule ≡ word → ⊥

pub others_next : (word : List ℕ) (n : ℕ) (found d : Rule) → found ≡ get_or RULES n d → (word_of found ≡ word → ⊥) → AreOthers word n → AreOthers word (n + 1)
others_next word n found d is other h rule below same = elim (cases_lt (place_of rule) n) as (λ _. ⊥) [
  | inl lt ↦ h rule lt same
  | inr above ↦
      let e : place_of rule ≡ n = omega (arith, below, above) in
      other (subst (λ (r : Rule). word_of r ≡ word) (sym (is ∙ subst (λ (m : ℕ). get_or RULES m d ≡ rule) e (at_place rule d))) same)
]

pub others_all : (word : List ℕ) (n : ℕ) → 17 ≤ n → AreOthers word n → (rule : Rule) → word_of rule ≡ word → ⊥
others_all word n end h rule same = h rule (below n end) same where
  below : (n : ℕ) → 17 ≤ n → place_of rule < n
  below n end = let lt = place_of-below rule in omega (arith, lt, end)
