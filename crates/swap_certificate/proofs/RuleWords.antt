-- A word belongs to one rule.
use Rattle.std.proofs.Common.{◌≡◌, ℕ, List, [], ◌∷◌, Option, Some, None, cond, bytes_eq, refl, sym, ap, ◌∙◌}
use Rattle.reorder_pair.specs.declared.rules.Rule.{Rule}
use Rattle.reorder_pair.specs.declared.rules.Rule.TheVariants.{MapMap, MapLeft, MapLeftUp, MapRight, MapRightUp, Rotate, RotateUp, MapReduce, MapReduceUp, MapCoGroupLeft, MapCoGroupLeftUp, MapCoGroupRight, MapCoGroupRightUp, ReduceMatchLeft, ReduceMatchLeftUp, ReduceMatchRight, ReduceMatchRightUp}
use Rattle.reorder_pair.specs.Rules.{all_rules, word_of}

-- the first rule with a word
first_with : List ℕ → List Rule → Option Rule
first_with word [] = None
first_with word (rule ∷ rules) = cond (bytes_eq (word_of rule) word) (Some rule) (first_with word rules)

first_with-word_of : (rule : Rule) → first_with (word_of rule) all_rules ≡ Some rule
unfolding first_with
first_with-word_of MapMap = refl
first_with-word_of MapLeft = refl
first_with-word_of MapLeftUp = refl
first_with-word_of MapRight = refl
first_with-word_of MapRightUp = refl
first_with-word_of Rotate = refl
first_with-word_of RotateUp = refl
first_with-word_of MapReduce = refl
first_with-word_of MapReduceUp = refl
first_with-word_of MapCoGroupLeft = refl
first_with-word_of MapCoGroupLeftUp = refl
first_with-word_of MapCoGroupRight = refl
first_with-word_of MapCoGroupRightUp = refl
first_with-word_of ReduceMatchLeft = refl
first_with-word_of ReduceMatchLeftUp = refl
first_with-word_of ReduceMatchRight = refl
first_with-word_of ReduceMatchRightUp = refl

both_some : {A : Type 0} {x y : A} → Some x ≡ Some y → x ≡ y
both_some e = cc

pub rule_one : (rule other : Rule) → word_of rule ≡ word_of other → rule ≡ other
rule_one rule other e = both_some (sym (first_with-word_of rule) ∙ ap (λ (word : List ℕ). first_with word all_rules) e ∙ first_with-word_of other)
