-- The function that keeps the fields of a set is valid, and names only fields of the set.
use Rattle.std.proofs.Common.{◌≡◌, ◌<◌, ◌≤◌, ◌+◌, ◌*◌, ℕ, Bool, true, false, inl, inr, if◌then◌else◌, nat_le, List, [], ◌∷◌, Option, Some, None, length, refl, sym, subst, arith}
use Rattle.std.specs.List.{AllByRecursion}
use Rattle.std.proofs.lemmas.Bool.Decides.{nat_tests}
use Rattle.pact_record.specs.declared.records.TheConstants.{MAX_FIELDS}
use Rattle.tac_syntax.specs.declared.functions.Kind.TheVariants as kinds
use Rattle.tac_syntax.specs.declared.rules.Rule.{Rule}
use Rattle.tac_syntax.specs.declared.rules.Rule.TheVariants.{Registers, Operands, Fields, KeyPositions, NestedIfs, NestedLoops, Statements, Repeats}
use Rattle.tac_syntax.specs.declared.statements.Rec.TheVariants.{Input}
use Rattle.tac_syntax.specs.Bounded.{Names}
use Rattle.tac_syntax.specs.Code.{Simple, simple, get_field, set_field, new_record, emit_record}
use Rattle.tac_syntax.specs.Contexts.{FieldSet}
use Rattle.tac_syntax.specs.Limits.{statement_limit}
use Rattle.tac_syntax.specs.Places.{Place, placed}
use Rattle.tac_syntax.specs.Rules.{breaks, no_register, misses_operand, no_field, no_key_position}
use Rattle.tac_syntax.specs.Valid.{IsValid, first_break_from}
use Rattle.prune_fields.specs.KeepFunctions.{keep_body, keep_function, kept_fields, members}
use Rattle.prune_fields.proofs.Members.{members-below, members-few, members-in}

abbrev place_of_map : ℕ → Place
place_of_map F = record { kind = kinds.Map; keys = 0; fields = F; ifs = 0; loops = 0; lists = 0; repeats = 1 }

low : (n bound : ℕ) → n < bound → nat_le bound n ≡ false
low n bound h = grind (arith, nat_tests)

-- a statement of one line breaks no rule if it breaks none of these four
fine : (rule : Rule) (F n : ℕ) (s : Simple) → no_register s ≡ false → misses_operand (place_of_map F) s ≡ false → no_field (place_of_map F) s ≡ false
    → no_key_position (place_of_map F) s ≡ false → n < statement_limit
    → breaks rule n (place_of_map F) (simple s) ≡ false
fine Registers F n s a b c d h = a
fine Operands F n s a b c d h = b
fine Fields F n s a b c d h = c
fine KeyPositions F n s a b c d h = d
fine NestedIfs F n s a b c d h = refl
fine NestedLoops F n s a b c d h = refl
fine Statements F n s a b c d h = low n statement_limit h
fine Repeats F n s a b c d h = refl

then_none : (b : Bool) (n : ℕ) (rest : Option ℕ) → b ≡ false → rest ≡ None → (if b then Some n else rest) ≡ None
then_none true n rest e f = cc
then_none false n rest e f = f

kept_fine : (rule : Rule) (F n : ℕ) (ks : List ℕ) → AllByRecursion (λ k. k < F) ks → n + 2 * length ks + 1 ≤ statement_limit
    → first_break_from rule n (placed (place_of_map F) (kept_fields ks)) ≡ None
kept_fine rule F n [] below few =
    then_none (breaks rule n (place_of_map F) (simple (emit_record 0))) n None
    (fine rule F n (emit_record 0) refl refl refl refl (omega (arith, few))) refl
kept_fine rule F n (k ∷ ks) below few =
    let P = place_of_map F in
    let rest = kept_fine rule F (n + 1 + 1) ks below.1 (omega (arith, few)) in
    then_none (breaks rule n P (simple (get_field 0 Input k))) n _
    (fine rule F n (get_field 0 Input k) refl refl (low k F below.0) refl (omega (arith, few)))
    (then_none (breaks rule (n + 1) P (simple (set_field 0 k 0))) (n + 1) _
    (fine rule F (n + 1) (set_field 0 k 0) refl refl (low k F below.0) refl (omega (arith, few))) rest)

-- ---- the function

pub keep_valid : (number F : ℕ) (s : FieldSet) → 1 ≤ F → F ≤ MAX_FIELDS → IsValid (keep_function number F s).function F
keep_valid number F s some few = record {
  some_field = some;
  few_fields = few;
  keeps = λ rule.
      let short = members-few s 0 F in
      then_none (breaks rule 0 (place_of_map F) (simple (new_record 0))) 0 _ (fine rule F 0 (new_record 0) refl refl refl refl (omega arith))
      (kept_fine rule F 1 (members F s) (members-below s 0 F F (omega arith)) (omega (arith, short, few)));
}

-- ---- the fields that it names

kept_names : (P : ℕ → Type 0) (F : ℕ) (ks : List ℕ) → AllByRecursion P ks → (k : ℕ) → Names F k (kept_fields ks) → P k
kept_names P F [] h k (inl i) = elim i [ ]
kept_names P F [] h k (inr i) = elim i [ ]
kept_names P F (j ∷ ks) h k (inl i) = elim i [ ]
kept_names P F (j ∷ ks) h k (inr (inl e)) = subst P (sym e) h.0
kept_names P F (j ∷ ks) h k (inr (inr i)) = kept_names P F ks h.1 k i

-- it names only fields of the set
pub keep_names : (F : ℕ) (s : FieldSet) (k : ℕ) → Names F k (keep_body F s) → s k ≡ true
keep_names F s k (inl i) = elim i [ ]
keep_names F s k (inr i) = kept_names (λ j. s j ≡ true) F (members F s) (members-in s 0 F) k i
