-- The halves that were built are those of the function, so the law holds for them.
use Rattle.std.proofs.Common.{◌≡◌, ◌≤◌, ◌<◌, ◌+◌, ℕ, Bool, List, [], ◌∷◌, Some, ap, sym, subst, ◌∙◌}
use Rattle.std.specs.List.{AllByRecursion}
use Rattle.tac_syntax.specs.declared.functions.Function.{Function}
use Rattle.tac_syntax.specs.declared.functions.Kind.{Kind}
use Rattle.tac_syntax.specs.declared.statements.LoopList.TheVariants.{Group}
use Rattle.tac_syntax.specs.declared.statements.Stmt.{Stmt}
use Rattle.tac_syntax.specs.Code.{Code, each, joined, nesting}
use Rattle.tac_syntax.specs.Limits.{nesting_limit}
use Rattle.tac_syntax.specs.Trees.{code_of}
use Rattle.tac_syntax.specs.Valid.{IsValid, WithFields}
use Rattle.tac_syntax.specs.WellFormed.{IsWellFormed}
use Rattle.tac_syntax.proofs.WellFormed.{valid_is_well_formed}
use Rattle.combine_rule.specs.declared.slots.Slot.{Slot}
use Rattle.combine_rule.specs.Slots.{slots_of, spare_register}
use Rattle.combine_rule.specs.Pieces.{loop_of}
use Rattle.combine_rule.specs.Halves.{gathering, sending, zeroing}
use Rattle.combine_rule.specs.Combinable.{IsCombinable, merger_with, sender_with, with_body}
use Rattle.combine_rule.specs.Partials.{ArePartials}
use Rattle.combine_rule.specs.Splits.{IsSplitIn, group_call}
use Rattle.combine_rule.specs.Tests.{ArePiecesOf}
use Rattle.combine_rule.proofs.BuiltHalves.{shallow_pieces}
use Rattle.combine_rule.proofs.CombinableLaw.{is_split}
use Rattle.combine_rule.proofs.PiecesOfBodies.{pieces}
use Rattle.combine_rule.proofs.SlotRuns.{AreBelow}
use Rattle.combine_rule.proofs.TestedHalves.{keys_pass}

one_some : (x y : ℕ) → Some x ≡ Some y → x ≡ y
one_some x y e = cc

-- ---- what was built

module _ {f : Function} {fields : ℕ} {keys : List ℕ} {set : ℕ → Bool} {front : List Stmt} {inner : Code} {rest : List Stmt}
    (valid : IsValid f fields) (h : IsCombinable f fields keys set) (p : ArePiecesOf front inner rest f.body) where
  pub shallow : nesting f.body ≤ nesting_limit
      → (nesting (code_of front) ≤ nesting_limit) × (1 + nesting inner ≤ nesting_limit) × (nesting (code_of rest) ≤ nesting_limit)
  shallow deep =
      let well = subst (λ (k : Kind). IsWellFormed k fields 0 f.body) h.kind (valid_is_well_formed f fields valid) in
      let s = shallow_pieces fields f.body (pieces fields f.body well h.one_loop) deep in (
        subst (λ (c : Code). nesting c ≤ nesting_limit) (sym p.front_is) s.0,
        subst (λ (c : Code). 1 + nesting c ≤ nesting_limit) (sym p.inner_is) s.1,
        subst (λ (c : Code). nesting c ≤ nesting_limit) (sym p.rest_is) s.2,
      )

  module _ {t : ℕ} (is_t : spare_register f.body ≡ Some t) {slots : List Slot} (are : slots ≡ slots_of inner fields keys set) where
    slots_are : slots ≡ slots_of (loop_of f.body) fields keys set
    slots_are = are ∙ ap (λ (c : Code). slots_of c fields keys set) p.inner_is

    registers : h.register ≡ t
    registers = one_some h.register t (sym h.is_spare ∙ is_t)

    pub sender_same : {b : Code} {s : Function} → b ≡ joined (code_of front) (zeroing slots (each 1 Group inner (sending t keys slots)))
        → s ≡ with_body f b → s ≡ sender_with f fields t keys set
    sender_same built is =
        is ∙ ap (with_body f) built
        ∙ (λ i. with_body f (joined (p.front_is i) (zeroing (slots_are i) (each 1 Group (p.inner_is i) (sending t keys (slots_are i))))))

    pub merger_same : {b : Code} {s : Function} → b ≡ joined (code_of front) (each 1 Group (gathering t slots) (code_of rest))
        → s ≡ with_body f b → s ≡ merger_with f fields t keys set
    merger_same built is =
        is ∙ ap (with_body f) built
        ∙ (λ i. with_body f (joined (p.front_is i) (each 1 Group (gathering t (slots_are i)) (p.rest_is i))))

    pub sender_ok : {s : Function} → s ≡ sender_with f fields t keys set → IsValid s fields
    sender_ok is =
        subst (λ (g : Function). IsValid g fields) (sym is)
        (subst (λ (r : ℕ). IsValid (sender_with f fields r keys set) fields) registers h.sender_valid)

    pub merger_ok : {s : Function} → s ≡ merger_with f fields t keys set → IsValid s fields
    merger_ok is =
        subst (λ (g : Function). IsValid g fields) (sym is)
        (subst (λ (r : ℕ). IsValid (merger_with f fields r keys set) fields) registers h.merger_valid)

    pub are_partials : {s m : WithFields} → s.function ≡ sender_with f fields t keys set → s.fields ≡ fields
        → m.function ≡ merger_with f fields t keys set → m.fields ≡ fields → ArePartials f fields keys set s m
    are_partials a b c d = record {
      register = t;
      is_spare = is_t;
      sender_is = λ i. record { function = a i; fields = b i };
      merger_is = λ i. record { function = c i; fields = d i };
    }

-- ---- for a function as the code holds it

pub of_function : (v s m : WithFields) (g : Function) (fields : ℕ) (keys : List ℕ) (set : ℕ → Bool) → g ≡ v.function → fields ≡ v.fields
    → ArePartials g fields keys set s m → ArePartials v.function v.fields keys set s m
of_function v s m g fields keys set e same h =
    subst (λ (n : ℕ). ArePartials v.function n keys set s m) same (subst (λ (f : Function). ArePartials f fields keys set s m) e h)

are_below : (fields : ℕ) (keys : List ℕ) → AllByRecursion (λ k. k < fields) keys → AreBelow fields keys
are_below fields [] h = tt
are_below fields (k ∷ ks) h = (h.0, are_below fields ks h.1)

pub split_by : (v s m : WithFields) (keys : List ℕ) (set : ℕ → Bool) → IsValid v.function v.fields → IsCombinable v.function v.fields keys set
    → ArePartials v.function v.fields keys set s m → IsSplitIn keys (group_call v) (group_call s) (group_call m)
split_by v s m keys set valid h p =
    let below = are_below v.fields keys (keys_pass v.function v.fields keys set valid h.kind h.one_loop h).below in
    let same = one_some p.register h.register (sym p.is_spare ∙ h.is_spare) in
    let sender_is = p.sender_is ∙ ap (λ (r : ℕ). record { function = sender_with v.function v.fields r keys set; fields = v.fields }) same in
    let merger_is = p.merger_is ∙ ap (λ (r : ℕ). record { function = merger_with v.function v.fields r keys set; fields = v.fields }) same in
    subst (λ (y : WithFields). IsSplitIn keys (group_call v) (group_call s) (group_call y)) (sym merger_is)
    (subst (λ (y : WithFields). IsSplitIn keys (group_call v) (group_call y) (group_call (record { function = merger_with v.function v.fields h.register keys set; fields = v.fields }))) (sym sender_is)
    (is_split v.function v.fields keys set valid below h))
