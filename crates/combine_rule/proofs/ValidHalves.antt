-- Conditions under which the sender and the merger of a valid function are valid.
use Rattle.std.proofs.Common.{◌≡◌, ◌≤◌, ◌<◌, ◌+◌, ◌||◌, not, ℕ, pos, Bool, true, false, if◌then◌else◌, Option, Some, None, List, [], ◌∷◌, ◌++◌, length, refl, ap, sym, subst, ◌∙◌, nat_le, arith, length-append, append_assoc}
use Rattle.std.specs.List.{AllByRecursion}
use Rattle.std.proofs.lemmas.Bool.{leb-false, lt-leb, le-leb}
use Rattle.pact_record.proofs.Lists.{AllByRecursion-append, AllByRecursion-left, AllByRecursion-right}
use Rattle.pact_record.specs.declared.operations.Op2.{Op2}
use Rattle.tac_syntax.specs.declared.functions.Function.{Function}
use Rattle.tac_syntax.specs.declared.functions.Kind.TheVariants.{Reduce}
use Rattle.tac_syntax.specs.declared.statements.Rec.TheVariants.{Loop}
use Rattle.tac_syntax.specs.declared.statements.LoopList.TheVariants.{Group}
use Rattle.tac_syntax.specs.declared.rules.Rule.{Rule}
use Rattle.tac_syntax.specs.declared.rules.Rule.TheVariants.{Registers, Operands, Fields, KeyPositions, Statements}
use Rattle.tac_syntax.specs.Limits.{value_registers, statement_limit}
use Rattle.tac_syntax.specs.Code.{load_int, get_field, get_key, apply_two, new_record, set_field, emit_record, Code, stop, plain, branch, again, each, joined, count_of, Line, simple, test, turns, over}
use Rattle.tac_syntax.specs.Places.{Place, Placed, placed, at_place, top_place, in_if, in_repeat, in_each}
use Rattle.tac_syntax.specs.Rules.{breaks, is_reduce, is_cogroup}
use Rattle.tac_syntax.specs.Valid.{IsValid, first_break_from}
use Rattle.tac_syntax.proofs.Ranges.{none_of}
use Rattle.order_free.specs.declared.accumulators.Accumulation.{Accumulation}
use Rattle.order_free.specs.declared.accumulators.Accumulation.TheVariants.{Sum, Least, Greatest}
use Rattle.order_free.specs.Accumulators.{op_of}
use Rattle.combine_rule.specs.Pieces.{front_of, loop_of, rest_of}
use Rattle.combine_rule.specs.declared.slots.Slot.{Slot}
use Rattle.combine_rule.specs.Halves.{from_zero, zeroing, keying, giving, gathering, sending, sender_of, merger_of}
use Rattle.combine_rule.specs.Combinable.{with_body}
use Rattle.combine_rule.proofs.PiecesOfBodies.{ArePieces}

-- ---- rules that don't depend on a statement's number

-- The rule isn't broken, for any number of the statement. The rule on the number of statements asks nothing here.
abbrev pub KeptAt : Rule → Placed → Type 0
KeptAt rule x = breaks rule 0 x.place x.line ≡ false

abbrev pub KeptIn : Rule → Place → Code → Type 0
KeptIn rule p c = AllByRecursion (KeptAt rule) (placed p c)

unnumbered : (rule : Rule) (n : ℕ) (p : Place) (l : Line) → breaks rule n p l ≡ false → breaks rule 0 p l ≡ false
unnumbered Statements n p l h = refl
unnumbered rule n p l h = h

numbered : (rule : Rule) (n : ℕ) (p : Place) (l : Line) → n < statement_limit → breaks rule 0 p l ≡ false → breaks rule n p l ≡ false
numbered Statements n p l lt h = lt-leb statement_limit n lt
numbered rule n p l lt h = h

pub all_kept : (rule : Rule) (n : ℕ) (xs : List Placed) → first_break_from rule n xs ≡ None → AllByRecursion (KeptAt rule) xs
all_kept rule n [] h = tt
all_kept rule n (x ∷ xs) h =
    let p = none_of (breaks rule n x.place x.line) n (first_break_from rule (n + 1) xs) h in
    (unnumbered rule n x.place x.line p.0, all_kept rule (n + 1) xs p.1)

none_broken : (b : Bool) (n : ℕ) (rest : Option ℕ) → b ≡ false → rest ≡ None → (if b then Some n else rest) ≡ None
none_broken true n rest h r = cc
none_broken false n rest h r = r

pub kept_all : (rule : Rule) (n : ℕ) (xs : List Placed) → n + length xs ≤ statement_limit → AllByRecursion (KeptAt rule) xs → first_break_from rule n xs ≡ None
kept_all rule n [] few h = refl
kept_all rule n (x ∷ xs) few h =
    none_broken (breaks rule n x.place x.line) n (first_break_from rule (n + 1) xs) (numbered rule n x.place x.line (omega (arith, few)) h.0)
    (kept_all rule (n + 1) xs (omega (arith, few)) h.1)

few_of : (n : ℕ) (xs : List Placed) → n ≤ statement_limit → first_break_from Statements n xs ≡ None → n + length xs ≤ statement_limit
few_of n [] le h = omega (arith, le)
few_of n (x ∷ xs) le h =
    let p = none_of (nat_le statement_limit n) n (first_break_from Statements (n + 1) xs) h in
    let below = leb-false statement_limit n p.0 in
    let rest = few_of (n + 1) xs (omega (arith, below)) p.1 in
    omega (arith, rest)

pub length-placed : (p : Place) (c : Code) → length (placed p c) ≡ count_of c
length-placed p stop = refl
length-placed p (plain s next) = omega (arith, length-placed p next)
length-placed p (branch on body other next) =
    let inside = length-append (placed (in_if p) body) (placed (in_if p) other ++ placed p next) in
    let behind = length-append (placed (in_if p) other) (placed p next) in
    omega (arith, inside, behind, length-placed (in_if p) body, length-placed (in_if p) other, length-placed p next)
length-placed p (again count body next) =
    omega (arith, length-append (placed (in_repeat count p) body) (placed p next), length-placed (in_repeat count p) body, length-placed p next)
length-placed p (each name list body next) =
    omega (arith, length-append (placed (in_each p) body) (placed p next), length-placed (in_each p) body, length-placed p next)

-- ---- valid functions, from such rules and their number of statements

pub few_statements : (f : Function) (F : ℕ) → IsValid f F → count_of f.body ≤ statement_limit
few_statements f F h =
    let few = few_of 0 (placed (top_place f F) f.body) (omega arith) (h.keeps Statements) in
    omega (arith, few, length-placed (top_place f F) f.body)

pub kept_in : (f : Function) (F : ℕ) → IsValid f F → (rule : Rule) → KeptIn rule (top_place f F) f.body
kept_in f F h rule = all_kept rule 0 (placed (top_place f F) f.body) (h.keeps rule)

pub valid_with : (f : Function) (F : ℕ) (c : Code) → IsValid f F → ((rule : Rule) → KeptIn rule (top_place f F) c) → count_of c ≤ statement_limit → IsValid (with_body f c) F
valid_with f F c h kept few = record {
  some_field = h.some_field;
  few_fields = h.few_fields;
  keeps = λ rule. kept_all rule 0 (placed (top_place f F) c) (omega (arith, few, length-placed (top_place f F) c)) (kept rule);
}

-- ---- joined bodies

pub placed-joined : (p : Place) (c d : Code) → placed p (joined c d) ≡ placed p c ++ placed p d
placed-joined p stop d = refl
placed-joined p (plain s next) d = ap (λ (l : List Placed). at_place p (simple s) ∷ l) (placed-joined p next d)
placed-joined p (branch on body other next) d =
    ap (λ (l : List Placed). at_place p (test on) ∷ (placed (in_if p) body ++ (placed (in_if p) other ++ l))) (placed-joined p next d)
    ∙ ap (λ (l : List Placed). at_place p (test on) ∷ (placed (in_if p) body ++ l)) (sym (append_assoc (placed (in_if p) other) (placed p next) (placed p d)))
    ∙ ap (λ (l : List Placed). at_place p (test on) ∷ l) (sym (append_assoc (placed (in_if p) body) (placed (in_if p) other ++ placed p next) (placed p d)))
placed-joined p (again count body next) d =
    ap (λ (l : List Placed). at_place p (turns count) ∷ (placed (in_repeat count p) body ++ l)) (placed-joined p next d)
    ∙ ap (λ (l : List Placed). at_place p (turns count) ∷ l) (sym (append_assoc (placed (in_repeat count p) body) (placed p next) (placed p d)))
placed-joined p (each name list body next) d =
    ap (λ (l : List Placed). at_place p (over name list) ∷ (placed (in_each p) body ++ l)) (placed-joined p next d)
    ∙ ap (λ (l : List Placed). at_place p (over name list) ∷ l) (sym (append_assoc (placed (in_each p) body) (placed p next) (placed p d)))

pub kept-joined : (rule : Rule) (p : Place) (c d : Code) → KeptIn rule p c → KeptIn rule p d → KeptIn rule p (joined c d)
kept-joined rule p c d h k = subst (AllByRecursion (KeptAt rule)) (sym (placed-joined p c d)) (AllByRecursion-append (KeptAt rule) (placed p c) (placed p d) h k)

pub joined-kept : (rule : Rule) (p : Place) (c d : Code) → KeptIn rule p (joined c d) → KeptIn rule p c × KeptIn rule p d
joined-kept rule p c d h =
    let both = subst (AllByRecursion (KeptAt rule)) (placed-joined p c d) h in
    (AllByRecursion-left (KeptAt rule) (placed p c) (placed p d) both, AllByRecursion-right (KeptAt rule) (placed p c) (placed p d) both)

-- the pieces of a body that keeps the rule
pub record KeptPieces (rule : Rule) (p : Place) (c : Code) : Type 0 where
  pub front : KeptIn rule p (front_of c)
  pub head : KeptAt rule (at_place p (over 1 Group))
  pub loop : KeptIn rule (in_each p) (loop_of c)
  pub rest : KeptIn rule p (rest_of c)

pub kept_pieces : (rule : Rule) (p : Place) (F : ℕ) (c : Code) → ArePieces F c → KeptIn rule p c → KeptPieces rule p c
kept_pieces rule p F c pieces h =
    let both = joined-kept rule p (front_of c) (each 1 Group (loop_of c) (rest_of c)) (subst (KeptIn rule p) pieces.whole h) in
    record {
      front = both.0;
      head = both.1.0;
      loop = AllByRecursion-left (KeptAt rule) (placed (in_each p) (loop_of c)) (placed p (rest_of c)) both.1.1;
      rest = AllByRecursion-right (KeptAt rule) (placed (in_each p) (loop_of c)) (placed p (rest_of c)) both.1.1;
    }

-- ---- the statements of the sender and the merger

fine : (a b : Bool) → a ≡ false → b ≡ false → (a || b) ≡ false
fine true b p q = cc
fine false b p q = q

loads : (rule : Rule) (p : Place) (d : ℕ) → d < value_registers → KeptAt rule (at_place p (simple (load_int d (pos 0))))
loads Registers p d lt = lt-leb value_registers d lt
loads rule p d lt = refl

news : (rule : Rule) (p : Place) → KeptAt rule (at_place p (simple (new_record 0)))
news Registers p = refl
news rule p = refl

emits_it : (rule : Rule) (p : Place) → KeptAt rule (at_place p (simple (emit_record 0)))
emits_it Registers p = refl
emits_it rule p = refl

keys_are : (rule : Rule) (p : Place) (t at : ℕ) → t < value_registers → is_reduce p.kind ≡ true → at < p.keys → KeptAt rule (at_place p (simple (get_key t at)))
keys_are Registers p t at lt r k = lt-leb value_registers t lt
keys_are Operands p t at lt r k = ap (λ (b : Bool). not (b || is_cogroup p.kind)) r
keys_are KeyPositions p t at lt r k = lt-leb p.keys at k
keys_are rule p t at lt r k = refl

sets_it : (rule : Rule) (p : Place) (field v : ℕ) → v < value_registers → field < p.fields → KeptAt rule (at_place p (simple (set_field 0 field v)))
sets_it Registers p field v lt k = lt-leb value_registers v lt
sets_it Fields p field v lt k = lt-leb p.fields field k
sets_it rule p field v lt k = refl

gets_it : (rule : Rule) (p : Place) (t field : ℕ) → t < value_registers → 1 ≤ p.lists → field < p.fields → KeptAt rule (at_place p (simple (get_field t (Loop 1) field)))
gets_it Registers p t field lt l k = fine (nat_le value_registers t) false (lt-leb value_registers t lt) refl
gets_it Operands p t field lt l k = ap not (le-leb 1 p.lists l)
gets_it Fields p t field lt l k = lt-leb p.fields field k
gets_it rule p t field lt l k = refl

applies_it : (rule : Rule) (p : Place) (op : Op2) (d t : ℕ) → d < value_registers → t < value_registers → KeptAt rule (at_place p (simple (apply_two d op d t)))
applies_it Registers p op d t lt k =
    fine (nat_le value_registers d || nat_le value_registers d) (nat_le value_registers t) (fine (nat_le value_registers d) (nat_le value_registers d) (lt-leb value_registers d lt) (lt-leb value_registers d lt))
    (lt-leb value_registers t k)
applies_it rule p op d t lt k = refl

-- an existing register, and a field below the bound
abbrev pub IsSlotIn : ℕ → Slot → Type 0
IsSlotIn F s = (s.register < value_registers) × (s.field < F)

kept-from_zero : (rule : Rule) (p : Place) (by : Accumulation) (d : ℕ) (next : Code) → d < value_registers → KeptIn rule p next → KeptIn rule p (from_zero by d next)
kept-from_zero rule p Sum d next lt h = (loads rule p d lt, h)
kept-from_zero rule p Least d next lt h = h
kept-from_zero rule p Greatest d next lt h = h

kept-zeroing : (rule : Rule) (p : Place) (F : ℕ) (slots : List Slot) (next : Code) → AllByRecursion (IsSlotIn F) slots → KeptIn rule p next → KeptIn rule p (zeroing slots next)
kept-zeroing rule p F [] next s h = h
kept-zeroing rule p F (x ∷ xs) next s h = kept-from_zero rule p x.by x.register (zeroing xs next) s.0.0 (kept-zeroing rule p F xs next s.1 h)

kept-keying : (rule : Rule) (p : Place) (t at : ℕ) (keys : List ℕ) (next : Code) → t < value_registers → is_reduce p.kind ≡ true → at + length keys ≤ p.keys → AllByRecursion (λ k. k < p.fields) keys
    → KeptIn rule p next → KeptIn rule p (keying t at keys next)
kept-keying rule p t at [] next lt r few below h = h
kept-keying rule p t at (k ∷ ks) next lt r few below h =
    (keys_are rule p t at lt r (omega (arith, few)), (sets_it rule p k t lt below.0, kept-keying rule p t (at + 1) ks next lt r (omega (arith, few)) below.1 h))

kept-giving : (rule : Rule) (p : Place) (slots : List Slot) (next : Code) → AllByRecursion (IsSlotIn p.fields) slots → KeptIn rule p next → KeptIn rule p (giving slots next)
kept-giving rule p [] next s h = h
kept-giving rule p (x ∷ xs) next s h = (sets_it rule p x.field x.register s.0.0 s.0.1, kept-giving rule p xs next s.1 h)

kept-gathering : (rule : Rule) (p : Place) (t : ℕ) (slots : List Slot) → t < value_registers → 1 ≤ p.lists → AllByRecursion (IsSlotIn p.fields) slots → KeptIn rule p (gathering t slots)
kept-gathering rule p t [] lt l s = tt
kept-gathering rule p t (x ∷ xs) lt l s = (gets_it rule p t x.field lt l s.0.1, (applies_it rule p (op_of x.by) x.register t s.0.0 lt, kept-gathering rule p t xs lt l s.1))

-- ---- the sender and the merger

module _ (f : Function) (F : ℕ) (pieces : ArePieces F f.body) (valid : IsValid f F) (reduces : f.kind ≡ Reduce) (t : ℕ) (lt : t < value_registers) (slots : List Slot) (inside : AllByRecursion (IsSlotIn F) slots) where
  abbrev p : Place
  p = top_place f F

  is_one : is_reduce p.kind ≡ true
  is_one = ap is_reduce reduces

  kept_of : (rule : Rule) → KeptPieces rule p f.body
  kept_of rule = kept_pieces rule p F f.body pieces (kept_in f F valid rule)

  pub sender_is_valid : (keys : List ℕ) → length keys ≤ f.keys → AllByRecursion (λ k. k < F) keys → count_of (sender_of f.body t keys slots) ≤ statement_limit → IsValid (with_body f (sender_of f.body t keys slots)) F
  sender_is_valid keys few below small =
      valid_with f F (sender_of f.body t keys slots) valid (λ rule.
      let k = kept_of rule in
      kept-joined rule p (front_of f.body) (zeroing slots (each 1 Group (loop_of f.body) (sending t keys slots))) k.front
      (kept-zeroing rule p F slots (each 1 Group (loop_of f.body) (sending t keys slots)) inside (
        k.head,
        AllByRecursion-append (KeptAt rule) (placed (in_each p) (loop_of f.body)) (placed p (sending t keys slots)) k.loop (
          news rule p,
          kept-keying rule p t 0 keys (giving slots (plain (emit_record 0) stop)) lt is_one (omega (arith, few)) below
              (kept-giving rule p slots (plain (emit_record 0) stop) inside (emits_it rule p, tt)),
        ),
      ))) small

  pub merger_is_valid : count_of (merger_of f.body t slots) ≤ statement_limit → IsValid (with_body f (merger_of f.body t slots)) F
  merger_is_valid small =
      valid_with f F (merger_of f.body t slots) valid (λ rule.
      let k = kept_of rule in
      kept-joined rule p (front_of f.body) (each 1 Group (gathering t slots) (rest_of f.body)) k.front
      (k.head, AllByRecursion-append (KeptAt rule) (placed (in_each p) (gathering t slots)) (placed p (rest_of f.body)) (kept-gathering rule (in_each p) t slots lt (omega arith) inside) k.rest)) small

-- ---- what a valid sender says about the keys

keys_below : (p : Place) (t at : ℕ) (keys : List ℕ) (next : Code) → KeptIn Fields p (keying t at keys next) → AllByRecursion (λ k. k < p.fields) keys
keys_below p t at [] next h = tt
keys_below p t at (k ∷ ks) next h = (leb-false p.fields k h.1.0, keys_below p t (at + 1) ks next h.1.1)

keys_few : (p : Place) (t at : ℕ) (keys : List ℕ) (next : Code) → at ≤ p.keys → KeptIn KeyPositions p (keying t at keys next) → at + length keys ≤ p.keys
keys_few p t at [] next le h = omega (arith, le)
keys_few p t at (k ∷ ks) next le h =
    let here = leb-false p.keys at h.0 in
    let rest = keys_few p t (at + 1) ks next (omega (arith, here)) h.1.1 in
    omega (arith, rest)

zeroing-kept : (rule : Rule) (p : Place) (slots : List Slot) (next : Code) → KeptIn rule p (zeroing slots next) → KeptIn rule p next
zeroing-kept rule p [] next h = h
zeroing-kept rule p (x ∷ xs) next h = zeroing-kept rule p xs next (behind x.by x.register (zeroing xs next) h) where
  behind : (by : Accumulation) (d : ℕ) (c : Code) → KeptIn rule p (from_zero by d c) → KeptIn rule p c
  behind Sum d c k = k.1
  behind Least d c k = k
  behind Greatest d c k = k

sending-kept : (rule : Rule) (p : Place) (c : Code) (t : ℕ) (keys : List ℕ) (slots : List Slot) → KeptIn rule p (sender_of c t keys slots) → KeptIn rule p (keying t 0 keys (giving slots (plain (emit_record 0) stop)))
sending-kept rule p c t keys slots h =
    let behind = (joined-kept rule p (front_of c) (zeroing slots (each 1 Group (loop_of c) (sending t keys slots))) h).1 in
    let loop = zeroing-kept rule p slots (each 1 Group (loop_of c) (sending t keys slots)) behind in
    (AllByRecursion-right (KeptAt rule) (placed (in_each p) (loop_of c)) (placed p (sending t keys slots)) loop.1).1

pub sender_says : (f : Function) (F t : ℕ) (keys : List ℕ) (slots : List Slot) → IsValid (with_body f (sender_of f.body t keys slots)) F → (length keys ≤ f.keys) × AllByRecursion (λ k. k < F) keys
sender_says f F t keys slots h =
    let p = top_place f F in
    let next = giving slots (plain (emit_record 0) stop) in
    let s = with_body f (sender_of f.body t keys slots) in
    let few = keys_few p t 0 keys next (omega arith) (sending-kept KeyPositions p f.body t keys slots (kept_in s F h KeyPositions)) in (
      omega (arith, few),
      keys_below p t 0 keys next (sending-kept Fields p f.body t keys slots (kept_in s F h Fields)),
    )
