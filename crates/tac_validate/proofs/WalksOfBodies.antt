-- What going through a body finds, one statement after another.
use Rattle.std.proofs.Common.{◌≡◌, ◌+◌, ◌*◌, ℕ, Bool, true, false, if◌then◌else◌, List, [], ◌∷◌, ◌++◌, length, Option, Some, None, Result, Ok, Err, min, refl, ap, sym, ◌∙◌, arith, length-append, append-nil}
use Rattle.tac_syntax.specs.declared.rules.Rule.{Rule}
use Rattle.tac_syntax.proofs.Bodies.{placed-onto}
use Rattle.tac_syntax.specs.Code.{Code, stop, plain, branch, again, each, count_of, Line, simple, test, turns, over}
use Rattle.tac_syntax.specs.Trees.{Statement, onto}
use Rattle.tac_syntax.specs.Places.{Place, Placed, at_place, placed, in_if, in_repeat, in_each}
use Rattle.tac_syntax.specs.Rules.{breaks}
use Rattle.tac_syntax.specs.Valid.{first_break_from}
use Rattle.tac_validate.specs.declared.walks.Broken.{Broken}
use Rattle.tac_validate.specs.Stands.{most_turns, in_repeat_capped}
use Rattle.tac_validate.specs.Walks.{found_or, walked}
use Rattle.tac_validate.proofs.Turns.{SameTurns, same_turns-capped, breaks-turns, times}

-- ---- numbers

pub length-placed : (p : Place) (c : Code) → length (placed p c) ≡ count_of c
length-placed p stop = refl
length-placed p (plain s next) = omega (arith, length-placed p next)
length-placed p (branch on body other next) =
    let inside = length-append (placed (in_if p) body) (placed (in_if p) other ++ placed p next) in
    let behind = length-append (placed (in_if p) other) (placed p next) in
    omega (arith, inside, behind, length-placed (in_if p) body, length-placed (in_if p) other, length-placed p next)
length-placed p (again count body next) =
    omega (arith, length-append (placed (in_repeat count p) body) (placed p next), length-placed (in_repeat count p) body, length-placed p next)
length-placed p (each name list body next) =
    omega (arith, length-append (placed (in_each p) body) (placed p next), length-placed (in_each p) body, length-placed p next)

-- ---- statements in text order

-- what is found in some statements, and if that isn't a break, in those after them
bind : Result ℕ Broken → (ℕ → Result ℕ Broken) → Result ℕ Broken
bind (Err b) f = Err b
bind (Ok m) f = f m

abbrev unless : Bool → ℕ → Result ℕ Broken → Result ℕ Broken
unless true n r = Err (record { at = n })
unless false n r = r

abbrev through : Rule → ℕ → List Placed → Result ℕ Broken
through rule n [] = Ok n
through rule n (p ∷ ps) = unless (breaks rule n p.place p.line) n (through rule (n + 1) ps)

bind-unless : (b : Bool) (n : ℕ) (r : Result ℕ Broken) (f : ℕ → Result ℕ Broken) → unless b n (bind r f) ≡ bind (unless b n r) f
unfolding bind
bind-unless true n r f = refl
bind-unless false n r f = refl

through-append : (rule : Rule) (n : ℕ) (xs ys : List Placed) → through rule n (xs ++ ys) ≡ bind (through rule n xs) (λ m. through rule m ys)
unfolding bind
through-append rule n [] ys = refl
through-append rule n (x ∷ xs) ys =
    ap (unless (breaks rule n x.place x.line) n) (through-append rule (n + 1) xs ys)
    ∙ bind-unless (breaks rule n x.place x.line) n (through rule (n + 1) xs) (λ m. through rule m ys)

found_or-unless : (b : Bool) (n next : ℕ) (o : Option ℕ) → found_or (if b then Some n else o) next ≡ unless b n (found_or o next)
found_or-unless true n next o = refl
found_or-unless false n next o = refl

found_or-first : (rule : Rule) (n : ℕ) (ps : List Placed) (next : ℕ) → next ≡ n + length ps → found_or (first_break_from rule n ps) next ≡ through rule n ps
found_or-first rule n [] next e = ap Ok (omega arith)
found_or-first rule n (p ∷ ps) next e =
    found_or-unless (breaks rule n p.place p.line) n next (first_break_from rule (n + 1) ps)
    ∙ ap (unless (breaks rule n p.place p.line) n) (found_or-first rule (n + 1) ps next (omega arith))

walked-through : (rule : Rule) (n : ℕ) (p : Place) (c : Code) → walked rule n p c ≡ through rule n (placed p c)
walked-through rule n p c = found_or-first rule n (placed p c) (n + count_of c) (omega (arith, length-placed p c))

-- If no break is found, the result is the number after the last statement.
found_or-ok : (o : Option ℕ) (next m : ℕ) → found_or o next ≡ Ok m → m ≡ next
found_or-ok None next m e = cc
found_or-ok (Some at) next m e = cc

pub number_after : (rule : Rule) (n m : ℕ) (p : Place) (c : Code) → walked rule n p c ≡ Ok m → m ≡ n + count_of c
number_after rule n m p c e = found_or-ok (first_break_from rule n (placed p c)) (n + count_of c) m e

-- ---- a statement, and what follows it

walked-onto : (rule : Rule) (n : ℕ) (p : Place) (s : Statement) (next : Code) → walked rule n p (onto s next) ≡ bind (walked rule n p (onto s stop)) (λ m. through rule m (placed p next))
walked-onto rule n p s next =
    walked-through rule n p (onto s next)
    ∙ ap (through rule n) (placed-onto p s next)
    ∙ through-append rule n (placed p (onto s stop)) (placed p next)
    ∙ ap (λ (r : Result ℕ Broken). bind r (λ m. through rule m (placed p next))) (sym (walked-through rule n p (onto s stop)))

-- for a statement that keeps the rule, with all statements inside it
pub walked-next : (rule : Rule) (n m : ℕ) (p : Place) (s : Statement) (next : Code) → walked rule n p (onto s stop) ≡ Ok m → walked rule n p (onto s next) ≡ walked rule m p next
unfolding bind
walked-next rule n m p s next e =
    walked-onto rule n p s next
    ∙ ap (λ (r : Result ℕ Broken). bind r (λ m. through rule m (placed p next))) e
    ∙ sym (walked-through rule m p next)

-- for a statement that breaks the rule, or has one inside it that does
pub walked-found : (rule : Rule) (n : ℕ) (b : Broken) (p : Place) (s : Statement) (next : Code) → walked rule n p (onto s stop) ≡ Err b → walked rule n p (onto s next) ≡ Err b
unfolding bind
walked-found rule n b p s next e =
    walked-onto rule n p s next ∙ ap (λ (r : Result ℕ Broken). bind r (λ m. through rule m (placed p next))) e

-- ---- a place with other turns that make no difference to the rules

abbrev Alike : Rule → List Placed → List Placed → Type 0
Alike rule xs ys = (n : ℕ) → through rule n xs ≡ through rule n ys

bind-same : (a b : Result ℕ Broken) (f g : ℕ → Result ℕ Broken) → a ≡ b → ((m : ℕ) → f m ≡ g m) → bind a f ≡ bind b g
unfolding bind
bind-same a (Err b) f g e h = ap (λ (r : Result ℕ Broken). bind r f) e
bind-same a (Ok m) f g e h = ap (λ (r : Result ℕ Broken). bind r f) e ∙ h m

alike-append : (rule : Rule) (xs xs' ys ys' : List Placed) → Alike rule xs xs' → Alike rule ys ys' → Alike rule (xs ++ ys) (xs' ++ ys')
alike-append rule xs xs' ys ys' h k n =
    through-append rule n xs ys
    ∙ bind-same (through rule n xs) (through rule n xs') (λ m. through rule m ys) (λ m. through rule m ys') (h n) k
    ∙ sym (through-append rule n xs' ys')

alike-cons : (rule : Rule) (p : Place) (r : ℕ) (l : Line) (xs ys : List Placed) → SameTurns r p.repeats → Alike rule xs ys
    → Alike rule (at_place (record p { repeats = r }) l ∷ xs) (at_place p l ∷ ys)
alike-cons rule p r l xs ys same h n =
    ap (λ (t : Bool). unless t n (through rule (n + 1) xs)) (breaks-turns rule n p r l same)
    ∙ ap (unless (breaks rule n p l) n) (h (n + 1))

alike-turns : (rule : Rule) (p : Place) (r : ℕ) (c : Code) → SameTurns r p.repeats → Alike rule (placed (record p { repeats = r }) c) (placed p c)
alike-turns rule p r stop same = λ n. refl
alike-turns rule p r (plain s next) same = alike-cons rule p r (simple s) _ _ same (alike-turns rule p r next same)
alike-turns rule p r (branch on body other next) same =
    alike-cons rule p r (test on) _ _ same
    (alike-append rule _ _ _ _ (alike-turns rule (in_if p) r body same)
    (alike-append rule _ _ _ _ (alike-turns rule (in_if p) r other same) (alike-turns rule p r next same)))
alike-turns rule p r (again count body next) same =
    alike-cons rule p r (turns count) _ _ same
    (alike-append rule _ _ _ _ (alike-turns rule (in_repeat count p) (r * count) body (times r p.repeats count same)) (alike-turns rule p r next same))
alike-turns rule p r (each name list body next) same =
    alike-cons rule p r (over name list) _ _ same
    (alike-append rule _ _ _ _ (alike-turns rule (in_each p) r body same) (alike-turns rule p r next same))

capped : (rule : Rule) (n count : ℕ) (p : Place) (c : Code) → walked rule n (in_repeat_capped count p) c ≡ walked rule n (in_repeat count p) c
capped rule n count p c =
    walked-through rule n (in_repeat_capped count p) c
    ∙ alike-turns rule (in_repeat count p) (min (p.repeats * count) most_turns) c (same_turns-capped (p.repeats * count)) n
    ∙ sym (walked-through rule n (in_repeat count p) c)

-- ---- blocks

walked-branch : (rule : Rule) (n : ℕ) (p : Place) (on : ℕ) (body other : Code) → breaks rule n p (test on) ≡ false
    → walked rule n p (branch on body other stop) ≡ bind (walked rule (n + 1) (in_if p) body) (λ m. through rule m (placed (in_if p) other ++ []))
walked-branch rule n p on body other h =
    let inside = placed (in_if p) other ++ [] in
    walked-through rule n p (branch on body other stop)
    ∙ ap (λ (t : Bool). unless t n (through rule (n + 1) (placed (in_if p) body ++ inside))) h
    ∙ through-append rule (n + 1) (placed (in_if p) body) inside
    ∙ ap (λ (r : Result ℕ Broken). bind r (λ m. through rule m inside)) (sym (walked-through rule (n + 1) (in_if p) body))

pub walked-body : (rule : Rule) (n : ℕ) (b : Broken) (p : Place) (on : ℕ) (body other : Code) → breaks rule n p (test on) ≡ false
    → walked rule (n + 1) (in_if p) body ≡ Err b → walked rule n p (branch on body other stop) ≡ Err b
unfolding bind
walked-body rule n b p on body other h e =
    walked-branch rule n p on body other h
    ∙ ap (λ (r : Result ℕ Broken). bind r (λ m. through rule m (placed (in_if p) other ++ []))) e

pub walked-other : (rule : Rule) (n m : ℕ) (p : Place) (on : ℕ) (body other : Code) → breaks rule n p (test on) ≡ false
    → walked rule (n + 1) (in_if p) body ≡ Ok m → walked rule n p (branch on body other stop) ≡ walked rule m (in_if p) other
unfolding bind
walked-other rule n m p on body other h e =
    walked-branch rule n p on body other h
    ∙ ap (λ (r : Result ℕ Broken). bind r (λ m. through rule m (placed (in_if p) other ++ []))) e
    ∙ ap (through rule m) (append-nil (placed (in_if p) other))
    ∙ sym (walked-through rule m (in_if p) other)

pub walked-again : (rule : Rule) (n : ℕ) (p : Place) (count : ℕ) (body : Code) → breaks rule n p (turns count) ≡ false
    → walked rule n p (again count body stop) ≡ walked rule (n + 1) (in_repeat_capped count p) body
walked-again rule n p count body h =
    walked-through rule n p (again count body stop)
    ∙ ap (λ (t : Bool). unless t n (through rule (n + 1) (placed (in_repeat count p) body ++ []))) h
    ∙ ap (through rule (n + 1)) (append-nil (placed (in_repeat count p) body))
    ∙ sym (walked-through rule (n + 1) (in_repeat count p) body)
    ∙ sym (capped rule (n + 1) count p body)
