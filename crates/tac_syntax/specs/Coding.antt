-- How bodies are stored in the logic: as the list of their lines, and each line as numbers.
use Rattle.std.specs.Prelude.{◌≡◌, ◌≤◌, ◌+◌, ◌*◌, ◌==◌, if◌then◌else◌, ℕ, Bool, true, false, zero, suc, ℤ, pos, List, [], ◌∷◌, ◌++◌, length, drop, get_or, refl}
use Rattle.std.specs.Coded.{Coded, code_by, coded×, coded_list, coded_ℕ, coded_ℤ}
use Rattle.std.proofs.Common.{ap, ◌∙◌, subst, append_assoc, append-nil, arith, length-append}
use Rattle.pact_record.specs.declared.operations.Op1.{Op1}
use Rattle.pact_record.specs.declared.operations.Op1.TheVariants.{Not, IsNull, Len}
use Rattle.pact_record.specs.declared.operations.Op2.{Op2}
use Rattle.pact_record.specs.declared.operations.Op2.TheVariants.{Add, Sub, Mul, Div, Rem, AddW, Min, Max, Lt, Le, Eq, And, Or, Cat}
use Rattle.tac_syntax.specs.declared.statements.Rec.{Rec}
use Rattle.tac_syntax.specs.declared.statements.Rec.TheVariants.{Reg, Loop, Input, Left, Right, Join, First}
use Rattle.tac_syntax.specs.declared.statements.LoopList.{LoopList}
use Rattle.tac_syntax.specs.declared.statements.LoopList.TheVariants.{Group, Left as LeftGroup, Right as RightGroup}
use Rattle.tac_syntax.specs.Code.{load_int, load_text, load_null, move_value, get_field, get_at, get_key, apply_one, apply_two, new_record, copy_record, set_field, set_at, emit_record, Code, stop, plain, branch, again, each, Line, simple, test, turns, over, otherwise, close}

-- ---- operations, operands and lists as numbers

abbrev pub op1_number : Op1 → ℕ
op1_number Not = 0
op1_number IsNull = 1
op1_number Len = 2

abbrev pub op1_at : ℕ → Op1
op1_at n = if n == 0 then Not else (if n == 1 then IsNull else Len)

op1_at-number : (op : Op1) → op1_at (op1_number op) ≡ op
op1_at-number Not = refl
op1_at-number IsNull = refl
op1_at-number Len = refl

abbrev pub op2_number : Op2 → ℕ
op2_number Add = 0
op2_number Sub = 1
op2_number Mul = 2
op2_number Div = 3
op2_number Rem = 4
op2_number AddW = 5
op2_number Min = 6
op2_number Max = 7
op2_number Lt = 8
op2_number Le = 9
op2_number Eq = 10
op2_number And = 11
op2_number Or = 12
op2_number Cat = 13

abbrev pub all_op2 : List Op2
all_op2 = Add ∷ Sub ∷ Mul ∷ Div ∷ Rem ∷ AddW ∷ Min ∷ Max ∷ Lt ∷ Le ∷ Eq ∷ And ∷ Or ∷ Cat ∷ []

abbrev pub op2_at : ℕ → Op2
op2_at n = get_or all_op2 n Add

op2_at-number : (op : Op2) → op2_at (op2_number op) ≡ op
op2_at-number Add = refl
op2_at-number Sub = refl
op2_at-number Mul = refl
op2_at-number Div = refl
op2_at-number Rem = refl
op2_at-number AddW = refl
op2_at-number Min = refl
op2_at-number Max = refl
op2_at-number Lt = refl
op2_at-number Le = refl
op2_at-number Eq = refl
op2_at-number And = refl
op2_at-number Or = refl
op2_at-number Cat = refl

abbrev pub rec_numbers : Rec → List ℕ
rec_numbers (Reg k) = 0 ∷ k ∷ []
rec_numbers (Loop k) = 1 ∷ k ∷ []
rec_numbers Input = 2 ∷ []
rec_numbers Left = 3 ∷ []
rec_numbers Right = 4 ∷ []
rec_numbers Join = 5 ∷ []
rec_numbers First = 6 ∷ []

abbrev pub rec_of : List ℕ → Rec
rec_of ns = get_or (Reg (get_or ns 1 0) ∷ Loop (get_or ns 1 0) ∷ Input ∷ Left ∷ Right ∷ Join ∷ First ∷ []) (get_or ns 0 0) Input

rec_of-numbers : (from : Rec) → rec_of (rec_numbers from) ≡ from
rec_of-numbers (Reg k) = refl
rec_of-numbers (Loop k) = refl
rec_of-numbers Input = refl
rec_of-numbers Left = refl
rec_of-numbers Right = refl
rec_of-numbers Join = refl
rec_of-numbers First = refl

abbrev pub list_number : LoopList → ℕ
list_number Group = 0
list_number LeftGroup = 1
list_number RightGroup = 2

abbrev pub list_at : ℕ → LoopList
list_at n = get_or (Group ∷ LeftGroup ∷ RightGroup ∷ []) n Group

list_at-number : (list : LoopList) → list_at (list_number list) ≡ list
list_at-number Group = refl
list_at-number LeftGroup = refl
list_at-number RightGroup = refl

-- ---- lines as numbers: which one it is, and what it says

abbrev pub Cell : Type 0
Cell = ℕ × (List ℕ × ℤ)

abbrev pub cell : ℕ → List ℕ → Cell
cell n says = (n, (says, pos 0))

abbrev pub cell_of : Line → Cell
cell_of (simple (load_int to value)) = (0, (to ∷ [], value))
cell_of (simple (load_text to bytes)) = cell 1 (to ∷ bytes)
cell_of (simple (load_null to)) = cell 2 (to ∷ [])
cell_of (simple (move_value to from)) = cell 3 (to ∷ from ∷ [])
cell_of (simple (get_field to from field)) = cell 4 (to ∷ field ∷ rec_numbers from)
cell_of (simple (get_key to at)) = cell 5 (to ∷ at ∷ [])
cell_of (simple (apply_one to op a)) = cell 6 (to ∷ a ∷ op1_number op ∷ [])
cell_of (simple (apply_two to op a b)) = cell 7 (to ∷ a ∷ b ∷ op2_number op ∷ [])
cell_of (simple (new_record to)) = cell 8 (to ∷ [])
cell_of (simple (copy_record to from)) = cell 9 (to ∷ rec_numbers from)
cell_of (simple (set_field to field value)) = cell 10 (to ∷ field ∷ value ∷ [])
cell_of (simple (emit_record from)) = cell 11 (from ∷ [])
cell_of (test on) = cell 12 (on ∷ [])
cell_of (turns count) = cell 13 (count ∷ [])
cell_of (over name list) = cell 14 (name ∷ list_number list ∷ [])
cell_of otherwise = cell 15 []
cell_of close = cell 16 []
cell_of (simple (get_at to from at)) = cell 17 (to ∷ at ∷ rec_numbers from)
cell_of (simple (set_at to at value)) = cell 18 (to ∷ at ∷ value ∷ [])

abbrev pub lines_at : List ℕ → ℤ → List Line
lines_at says value =
    let first = get_or says 0 0 in
    let second = get_or says 1 0 in
    let third = get_or says 2 0 in
    simple (load_int first value)
    ∷ simple (load_text first (drop 1 says))
    ∷ simple (load_null first)
    ∷ simple (move_value first second)
    ∷ simple (get_field first (rec_of (drop 2 says)) second)
    ∷ simple (get_key first second)
    ∷ simple (apply_one first (op1_at third) second)
    ∷ simple (apply_two first (op2_at (get_or says 3 0)) second third)
    ∷ simple (new_record first)
    ∷ simple (copy_record first (rec_of (drop 1 says)))
    ∷ simple (set_field first second third)
    ∷ simple (emit_record first)
    ∷ test first
    ∷ turns first
    ∷ over first (list_at second)
    ∷ otherwise
    ∷ close
    ∷ simple (get_at first (rec_of (drop 2 says)) second)
    ∷ simple (set_at first second third)
    ∷ []

abbrev pub line_of : Cell → Line
line_of c = get_or (lines_at c.1.0 c.1.1) c.0 close

pub line_of-cell : (l : Line) → line_of (cell_of l) ≡ l
line_of-cell (simple (load_int to value)) = refl
line_of-cell (simple (load_text to bytes)) = refl
line_of-cell (simple (load_null to)) = refl
line_of-cell (simple (move_value to from)) = refl
line_of-cell (simple (get_field to from field)) = ap (λ (r : Rec). simple (get_field to r field)) (rec_of-numbers from)
line_of-cell (simple (get_key to at)) = refl
line_of-cell (simple (apply_one to op a)) = ap (λ (o : Op1). simple (apply_one to o a)) (op1_at-number op)
line_of-cell (simple (apply_two to op a b)) = ap (λ (o : Op2). simple (apply_two to o a b)) (op2_at-number op)
line_of-cell (simple (new_record to)) = refl
line_of-cell (simple (copy_record to from)) = ap (λ (r : Rec). simple (copy_record to r)) (rec_of-numbers from)
line_of-cell (simple (set_field to field value)) = refl
line_of-cell (simple (emit_record from)) = refl
line_of-cell (test on) = refl
line_of-cell (turns count) = refl
line_of-cell (over name list) = ap (λ (k : LoopList). over name k) (list_at-number list)
line_of-cell otherwise = refl
line_of-cell close = refl
line_of-cell (simple (get_at to from at)) = ap (λ (r : Rec). simple (get_at to r at)) (rec_of-numbers from)
line_of-cell (simple (set_at to at value)) = refl

abbrev pub coded_line : Coded Line
coded_line = code_by Cell (coded× coded_ℕ (coded× (coded_list coded_ℕ) coded_ℤ)) cell_of line_of line_of-cell

-- ---- bodies as lines

abbrev pub is_stop : Code → Bool
is_stop stop = true
is_stop body = false

-- An empty second body of an `if` has no lines, and no line separates it from the first.
abbrev pub other_lines : Bool → List Line → List Line → List Line
other_lines empty lines rest = if empty then rest else otherwise ∷ (lines ++ rest)

abbrev pub lines_of : Code → List Line
lines_of stop = []
lines_of (plain s next) = simple s ∷ lines_of next
lines_of (branch on body other next) = test on ∷ (lines_of body ++ other_lines (is_stop other) (lines_of other) (close ∷ lines_of next))
lines_of (again count body next) = turns count ∷ (lines_of body ++ (close ∷ lines_of next))
lines_of (each name list body next) = over name list ∷ (lines_of body ++ (close ∷ lines_of next))

-- The remaining lines don't begin with a statement.
abbrev Ends : List Line → Type 0
Ends [] = Unit {0}
Ends (otherwise ∷ l) = Unit {0}
Ends (close ∷ l) = Unit {0}
Ends lines = ⊥

abbrev begins_other : List Line → Bool
begins_other (otherwise ∷ l) = true
begins_other lines = false

-- the body that lines begin with, and the lines that follow it
abbrev parse : ℕ → List Line → Code × List Line
parse zero l = (stop, l)
parse (suc k) [] = (stop, [])
parse (suc k) (simple s ∷ l) = let n = parse k l in (plain s n.0, n.1)
parse (suc k) (test on ∷ l) =
    let b = parse k l in
    let o = if begins_other b.1 then parse k (drop 1 b.1) else (stop, b.1) in
    let n = parse k (drop 1 o.1) in (branch on b.0 o.0 n.0, n.1)
parse (suc k) (turns count ∷ l) = let b = parse k l in let n = parse k (drop 1 b.1) in (again count b.0 n.0, n.1)
parse (suc k) (over name list ∷ l) = let b = parse k l in let n = parse k (drop 1 b.1) in (each name list b.0 n.0, n.1)
parse (suc k) (otherwise ∷ l) = (stop, otherwise ∷ l)
parse (suc k) (close ∷ l) = (stop, close ∷ l)

-- a number above those of the bodies inside
abbrev pub tall : Code → ℕ
tall stop = 1
tall (plain s next) = suc (tall next)
tall (branch on body other next) = suc (tall body + tall other + tall next)
tall (again count body next) = suc (tall body + tall next)
tall (each name list body next) = suc (tall body + tall next)

parse-end : (k : ℕ) (l : List Line) → Ends l → parse k l ≡ (stop, l)
parse-end zero l h = refl
parse-end (suc k) [] h = refl
parse-end (suc k) (simple s ∷ l) h = absurd h
parse-end (suc k) (test on ∷ l) h = absurd h
parse-end (suc k) (turns count ∷ l) h = absurd h
parse-end (suc k) (over name list ∷ l) h = absurd h
parse-end (suc k) (otherwise ∷ l) h = refl
parse-end (suc k) (close ∷ l) h = refl

abbrev two_bodies : (Code → Code → Code) → ℕ → Code × List Line → Code × List Line
two_bodies f k b = let n = parse k (drop 1 b.1) in (f b.0 n.0, n.1)

abbrev other_part : ℕ → List Line → Code × List Line
other_part k l = if begins_other l then parse k (drop 1 l) else (stop, l)

abbrev three_bodies : ℕ → ℕ → Code × List Line → Code × List Line
three_bodies on k b = let o = other_part k b.1 in let n = parse k (drop 1 o.1) in (branch on b.0 o.0 n.0, n.1)

abbrev last_body : ℕ → ℕ → Code → Code × List Line → Code × List Line
last_body on k b o = let n = parse k (drop 1 o.1) in (branch on b o.0 n.0, n.1)

-- lines that follow a second body
abbrev other_first : Code → List Line → List Line
other_first other rest = other_lines (is_stop other) (lines_of other) rest

Ends-other_first : (other : Code) (rest : List Line) → Ends (other_first other (close ∷ rest))
Ends-other_first stop rest = tt
Ends-other_first (plain s next) rest = tt
Ends-other_first (branch on body other next) rest = tt
Ends-other_first (again count body next) rest = tt
Ends-other_first (each name list body next) rest = tt

other_part-other_first : (k : ℕ) (other : Code) (rest : List Line) → parse k (lines_of other ++ (close ∷ rest)) ≡ (other, close ∷ rest) → other_part k (other_first other (close ∷ rest)) ≡ (other, close ∷ rest)
other_part-other_first k stop rest h = refl
other_part-other_first k (plain s next) rest h = h
other_part-other_first k (branch on body other next) rest h = h
other_part-other_first k (again count body next) rest h = h
other_part-other_first k (each name list body next) rest h = h

other_lines-append : (empty : Bool) (lines rest l : List Line) → other_lines empty lines rest ++ l ≡ other_lines empty lines (rest ++ l)
other_lines-append true lines rest l = refl
other_lines-append false lines rest l = ap (λ (m : List Line). otherwise ∷ m) (append_assoc lines rest l)

-- a second body is no taller than its lines allow
tall-other : (other : Code) (rest : List Line) → tall other ≤ suc (2 * length (lines_of other)) → tall other + 2 * length rest ≤ suc (2 * length (other_first other rest))
tall-other stop rest h = omega arith
tall-other (plain s next) rest h = omega (arith, h, length-append (lines_of (plain s next)) rest)
tall-other (branch on body other next) rest h = omega (arith, h, length-append (lines_of (branch on body other next)) rest)
tall-other (again count body next) rest h = omega (arith, h, length-append (lines_of (again count body next)) rest)
tall-other (each name list body next) rest h = omega (arith, h, length-append (lines_of (each name list body next)) rest)

parse-lines_of : (k : ℕ) (c : Code) (l : List Line) → Ends l → tall c ≤ k → parse k (lines_of c ++ l) ≡ (c, l)
parse-lines_of k stop l e h = parse-end k l e
parse-lines_of zero (plain s next) l e h = absurd (omega arith)
parse-lines_of zero (branch on body other next) l e h = absurd (omega arith)
parse-lines_of zero (again count body next) l e h = absurd (omega arith)
parse-lines_of zero (each name list body next) l e h = absurd (omega arith)
parse-lines_of (suc k) (plain s next) l e h = ap (λ (n : Code × List Line). (plain s n.0, n.1)) (parse-lines_of k next l e (omega arith))
parse-lines_of (suc k) (branch on body other next) l e h =
    let rest = lines_of next ++ l in
    let others = other_first other (close ∷ rest) in
    let first = parse-lines_of k body others (Ends-other_first other rest) (omega arith) in
    let second = other_part-other_first k other rest (parse-lines_of k other (close ∷ rest) tt (omega arith)) in
    let third = parse-lines_of k next l e (omega arith) in
    let all : (lines_of body ++ other_first other (close ∷ lines_of next)) ++ l ≡ lines_of body ++ others =
    append_assoc (lines_of body) (other_first other (close ∷ lines_of next)) l
    ∙ ap (λ (m : List Line). lines_of body ++ m) (other_lines-append (is_stop other) (lines_of other) (close ∷ lines_of next) l) in
    ap (λ (m : List Line). three_bodies on k (parse k m)) all
    ∙ ap (three_bodies on k) first
    ∙ ap (last_body on k body) second
    ∙ ap (λ (n : Code × List Line). (branch on body other n.0, n.1)) third
parse-lines_of (suc k) (again count body next) l e h =
    let first = parse-lines_of k body (close ∷ (lines_of next ++ l)) tt (omega arith) in
    ap (λ (m : List Line). two_bodies (again count) k (parse k m)) (append_assoc (lines_of body) (close ∷ lines_of next) l)
    ∙ ap (two_bodies (again count) k) first
    ∙ ap (λ (n : Code × List Line). (again count body n.0, n.1)) (parse-lines_of k next l e (omega arith))
parse-lines_of (suc k) (each name list body next) l e h =
    let first = parse-lines_of k body (close ∷ (lines_of next ++ l)) tt (omega arith) in
    ap (λ (m : List Line). two_bodies (each name list) k (parse k m)) (append_assoc (lines_of body) (close ∷ lines_of next) l)
    ∙ ap (two_bodies (each name list) k) first
    ∙ ap (λ (n : Code × List Line). (each name list body n.0, n.1)) (parse-lines_of k next l e (omega arith))

tall-lines_of : (c : Code) → tall c ≤ suc (2 * length (lines_of c))
tall-lines_of stop = omega arith
tall-lines_of (plain s next) = omega (arith, tall-lines_of next)
tall-lines_of (branch on body other next) =
    omega (arith, tall-lines_of body, tall-other other (close ∷ lines_of next) (tall-lines_of other), tall-lines_of next, length-append (lines_of body) (other_first other (close ∷ lines_of next)))
tall-lines_of (again count body next) = omega (arith, tall-lines_of body, tall-lines_of next, length-append (lines_of body) (close ∷ lines_of next))
tall-lines_of (each name list body next) = omega (arith, tall-lines_of body, tall-lines_of next, length-append (lines_of body) (close ∷ lines_of next))

-- the body that has just these lines
abbrev pub code_from : List Line → Code
code_from l = (parse (suc (2 * length l)) l).0

pub code_from-lines_of : (c : Code) → code_from (lines_of c) ≡ c
code_from-lines_of c =
    let k = suc (2 * length (lines_of c)) in
    ap (λ (p : Code × List Line). p.0) (subst (λ (m : List Line). parse k m ≡ (c, [])) (append-nil (lines_of c)) (parse-lines_of k c [] tt (tall-lines_of c)))

abbrev pub coded_code : Coded Code
coded_code = code_by (List Line) (coded_list coded_line) lines_of code_from code_from-lines_of
