-- The lines of a body, one after another. A body's own lines may follow each other and build it, and lines that may
-- follow each other are those of what they build.
use Rattle.std.proofs.Common.{◌≡◌, ◌≤◌, Bool, true, Some, List, refl, ap, ◌<◌, ◌+◌, inl, inr, ℕ, Option, [], ◌∷◌, ◌++◌, length, sym, subst, ◌∙◌, append_assoc, append-nil, arith}
use Rattle.std.proofs.lemmas.Bool.{le-leb}
use Rattle.tac_syntax.specs.Code.{Code, stop, plain, branch, again, each, joined, nesting, Simple, load_int, load_text, load_null, move_value, get_field, get_at, get_key, apply_one, apply_two, new_record, copy_record, set_field, set_at, emit_record, Line, simple, test, turns, over, otherwise, close}
use Rattle.tac_syntax.specs.Limits.{nesting_limit}
use Rattle.tac_text.specs.declared.building.Block.{Block}
use Rattle.tac_text.specs.Places.{Build, with_statement, built, IsBuilt, lists_in, MayInside, built_or, built_on, opening, before_block, FitsBody, FitsFirst, FitsBuild, BeginsBlock, Front}
use Rattle.tac_syntax.specs.Grammar.{IsSpelled, IsSpelledLine, IsSpelledSimple}
use Rattle.tac_text.specs.StatementLines.{MayStandSimple}
use Rattle.tac_syntax.specs.FieldRegisters.{Takes, TakesSimple}
use Rattle.tac_syntax.proofs.Bodies.{nesting-joined}
use Rattle.text_lines.specs.Runs.{Steps}
use Rattle.text_lines.proofs.LineRuns.{Steps-append}
use Rattle.tac_text.specs.declared.building.Block.TheVariants.{If, Else, Repeat, Each}
use Rattle.tac_text.specs.FunctionLines.{SpellsBody}

-- ---- a body that grows by one statement

abbrev pub build : List Block → Code → Build
build blocks body = record { blocks = blocks; body = body }

pub joined-stop : (c : Code) → joined c stop ≡ c
joined-stop stop = refl
joined-stop (plain s next) = ap (plain s) (joined-stop next)
joined-stop (branch on body other next) = ap (branch on body other) (joined-stop next)
joined-stop (again count body next) = ap (again count body) (joined-stop next)
joined-stop (each name list body next) = ap (each name list body) (joined-stop next)

pub joined-joined : (a b c : Code) → joined (joined a b) c ≡ joined a (joined b c)
joined-joined stop b c = refl
joined-joined (plain s next) b c = ap (plain s) (joined-joined next b c)
joined-joined (branch on body other next) b c = ap (branch on body other) (joined-joined next b c)
joined-joined (again count body next) b c = ap (again count body) (joined-joined next b c)
joined-joined (each name list body next) b c = ap (each name list body) (joined-joined next b c)

pub with_statement-fits : (blocks : List Block) (body statement : Code) → nesting statement ≤ nesting_limit → with_statement blocks body statement ≡ Some (build blocks (joined body statement))
with_statement-fits blocks body statement h = rw (le-leb (nesting statement) nesting_limit h) refl

-- ---- a block that ends

-- the statement that a block becomes with its last body
abbrev pub ended : Block → Code → Code
ended (If on before) body = branch on body stop stop
ended (Else on first before) body = branch on first body stop
ended (Repeat count before) body = again count body stop
ended (Each name list before) body = each name list body stop

built-close : (block : Block) (around : List Block) (body : Code) → nesting (ended block body) ≤ nesting_limit
    → built (build (block ∷ around) body) close ≡ Some (build around (joined (before_block block) (ended block body)))
built-close (If on before) around body h = with_statement-fits around before (branch on body stop stop) h
built-close (Else on first before) around body h = with_statement-fits around before (branch on first body stop) h
built-close (Repeat count before) around body h = with_statement-fits around before (again count body stop) h
built-close (Each name list before) around body h = with_statement-fits around before (each name list body stop) h

-- ---- a statement is allowed if it can be spelled and takes fields from registers only if it may

may_stand : (registers : Bool) (s : Simple) → IsSpelledSimple s → TakesSimple registers s → MayStandSimple registers s
may_stand registers (get_at to from at) h t = (h, t)
may_stand registers (set_at to at value) h t = (h, t)
may_stand registers s h t = h

spelled_simple : (registers : Bool) (s : Simple) → MayStandSimple registers s → IsSpelledSimple s
spelled_simple registers (get_at to from at) h = h.0
spelled_simple registers (set_at to at value) h = h.0
spelled_simple registers s h = h

takes_simple : (registers : Bool) (s : Simple) → MayStandSimple registers s → TakesSimple registers s
takes_simple registers (get_at to from at) h = h.1
takes_simple registers (set_at to at value) h = h.1
takes_simple registers s h = tt

pub takes_all : (c : Code) → Takes true c
takes_all stop = tt
takes_all (plain s next) = (of_simple s, takes_all next)
  where
    of_simple : (a : Simple) → TakesSimple true a
    of_simple (get_at to from at) = refl
    of_simple (set_at to at value) = refl
    of_simple a = tt
takes_all (branch on body other next) = (takes_all body, takes_all other, takes_all next)
takes_all (again count body next) = (takes_all body, takes_all next)
takes_all (each name list body next) = (takes_all body, takes_all next)

-- ---- the lines of a body may follow each other

abbrev StepsTo : (registers : Bool) → Build → List Line → Build → Type 0
StepsTo registers b lines t = Steps (MayInside registers) built_on b lines t

no_lines : (c : Code) → SpellsBody c [] → c ≡ stop
no_lines stop h = refl
no_lines (plain s next) h = absurd (let e = h.1 in cc)
no_lines (branch on body other next) (first, second, rest, a, b, c, inl e) = absurd cc
no_lines (branch on body other next) (first, second, rest, a, b, c, inr e) = absurd (let f = e.1 in cc)
no_lines (again count body next) h = absurd (let e = h.4 in cc)
no_lines (each name list body next) h = absurd (let e = h.4 in cc)

-- a statement, and those after it
followed : (registers : Bool) (blocks : List Block) (body statement next : Code) (lines : List Line)
    → StepsTo registers (build blocks (joined body statement)) lines (build blocks (joined (joined body statement) next))
    → StepsTo registers (build blocks (joined body statement)) lines (build blocks (joined body (joined statement next)))
followed registers blocks body statement next lines h =
    subst (λ (c : Code). StepsTo registers (build blocks (joined body statement)) lines (build blocks c)) (joined-joined body statement next) h

closed : (registers : Bool) (block : Block) (around : List Block) (body : Code) (rest : List Line) (t : Build) → nesting (ended block body) ≤ nesting_limit
    → StepsTo registers (build around (joined (before_block block) (ended block body))) rest t → StepsTo registers (build (block ∷ around) body) (close ∷ rest) t
closed registers block around body rest t h steps = ((tt, tt), subst (λ (x : Build). StepsTo registers x rest t) (sym (ap (built_or (build (block ∷ around) body)) (built-close block around body h))) steps)

pub body_steps : (registers : Bool) (code : Code) (lines : List Line) (b : Build) → SpellsBody code lines → IsSpelled (lists_in b.blocks) code → Takes registers code → length b.blocks + nesting code ≤ nesting_limit
    → Steps (MayInside registers) built_on b lines (record { blocks = b.blocks; body = joined b.body code })
body_steps registers stop lines b spelled fits takes deep = rw spelled (ap (build b.blocks) (sym (joined-stop b.body)))
body_steps registers (plain s next) lines b (rest, e, spelled) fits takes deep =
    let behind = body_steps registers next rest (build b.blocks (joined b.body (plain s stop))) spelled fits.1 takes.1 deep in
    rw e ((may_stand registers s fits.0 takes.0, tt), followed registers b.blocks b.body (plain s stop) next rest behind)
body_steps registers (branch on body other next) lines b (first, second, rest, p, q, r, inl e) fits takes deep =
    let one = body_steps registers body first (build (If on b.body ∷ b.blocks) stop) p fits.1 takes.0 (omega (arith, deep)) in
    let two = body_steps registers other second (build (Else on body b.body ∷ b.blocks) stop) q fits.2 takes.1 (omega (arith, deep)) in
    let behind = body_steps registers next rest (build b.blocks (joined b.body (branch on body other stop))) r fits.3 takes.2 (omega (arith, deep)) in
    let last = closed registers (Else on body b.body) b.blocks other rest _ (omega (arith, deep)) (followed registers b.blocks b.body (branch on body other stop) next rest behind) in
    let parted = Steps-append (MayInside registers) built_on (build (Else on body b.body ∷ b.blocks) stop) (build (Else on body b.body ∷ b.blocks) other) _ second (close ∷ rest) two last in
    let inside = Steps-append (MayInside registers) built_on (build (If on b.body ∷ b.blocks) stop) (build (If on b.body ∷ b.blocks) body) _ first (otherwise ∷ (second ++ close ∷ rest)) one ((refl, tt), parted) in
    rw e (((omega (arith, deep), fits.0), tt), inside)
body_steps registers (branch on body other next) lines b (first, second, rest, p, q, r, inr (none, e)) fits takes deep =
    let empty : other ≡ stop = no_lines other (subst (SpellsBody other) none q) in
    let one = body_steps registers body first (build (If on b.body ∷ b.blocks) stop) p fits.1 takes.0 (omega (arith, deep)) in
    let behind = body_steps registers next rest (build b.blocks (joined b.body (branch on body other stop))) r fits.3 takes.2 (omega (arith, deep)) in
    let all = followed registers b.blocks b.body (branch on body other stop) next rest behind in
    let last = closed registers (If on b.body) b.blocks body rest (build b.blocks (joined b.body (branch on body other next))) (omega (arith, deep)) (subst (λ (c : Code). StepsTo registers (build b.blocks (joined b.body (branch on body c stop))) rest (build b.blocks (joined b.body (branch on body other next)))) empty all) in
    let inside = Steps-append (MayInside registers) built_on (build (If on b.body ∷ b.blocks) stop) (build (If on b.body ∷ b.blocks) body) _ first (close ∷ rest) one last in
    rw e (((omega (arith, deep), fits.0), tt), inside)
body_steps registers (again count body next) lines b (first, rest, p, r, e) fits takes deep =
    let turn = body_steps registers body first (build (Repeat count b.body ∷ b.blocks) stop) p fits.1 takes.0 (omega (arith, deep)) in
    let behind = body_steps registers next rest (build b.blocks (joined b.body (again count body stop))) r fits.2 takes.1 (omega (arith, deep)) in
    let last = closed registers (Repeat count b.body) b.blocks body rest _ (omega (arith, deep)) (followed registers b.blocks b.body (again count body stop) next rest behind) in
    let inside = Steps-append (MayInside registers) built_on (build (Repeat count b.body ∷ b.blocks) stop) (build (Repeat count b.body ∷ b.blocks) body) _ first (close ∷ rest) turn last in
    rw e (((omega (arith, deep), fits.0), tt), inside)
body_steps registers (each name list body next) lines b (first, rest, p, r, e) fits takes deep =
    let turn = body_steps registers body first (build (Each name list b.body ∷ b.blocks) stop) p fits.1 takes.0 (omega (arith, deep)) in
    let behind = body_steps registers next rest (build b.blocks (joined b.body (each name list body stop))) r fits.2 takes.1 (omega (arith, deep)) in
    let last = closed registers (Each name list b.body) b.blocks body rest _ (omega (arith, deep)) (followed registers b.blocks b.body (each name list body stop) next rest behind) in
    let inside = Steps-append (MayInside registers) built_on (build (Each name list b.body ∷ b.blocks) stop) (build (Each name list b.body ∷ b.blocks) body) _ first (close ∷ rest) turn last in
    rw e (((omega (arith, deep), fits.0), tt), inside)

-- ---- lines that may follow each other are those of what they build

pub SpellsBody-joined : (a b : Code) (x y : List Line) → SpellsBody a x → SpellsBody b y → SpellsBody (joined a b) (x ++ y)
SpellsBody-joined stop b x y p q = rw p q
SpellsBody-joined (plain s a) b x y (rest, e, p) q = (rest ++ y, rw e refl, SpellsBody-joined a b rest y p q)
SpellsBody-joined (branch on body other a) b x y (first, second, rest, p, r, s, inl e) q =
    let all : x ++ y ≡ test on ∷ (first ++ otherwise ∷ (second ++ close ∷ (rest ++ y))) =
    rw (e, append_assoc first (otherwise ∷ (second ++ (close ∷ rest))) y, append_assoc second (close ∷ rest) y) refl in
    (first, second, rest ++ y, p, r, SpellsBody-joined a b rest y s q, inl all)
SpellsBody-joined (branch on body other a) b x y (first, second, rest, p, r, s, inr (none, e)) q =
    let all : x ++ y ≡ test on ∷ (first ++ close ∷ (rest ++ y)) = rw (e, append_assoc first (close ∷ rest) y) refl in
    (first, second, rest ++ y, p, r, SpellsBody-joined a b rest y s q, inr (none, all))
SpellsBody-joined (again count body a) b x y (first, rest, p, s, e) q =
    (first, rest ++ y, p, SpellsBody-joined a b rest y s q, rw (e, append_assoc first (close ∷ rest) y) refl)
SpellsBody-joined (each name list body a) b x y (first, rest, p, s, e) q =
    (first, rest ++ y, p, SpellsBody-joined a b rest y s q, rw (e, append_assoc first (close ∷ rest) y) refl)

pub IsSpelled-joined : (lists : ℕ) (a b : Code) → IsSpelled lists a → IsSpelled lists b → IsSpelled lists (joined a b)
IsSpelled-joined lists stop b p q = q
IsSpelled-joined lists (plain s a) b p q = (p.0, IsSpelled-joined lists a b p.1 q)
IsSpelled-joined lists (branch on body other a) b p q = (p.0, p.1, p.2, IsSpelled-joined lists a b p.3 q)
IsSpelled-joined lists (again count body a) b p q = (p.0, p.1, IsSpelled-joined lists a b p.2 q)
IsSpelled-joined lists (each name list body a) b p q = (p.0, p.1, IsSpelled-joined lists a b p.2 q)

Takes-joined : (registers : Bool) (a b : Code) → Takes registers a → Takes registers b → Takes registers (joined a b)
Takes-joined registers stop b p q = q
Takes-joined registers (plain s a) b p q = (p.0, Takes-joined registers a b p.1 q)
Takes-joined registers (branch on body other a) b p q = (p.0, p.1, Takes-joined registers a b p.2 q)
Takes-joined registers (again count body a) b p q = (p.0, Takes-joined registers a b p.1 q)
Takes-joined registers (each name list body a) b p q = (p.0, Takes-joined registers a b p.1 q)

FitsBody-joined : (registers : Bool) (blocks lists : ℕ) (a b : Code) → FitsBody registers blocks lists a → FitsBody registers blocks lists b → FitsBody registers blocks lists (joined a b)
FitsBody-joined registers blocks lists a b p q = (IsSpelled-joined lists a b p.0 q.0, omega (arith, p.1, q.1, nesting-joined a b), Takes-joined registers a b p.2 q.2)

-- more lines after those that were read
behind : (outer inside lines more : List Line) → lines ≡ outer ++ inside → lines ++ more ≡ outer ++ (inside ++ more)
behind outer inside lines more e = rw e (append_assoc outer inside more)

-- ---- a block that opens

Front-opened : (block : Block) (around : List Block) (lines : List Line) (l : Line) → BeginsBlock block (l ∷ []) → Front (build around (before_block block)) lines
    → Front (build (block ∷ around) stop) (lines ++ l ∷ [])
Front-opened block around lines l begins (outer, inside, p, q, e) =
    (lines ++ l ∷ [], [], (outer, inside, l ∷ [], p, q, begins, behind outer inside lines (l ∷ []) e), refl, sym (append-nil (lines ++ l ∷ [])))

-- ---- a block that ends

ended_spelled : (block : Block) (body : Code) (begun inside : List Line) → BeginsBlock block begun → SpellsBody body inside → SpellsBody (ended block body) (begun ++ (inside ++ close ∷ []))
ended_spelled (If on before) body begun inside e p = rw e (inside, [], [], p, refl, refl, inr (refl, refl))
ended_spelled (Else on first before) body begun inside (lines, q, e) p =
    let all : begun ++ (inside ++ close ∷ []) ≡ test on ∷ (lines ++ otherwise ∷ (inside ++ close ∷ [])) = rw (e, append_assoc lines (otherwise ∷ []) (inside ++ close ∷ [])) refl in
    (lines, inside, [], q, p, refl, inl all)
ended_spelled (Repeat count before) body begun inside e p = rw e (inside, [], p, refl, refl)
ended_spelled (Each name list before) body begun inside e p = rw e (inside, [], p, refl, refl)

Front-ended : (block : Block) (around : List Block) (body : Code) (lines : List Line) → Front (build (block ∷ around) body) lines
    → Front (build around (joined (before_block block) (ended block body))) (lines ++ close ∷ [])
Front-ended block around body lines (fronts, inside, (outer, before, begun, p, q, r, e), sp, f) =
    let all : lines ++ close ∷ [] ≡ outer ++ (before ++ (begun ++ (inside ++ close ∷ []))) =
    behind fronts inside lines (close ∷ []) f ∙ behind outer (before ++ begun) fronts (inside ++ close ∷ []) e ∙ ap (λ (x : List Line). outer ++ x) (append_assoc before begun (inside ++ close ∷ [])) in
    (outer, before ++ (begun ++ (inside ++ close ∷ [])), p, SpellsBody-joined (before_block block) (ended block body) before (begun ++ (inside ++ close ∷ [])) q (ended_spelled block body begun inside r sp), all)

ended_fits : (registers : Bool) (block : Block) (around : List Block) (body : Code) → FitsBuild registers (build (block ∷ around) body) → FitsBody registers (length around) (lists_in around) (ended block body)
ended_fits registers (If on before) around body ((outer, room, spelled, b, first), (fits, deep, takes)) = ((spelled, fits, tt, tt), omega (arith, deep), (takes, tt, tt))
ended_fits registers (Else on one before) around body ((outer, room, spelled, b, first), (fits, deep, takes)) = ((spelled, first.0, fits, tt), omega (arith, deep, first.1), (first.2, takes, tt))
ended_fits registers (Repeat count before) around body ((outer, room, spelled, b, first), (fits, deep, takes)) = ((spelled, fits, tt), omega (arith, deep), (takes, tt))
ended_fits registers (Each name list before) around body ((outer, room, spelled, b, first), (fits, deep, takes)) = ((spelled, fits, tt), omega (arith, deep), (takes, tt))

ended_deep : (registers : Bool) (block : Block) (around : List Block) (body : Code) → FitsBuild registers (build (block ∷ around) body) → nesting (ended block body) ≤ nesting_limit
ended_deep registers block around body fits = let h = ended_fits registers block around body fits in omega (arith, h.1)

FitsBuild-ended : (registers : Bool) (block : Block) (around : List Block) (body : Code) → FitsBuild registers (build (block ∷ around) body) → FitsBuild registers (build around (joined (before_block block) (ended block body)))
FitsBuild-ended registers block around body fits =
    (fits.0.0, FitsBody-joined registers (length around) (lists_in around) (before_block block) (ended block body) fits.0.3 (ended_fits registers block around body fits))

-- ---- one line

-- what a line that may follow leads to: what was built still fits, and its lines are those that were read, including
-- this one
record On (registers : Bool) (blocks : List Block) (body : Code) (l : Line) : Type 0 where
  next : Build
  taken : built (build blocks body) l ≡ Some next
  fits : FitsBuild registers next
  front : (lines : List Line) → Front (build blocks body) lines → Front next (lines ++ l ∷ [])

statement_front : (blocks : List Block) (body : Code) (s : Simple) (lines : List Line) → Front (build blocks body) lines → Front (build blocks (joined body (plain s stop))) (lines ++ simple s ∷ [])
statement_front blocks body s lines (outer, inside, p, q, e) =
    (outer, inside ++ simple s ∷ [], p, SpellsBody-joined body (plain s stop) inside (simple s ∷ []) q ([], refl, refl), behind outer inside lines (simple s ∷ []) e)

statement_on : (registers : Bool) (blocks : List Block) (body : Code) (s : Simple) → FitsBuild registers (build blocks body) → MayInside registers (build blocks body) (simple s) → On registers blocks body (simple s)
statement_on registers blocks body s fits may = record {
  next = build blocks (joined body (plain s stop));
  taken = refl;
  fits = (fits.0, FitsBody-joined registers (length blocks) (lists_in blocks) body (plain s stop) fits.1 ((spelled_simple registers s may.0, tt), omega (arith, fits.1.1), (takes_simple registers s may.0, tt)));
  front = λ lines f. statement_front blocks body s lines f;
}

opened_on : (registers : Bool) (block : Block) (around : List Block) (l : Line) → built (build around (before_block block)) l ≡ Some (build (block ∷ around) stop) → BeginsBlock block (l ∷ []) → FitsBuild registers (build around (before_block block))
    → length around < nesting_limit → IsSpelledLine (lists_in around) (opening block) → FitsFirst registers around block → On registers around (before_block block) l
opened_on registers block around l taken begins fits room spelled first = record {
  next = build (block ∷ around) stop;
  taken = taken;
  fits = ((fits.0, room, spelled, fits.1, first), (tt, omega (arith, room), tt));
  front = λ lines f. Front-opened block around lines l begins f;
}

part_front : (on : ℕ) (before body : Code) (around : List Block) (lines : List Line) → Front (build (If on before ∷ around) body) lines → Front (build (Else on body before ∷ around) stop) (lines ++ otherwise ∷ [])
part_front on before body around lines (fronts, inside, (outer, b, begun, p, q, r, e), sp, f) =
    let inner : begun ++ (inside ++ otherwise ∷ []) ≡ test on ∷ (inside ++ otherwise ∷ []) = rw r refl in
    let all : lines ++ otherwise ∷ [] ≡ outer ++ (b ++ (test on ∷ (inside ++ otherwise ∷ []))) =
    behind fronts inside lines (otherwise ∷ []) f
    ∙ behind outer (b ++ begun) fronts (inside ++ otherwise ∷ []) e
    ∙ ap (λ (x : List Line). outer ++ x) (append_assoc b begun (inside ++ otherwise ∷ []) ∙ ap (λ (x : List Line). b ++ x) inner) in
    (lines ++ otherwise ∷ [], [], (outer, b, test on ∷ (inside ++ otherwise ∷ []), p, q, (inside, sp, refl), all), refl, sym (append-nil (lines ++ otherwise ∷ [])))

part_on : (registers : Bool) (blocks : List Block) (body : Code) → FitsBuild registers (build blocks body) → MayInside registers (build blocks body) otherwise → On registers blocks body otherwise
part_on registers (If on before ∷ around) body fits may = record {
  next = build (Else on body before ∷ around) stop;
  taken = refl;
  fits = ((fits.0.0, fits.0.1, fits.0.2, fits.0.3, (fits.1.0, omega (arith, fits.1.1), fits.1.2)), (tt, omega (arith, fits.0.1), tt));
  front = λ lines f. part_front on before body around lines f;
}
part_on registers blocks body fits may = absurd (let e = may.0 in cc)

end_on : (registers : Bool) (blocks : List Block) (body : Code) → FitsBuild registers (build blocks body) → MayInside registers (build blocks body) close → On registers blocks body close
end_on registers [] body fits may = absurd may.1
end_on registers (block ∷ around) body fits may = record {
  next = build around (joined (before_block block) (ended block body));
  taken = built-close block around body (ended_deep registers block around body fits);
  fits = FitsBuild-ended registers block around body fits;
  front = λ lines f. Front-ended block around body lines f;
}

line_on : (registers : Bool) (blocks : List Block) (body : Code) (l : Line) → FitsBuild registers (build blocks body) → MayInside registers (build blocks body) l → On registers blocks body l
line_on registers blocks body (simple s) fits may = statement_on registers blocks body s fits may
line_on registers blocks body (test on) fits may = opened_on registers (If on body) blocks (test on) refl refl fits may.0.0 may.0.1 tt
line_on registers blocks body (turns count) fits may = opened_on registers (Repeat count body) blocks (turns count) refl refl fits may.0.0 may.0.1 tt
line_on registers blocks body (over name list) fits may = opened_on registers (Each name list body) blocks (over name list) refl refl fits may.0.0 may.0.1 tt
line_on registers blocks body otherwise fits may = part_on registers blocks body fits may
line_on registers blocks body close fits may = end_on registers blocks body fits may

pub fits_step : (registers : Bool) (b : Build) (l : Line) → FitsBuild registers b → MayInside registers b l → FitsBuild registers (built_on b l)
fits_step registers b l fits may = let on = line_on registers b.blocks b.body l fits may in subst (FitsBuild registers) (sym (ap (built_or b) on.taken)) on.fits

-- the result of a step on such a line
pub IsBuilt-inside : (registers : Bool) (b now : Build) (l : Line) (taken : Bool) → FitsBuild registers b → MayInside registers b l → IsBuilt (built b l) taken now → (taken ≡ true) × (now ≡ built_on b l)
IsBuilt-inside registers b now l taken fits may h =
    let on = line_on registers b.blocks b.body l fits may in
    let due : IsBuilt (Some on.next) taken now = subst (λ (x : Option Build). IsBuilt x taken now) on.taken h in
    (due.0, due.1 ∙ sym (ap (built_or b) on.taken))

-- ---- all lines

pub front_step : (registers : Bool) (b : Build) (l : Line) (lines : List Line) → Front b lines → FitsBuild registers b → MayInside registers b l → Front (built_on b l) (lines ++ l ∷ []) × FitsBuild registers (built_on b l)
front_step registers b l lines front fits may =
    let on = line_on registers b.blocks b.body l fits may in
    (subst (λ (x : Build). Front x (lines ++ l ∷ [])) (sym (ap (built_or b) on.taken)) (on.front lines front), fits_step registers b l fits may)

pub front_whole : (registers : Bool) (blocks : List Block) (body : Code) (lines : List Line) → blocks ≡ [] → Front (build blocks body) lines → FitsBuild registers (build blocks body)
    → SpellsBody body lines × IsSpelled 0 body × (nesting body ≤ nesting_limit) × Takes registers body
front_whole registers [] body lines e (outer, inside, p, q, f) fits = (subst (SpellsBody body) (sym (f ∙ ap (λ (x : List Line). x ++ inside) p)) q, fits.1.0, omega (arith, fits.1.1), fits.1.2)
front_whole registers (block ∷ around) body lines e front fits = absurd cc

-- one `end` for each open block
pub ends : (registers : Bool) (blocks : List Block) (body : Code) → FitsBuild registers (build blocks body) → (more : List Line) × (c : Code) × Steps (MayInside registers) built_on (build blocks body) more (build [] c)
ends registers [] body fits = ([], body, refl)
ends registers (block ∷ around) body fits =
    let rest = ends registers around (joined (before_block block) (ended block body)) (FitsBuild-ended registers block around body fits) in
    (close ∷ rest.0, rest.1, closed registers block around body rest.0 (build [] rest.1) (ended_deep registers block around body fits) rest.2)
