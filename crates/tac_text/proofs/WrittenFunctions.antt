-- A function's written text is a text of the function, with any bytes after it.
use Rattle.std.proofs.Common.{◌≡◌, ◌<◌, ◌+◌, ℕ, Bool, List, [], ◌∷◌, ◌++◌, length, drop, get_or, ap, sym, ◌∙◌, append_assoc, ◌≤◌, inl, inr, true, map, refl, subst, arith, length-append}
use Rattle.std.proofs.lemmas.List.{at_drop_more, map-append}
use Rattle.tac_syntax.specs.Code.{Code, stop, simple, test, turns, over, close, plain, branch, again, each, Line, otherwise, nesting}
use Rattle.tac_syntax.specs.Coding.{is_stop}
use Rattle.tac_syntax.specs.declared.statements.Stmt.{Stmt}
use Rattle.tac_syntax.specs.Trees.{Statement, one_line, choice, turning, going_through, onto, statement_of, code_of, only}
use Rattle.tac_text.specs.FunctionSpelling.{at_depth, body_text, other_text, function_spelling}
use Rattle.std.proofs.Math.Seq.{drop-append_seam}
use Rattle.tac_syntax.specs.declared.functions.Function.{Function}
use Rattle.tac_syntax.specs.FieldRegisters.{Takes}
use Rattle.tac_syntax.specs.Functions.{IsSpelledFunction}
use Rattle.tac_syntax.specs.Grammar.{IsSpelled, IsSpelledLine}
use Rattle.tac_syntax.specs.Limits.{nesting_limit}
use Rattle.text_lines.specs.CanonicalLines.{canonical_line, line_spelling, line_text, word_text}
use Rattle.text_lines.specs.declared.line_words.LineWord.{LineWord}
use Rattle.text_lines.specs.TextLines.{lines_of}
use Rattle.text_lines.proofs.CanonicalLines.{AreLineWords-fine, HasWords-canonical_line, IsWritten, IsWritten-append, line_written, nothing_written}
use Rattle.tac_text.specs.StatementSpelling.{words_of_line}
use Rattle.tac_text.proofs.StatementWords.{words_of_line-some, AreFine-words_of_line}
use Rattle.tac_text.specs.FunctionLines.{SpellsBody, header_words, FunctionText, SpellsFunction, FunctionAt}
use Rattle.tac_text.proofs.HeaderWords.{AreFine-header_words}

-- ---- a body, statement after statement

-- the parts of a block, and a text after it
block_then : (a b c d : List ℕ) → a ++ (b ++ (c ++ d)) ≡ (a ++ (b ++ (c ++ []))) ++ d
block_then a b c d = simp append_assoc

branch_then : (a b o c d : List ℕ) → a ++ (b ++ (o ++ (c ++ d))) ≡ (a ++ (b ++ (o ++ (c ++ [])))) ++ d
branch_then a b o c d = simp append_assoc

body_text-onto : (depth : ℕ) (s : Statement) (c : Code) → body_text depth (onto s c) ≡ body_text depth (onto s stop) ++ body_text depth c
body_text-onto depth (one_line s) c = sym (append_assoc (at_depth depth (simple s)) [] (body_text depth c))
body_text-onto depth (choice on body other) c =
    branch_then (at_depth depth (test on)) (body_text (depth + 1) body) (other_text depth (is_stop other) (body_text (depth + 1) other)) (at_depth depth close) (body_text depth c)
body_text-onto depth (turning count body) c = block_then (at_depth depth (turns count)) (body_text (depth + 1) body) (at_depth depth close) (body_text depth c)
body_text-onto depth (going_through name list body) c = block_then (at_depth depth (over name list)) (body_text (depth + 1) body) (at_depth depth close) (body_text depth c)

-- After one more statement, the statements after it are left to write.
pub written_more : (now new whole : List ℕ) (depth : ℕ) (stmts : List Stmt) (n : ℕ) (stmt : Stmt) → n < length stmts → stmt ≡ get_or stmts n stmt → now ++ body_text depth (code_of (drop n stmts)) ≡ whole
    → new ≡ now ++ body_text depth (only stmt) → new ++ body_text depth (code_of (drop (n + 1) stmts)) ≡ whole
written_more now new whole depth stmts n stmt h e before more =
    let left = body_text depth (code_of (drop (n + 1) stmts)) in
    let next = at_drop_more (λ (l : List Stmt). body_text depth (code_of l)) stmts n stmt h ∙ ap (λ (s : Stmt). body_text depth (code_of (s ∷ drop (n + 1) stmts))) (sym e) in
    ap (λ (l : List ℕ). l ++ left) more
    ∙ append_assoc now (body_text depth (only stmt)) left
    ∙ ap (λ (l : List ℕ). now ++ l) (sym (next ∙ body_text-onto depth (statement_of stmt) (code_of (drop (n + 1) stmts))))
    ∙ before

-- ---- the lines of a body

record AreWritten (text : List ℕ) (lines : List Line) : Type 0 where
  written : List (List ℕ)
  so : IsWritten text written (map words_of_line lines)

AreWritten-append : (a b : List ℕ) (x y : List Line) → AreWritten a x → AreWritten b y → AreWritten (a ++ b) (x ++ y)
AreWritten-append a b x y h k = record {
  written = h.written ++ k.written;
  so = subst (IsWritten (a ++ b) (h.written ++ k.written)) (sym (map-append words_of_line x y)) (IsWritten-append a b h.written k.written (map words_of_line x) (map words_of_line y) h.so k.so);
}

-- a line before others
AreWritten-line : (depth lists : ℕ) (l : Line) (rest : List ℕ) (lines : List Line) → IsSpelledLine lists l → AreWritten rest lines → AreWritten (at_depth depth l ++ rest) (l ∷ lines)
AreWritten-line depth lists l rest lines h k =
    let words = words_of_line l in
    AreWritten-append (at_depth depth l) rest (l ∷ []) lines (record { written = canonical_line depth words ∷ []; so = line_written depth words (AreFine-words_of_line lists l h) (words_of_line-some lists l h) }) k

record BodyWritten (depth : ℕ) (c : Code) : Type 0 where
  lines : List Line
  spelled : SpellsBody c lines
  are : AreWritten (body_text depth c) lines

-- a block of one body
AreWritten-block : (depth lists : ℕ) (l : Line) (inner rest : List ℕ) (x y : List Line) → IsSpelledLine lists l → AreWritten inner x → AreWritten rest y
    → AreWritten (at_depth depth l ++ (inner ++ (at_depth depth close ++ rest))) (l ∷ (x ++ close ∷ y))
AreWritten-block depth lists l inner rest x y h p q =
    AreWritten-line depth lists l _ _ h (AreWritten-append inner (at_depth depth close ++ rest) x (close ∷ y) p (AreWritten-line depth lists close rest y tt q))

branch_written : (depth lists on : ℕ) (body other next : Code) → IsSpelledLine lists (test on) → BodyWritten (depth + 1) body → BodyWritten (depth + 1) other → BodyWritten depth next → BodyWritten depth (branch on body other next)
branch_written depth lists on body stop next h p q r = record {
  lines = test on ∷ (p.lines ++ close ∷ r.lines);
  spelled = (p.lines, [], r.lines, p.spelled, refl, r.spelled, inr (refl, refl));
  are = AreWritten-block depth lists (test on) (body_text (depth + 1) body) (body_text depth next) p.lines r.lines h p.are r.are;
}
branch_written depth lists on body other next h p q r =
    let second = AreWritten-line depth lists otherwise (body_text (depth + 1) other) q.lines tt q.are in
    let behind = AreWritten-append (at_depth depth otherwise ++ body_text (depth + 1) other) (at_depth depth close ++ body_text depth next) (otherwise ∷ q.lines) (close ∷ r.lines) second
    (AreWritten-line depth lists close (body_text depth next) r.lines tt r.are) in
    record {
      lines = test on ∷ (p.lines ++ otherwise ∷ (q.lines ++ close ∷ r.lines));
      spelled = (p.lines, q.lines, r.lines, p.spelled, q.spelled, r.spelled, inl refl);
      are = AreWritten-line depth lists (test on) _ _ h (AreWritten-append (body_text (depth + 1) body) _ p.lines _ p.are behind);
    }

body_written : (depth lists : ℕ) (c : Code) → IsSpelled lists c → BodyWritten depth c
body_written depth lists stop h = record { lines = []; spelled = refl; are = record { written = []; so = nothing_written } }
body_written depth lists (plain s next) h =
    let rest = body_written depth lists next h.1 in
    record { lines = simple s ∷ rest.lines; spelled = (rest.lines, refl, rest.spelled); are = AreWritten-line depth lists (simple s) (body_text depth next) rest.lines h.0 rest.are }
body_written depth lists (branch on body other next) h =
    branch_written depth lists on body other next h.0 (body_written (depth + 1) lists body h.1) (body_written (depth + 1) lists other h.2) (body_written depth lists next h.3)
body_written depth lists (again count body next) h =
    let inner = body_written (depth + 1) lists body h.1 in
    let rest = body_written depth lists next h.2 in
    record {
      lines = turns count ∷ (inner.lines ++ close ∷ rest.lines);
      spelled = (inner.lines, rest.lines, inner.spelled, rest.spelled, refl);
      are = AreWritten-block depth lists (turns count) (body_text (depth + 1) body) (body_text depth next) inner.lines rest.lines h.0 inner.are rest.are;
    }
body_written depth lists (each name list body next) h =
    let inner = body_written (depth + 1) (lists + 1) body h.1 in
    let rest = body_written depth lists next h.2 in
    record {
      lines = over name list ∷ (inner.lines ++ close ∷ rest.lines);
      spelled = (inner.lines, rest.lines, inner.spelled, rest.spelled, refl);
      are = AreWritten-block depth lists (over name list) (body_text (depth + 1) body) (body_text depth next) inner.lines rest.lines h.0 inner.are rest.are;
    }

-- ---- functions

abbrev pub last_line : List ℕ
last_line = canonical_line 0 (words_of_line close)

pub record FunctionWritten (f : Function) : Type 0 where
  pub front : List (List ℕ)
  pub said : List (List LineWord)
  pub spelled : SpellsFunction f said
  pub so : IsWritten (function_spelling f) (front ++ last_line ∷ []) said

pub function_written : (f : Function) → IsSpelledFunction f → FunctionWritten f
function_written f h =
    let header = header_words f.name f.kind f.keys in
    let body = body_written 1 0 f.body h.body in
    let first = line_written 0 header (AreFine-header_words f.name f.kind f.keys (h.name, h.keys)) (λ e. absurd cc) in
    let last = line_written 0 (words_of_line close) (refl, tt) (λ e. absurd cc) in
    let inside = IsWritten-append (body_text 1 f.body) (at_depth 0 close) body.are.written (last_line ∷ []) (map words_of_line body.lines) (words_of_line close ∷ []) body.are.so last in
    record {
      front = canonical_line 0 header ∷ body.are.written;
      said = header ∷ (map words_of_line body.lines ++ words_of_line close ∷ []);
      spelled = (body.lines, body.spelled, refl);
      so = IsWritten-append (line_spelling 0 header) (body_text 1 f.body ++ at_depth 0 close) (canonical_line 0 header ∷ []) (body.are.written ++ last_line ∷ []) (header ∷ []) _ first inside;
    }

pub FunctionAt-written : (registers : Bool) (f : Function) (written : List ℕ) → IsSpelledFunction f → Takes registers f.body → nesting f.body ≤ nesting_limit → written ≡ function_spelling f → (rest : List ℕ)
    → FunctionAt registers f (written ++ rest) 0 (length written)
FunctionAt-written registers f written h takes deep e rest =
    let w = function_written f h in
    let lines = ap (λ (x : List ℕ). lines_of (x ++ rest)) e ∙ w.so.parts rest in
    let behind = ap (λ (x : List ℕ). (w.front ++ last_line ∷ []) ++ lines_of x) (sym (drop-append_seam written rest)) in
    let text : FunctionText registers f (w.front ++ last_line ∷ []) = record { said = w.said; says = w.so.says; spelled = w.spelled; writable = (h, deep); takes = takes } in
    let ends = HasWords-canonical_line 0 (words_of_line close) (AreLineWords-fine (words_of_line close) (refl, tt)) in
    (w.front ++ last_line ∷ [], omega arith, omega (arith, length-append written rest), lines ∙ behind, text, (w.front, last_line, refl, ends))

-- The parts of a function, written one after another, are its spelling.
pub function_spelling-parts : (f : Function) (words : List (List ℕ)) (empty first inside all : List ℕ) → empty ≡ [] → words ≡ map word_text (header_words f.name f.kind f.keys)
    → first ≡ empty ++ line_text 0 words → inside ≡ first ++ body_text 1 f.body → all ≡ inside ++ at_depth 0 close → all ≡ function_spelling f
function_spelling-parts f words empty first inside all e head a b c =
    c ∙ ap (λ (x : List ℕ). x ++ at_depth 0 close) (b ∙ ap (λ (x : List ℕ). x ++ body_text 1 f.body) (a ∙ (λ i. e i ++ line_text 0 (head i))))
    ∙ append_assoc (line_spelling 0 (header_words f.name f.kind f.keys)) (body_text 1 f.body) (at_depth 0 close)
