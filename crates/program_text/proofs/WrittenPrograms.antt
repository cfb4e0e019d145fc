-- The canonical spelling of a program is a text of it.
use Rattle.std.proofs.Common.{◌≡◌, ◌≤◌, ◌<◌, ◌+◌, ℕ, zero, suc, List, [], ◌∷◌, ◌++◌, flat_map, length, drop, slice_get, Option, Some, None, refl, ap, sym, subst, ◌∙◌, append_assoc, append-nil, arith}
use Rattle.std.specs.List.{AllByRecursion}
use Rattle.std.proofs.lemmas.List.{drop_all}
use Rattle.tac_syntax.specs.declared.declarations.Decl.{Decl}
use Rattle.tac_syntax.specs.declared.declarations.Decl.TheVariants.{Function as FunctionDecl}
use Rattle.tac_syntax.specs.Drafts.{AreDeclared, DraftData, IsSpelledDraft}
use Rattle.tac_syntax.specs.declared.functions.Function.{Function}
use Rattle.tac_syntax.specs.Code.{nesting}
use Rattle.tac_syntax.specs.Functions.{IsSpelledFunction}
use Rattle.tac_syntax.specs.Limits.{nesting_limit}
use Rattle.tac_text.specs.FunctionSpelling.{function_spelling}
use Rattle.tac_text.proofs.WrittenFunctions.{function_written, last_line}
use Rattle.text_lines.specs.CanonicalLines.{canonical_line, line_spelling}
use Rattle.text_lines.specs.declared.line_words.LineWord.{LineWord}
use Rattle.text_lines.specs.TextLines.{Say, lines_of}
use Rattle.text_lines.proofs.CanonicalLines.{IsWritten, IsWritten-append, Say-written, line_written, nothing_written}
use Rattle.program_text.specs.DeclarationWords.{words_of_decl}
use Rattle.program_text.specs.FirstLines.{IsFieldCount, field_count_words, version_words}
use Rattle.program_text.specs.ProgramTexts.{IsWritableDraft, ProgramText, SpellsDecls, decl_spelling, function_text, program_spelling, CanWrite}
use Rattle.program_text.proofs.ProgramLines.{AreFine-words_of_decl, words_of_decl-some, AreFine-field_count_words, AreFine-version_words}

-- ---- what is declared can be written

nth_spelled : (functions : List Function) (n : ℕ) → n < length functions → AllByRecursion IsSpelledFunction functions → (f : Function) × (slice_get functions n ≡ Some f) × IsSpelledFunction f
nth_spelled [] n lt h = absurd (omega (arith, lt))
nth_spelled (f ∷ functions) zero lt h = (f, refl, h.0)
nth_spelled (f ∷ functions) (suc n) lt h = nth_spelled functions n (omega (arith, lt)) h.1

count_declared : (v n count : ℕ) (decls : List Decl) → AreDeclared v n count decls → n ≤ count
count_declared v n count [] h = omega (arith, h)
count_declared v n count (FunctionDecl number ∷ decls) h = omega (arith, count_declared v (n + 1) count decls h.1)
count_declared v n count (decl ∷ decls) h = count_declared v n count decls h.1

pub all_writable : (v : ℕ) (functions : List Function) (n : ℕ) (decls : List Decl) → AllByRecursion IsSpelledFunction functions → AreDeclared v n (length functions) decls → AllByRecursion (CanWrite v functions) decls
all_writable v functions n [] h a = tt
all_writable v functions n (FunctionDecl number ∷ decls) h a =
    (nth_spelled functions number (omega (arith, a.0, count_declared v (n + 1) (length functions) decls a.1)) h, all_writable v functions (n + 1) decls h a.1)
all_writable v functions n (decl ∷ decls) h a = (a.0, all_writable v functions n decls h a.1)

-- ---- declarations

pub record WrittenDecls (functions later : List Function) (decls : List Decl) : Type 0 where
  pub lines : List (List ℕ)
  pub said : List (List LineWord)
  pub spelled : SpellsDecls later decls said
  pub so : IsWritten (flat_map (decl_spelling functions) decls) lines said

drop_at : (functions : List Function) (n : ℕ) (f : Function) → slice_get functions n ≡ Some f → drop n functions ≡ f ∷ drop (n + 1) functions
drop_at [] n f e = let bad : None ≡ Some f = e in absurd cc
drop_at (g ∷ functions) zero f e = let same : g ≡ f = cc in ap (λ (x : Function). x ∷ functions) same
drop_at (g ∷ functions) (suc n) f e =
    let next : suc n + 1 ≡ suc (n + 1) = omega arith in
    drop_at functions n f e ∙ ap (λ (k : ℕ). f ∷ drop k (g ∷ functions)) (sym next)

decls_written : (v : ℕ) (functions later : List Function) (n : ℕ) (decls : List Decl) → later ≡ drop n functions → AllByRecursion IsSpelledFunction later → AreDeclared v n (length functions) decls → AllByRecursion (CanWrite v functions) decls
    → WrittenDecls functions later decls
decls_written v functions later n [] e w a c =
    let all : later ≡ [] = e ∙ drop_all n functions (omega (arith, a)) in
    record { lines = []; said = []; spelled = (refl, all); so = nothing_written }
decls_written v functions later n (FunctionDecl number ∷ decls) e w a c =
    let f = c.0.0 in
    let here : slice_get functions n ≡ Some f = subst (λ (m : ℕ). slice_get functions m ≡ Some f) a.0 c.0.1 in
    let parts : later ≡ f ∷ drop (n + 1) functions = e ∙ drop_at functions n f here in
    let spelled : AllByRecursion IsSpelledFunction (f ∷ drop (n + 1) functions) = subst (AllByRecursion IsSpelledFunction) parts w in
    let own = function_written f spelled.0 in
    let more = decls_written v functions (drop (n + 1) functions) (n + 1) decls refl spelled.1 a.1 c.1 in
    let rest = flat_map (decl_spelling functions) decls in
    let lines = own.front ++ last_line ∷ [] in
    let both = IsWritten-append (function_spelling f) rest lines more.lines own.said more.said own.so more.so in
    record {
      lines = lines ++ more.lines;
      said = own.said ++ more.said;
      spelled = subst (λ (x : List Function). SpellsDecls x (FunctionDecl number ∷ decls) (own.said ++ more.said)) (sym parts) (own.said, more.said, refl, own.spelled, more.spelled);
      so = subst (λ (x : Option Function). IsWritten (function_text x ++ rest) (lines ++ more.lines) (own.said ++ more.said)) (sym c.0.1) both;
    }
decls_written v functions later n (decl ∷ decls) e w a c =
    let more = decls_written v functions later n decls e w a.1 c.1 in
    let words = words_of_decl decl in
    let line = line_written 0 words (AreFine-words_of_decl v decl c.0) (words_of_decl-some v decl c.0) in
    record {
      lines = canonical_line 0 words ∷ more.lines;
      said = words ∷ more.said;
      spelled = (more.said, refl, more.spelled);
      so = IsWritten-append (line_spelling 0 words) (flat_map (decl_spelling functions) decls) (canonical_line 0 words ∷ []) more.lines (words ∷ []) more.said line more.so;
    }

pub written_text : (d : DraftData) (text : List ℕ) → IsWritableDraft d → text ≡ program_spelling d → ProgramText d (lines_of text)
written_text d text w e =
    let can = all_writable d.version d.functions 0 d.decls w.spelled.functions w.spelled.declared in
    let decls = decls_written d.version d.functions d.functions 0 d.decls refl w.spelled.functions w.spelled.declared can in
    let rest = flat_map (decl_spelling d.functions) d.decls in
    let count : IsFieldCount d.version d.fields = (w.spelled.some_field, w.spelled.few_fields) in
    let second = line_written 0 (field_count_words d.fields) (AreFine-field_count_words d.version d.fields count) (λ e. absurd cc) in
    let behind = IsWritten-append (line_spelling 0 (field_count_words d.fields)) rest _ decls.lines _ decls.said second decls.so in
    let first = line_written 0 (version_words d.version) (AreFine-version_words d.version w.spelled.version) (λ e. absurd cc) in
    let all = IsWritten-append (line_spelling 0 (version_words d.version)) (line_spelling 0 (field_count_words d.fields) ++ rest) _ _ _ _ first behind in
    record {
      said = version_words d.version ∷ field_count_words d.fields ∷ decls.said;
      says = subst (λ (t : List ℕ). Say (lines_of t) (version_words d.version ∷ field_count_words d.fields ∷ decls.said)) (sym e) (Say-written (program_spelling d) _ _ all);
      spelled = (decls.said, refl, decls.spelled);
      writable = w;
    }

-- ---- the writer's loop

pub first_written : (d : DraftData) (functions : List Function) (decls : List Decl) (version fields : ℕ) (out : List ℕ) → functions ≡ d.functions → decls ≡ d.decls → version ≡ d.version → fields ≡ d.fields → IsSpelledDraft d
    → out ≡ line_spelling 0 (version_words version) ++ line_spelling 0 (field_count_words fields) → (out ++ flat_map (decl_spelling functions) decls ≡ program_spelling d) × AllByRecursion (CanWrite d.version functions) decls
first_written d functions decls version fields out f e l k s o = (
  ap (λ (x : List ℕ). x ++ flat_map (decl_spelling functions) decls) o
      ∙ append_assoc (line_spelling 0 (version_words version)) (line_spelling 0 (field_count_words fields)) (flat_map (decl_spelling functions) decls)
      ∙ (λ i. line_spelling 0 (version_words (l i)) ++ (line_spelling 0 (field_count_words (k i)) ++ flat_map (decl_spelling (f i)) (e i))),
  subst (λ (x : List Function). AllByRecursion (CanWrite d.version x) decls) (sym f) (subst (AllByRecursion (CanWrite d.version d.functions)) (sym e) (all_writable d.version d.functions 0 d.decls s.functions s.declared)),
)

pub all_written : (d : DraftData) (functions : List Function) (decls : List Decl) (n : ℕ) (out : List ℕ) → functions ≡ d.functions → length decls ≤ n → IsSpelledDraft d → AllByRecursion (λ f. nesting f.body ≤ nesting_limit) functions
    → out ++ flat_map (decl_spelling functions) (drop n decls) ≡ program_spelling d → ProgramText d (lines_of out)
all_written d functions decls n out f end s k e =
    let none : drop n decls ≡ [] = drop_all n decls end in
    let whole : out ≡ program_spelling d = sym (append-nil out) ∙ ap (λ (x : List Decl). out ++ flat_map (decl_spelling functions) x) (sym none) ∙ e in
    written_text d out (record { spelled = s; nested = subst (AllByRecursion (λ g. nesting g.body ≤ nesting_limit)) f k }) whole
