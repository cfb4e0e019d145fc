-- The lines of a text lead a reader of functions on exactly where a function's text goes on. Then what it has read, and
-- which faults it reports.
use Rattle.std.proofs.Common.{◌≡◌, ◌≢◌, ℕ, Bool, true, false, List, [], ◌∷◌, ◌++◌, map, Some, None, refl, ap, sym, subst, ◌∙◌, arith, ◌≤◌, ◌<◌, ◌⊎◌, ◌+◌, max, inl, inr, length, drop, Option, Err, append_assoc, append-nil, length-append}
use Rattle.std.proofs.lemmas.List.{map-append, drop_all}
use Rattle.tac_syntax.specs.declared.functions.Function.{Function}
use Rattle.tac_syntax.specs.declared.functions.Kind.{Kind}
use Rattle.tac_syntax.specs.declared.functions.Kind.TheVariants.{Map}
use Rattle.tac_syntax.specs.Code.{Code, Line, close}
use Rattle.text_lines.specs.CanonicalLines.{AreLineWords}
use Rattle.text_lines.specs.FirstFaults.{IsStart, HasFault, IsLineFault, told_at}
use Rattle.text_lines.specs.Runs.{Steps, AreSayings, TellsFaults}
use Rattle.text_lines.specs.declared.line_words.LineWord.{LineWord}
use Rattle.text_lines.proofs.LineRuns.{Runs-said, said_by_run, Steps-append, Steps-kept, IsStart-run, Reads, Runs-append, Runs-parts, Runs-unique, one_line, ¬HasFault-IsFaultless, TellsFirst-line, EndsEarly-run}
use Rattle.tac_text.specs.declared.building.Block.{Block}
use Rattle.tac_syntax.specs.FieldRegisters.{Takes}
use Rattle.tac_text.specs.FunctionLines.{SpellsBody, FunctionLine, header, inside, header_words, words_of_function_line, IsHeader, IsWritable, FunctionText, IsFunctionText, EndsWithEnd, FunctionAt}
use Rattle.tac_text.specs.Places.{Build, build_start, lists_in, IsInside, MayInside, built_on, place_of, FitsBuild, Front}
use Rattle.tac_text.specs.FunctionStates.{OpenData, begun, function_of, with_build, TakesWords, FunctionState, waiting, reading, whole, MayFollow, after_inside, after, place_at, Leads, LeadsOn, IsFunctionFault, GivesFunction, state_of, LeadsLine}
use Rattle.tac_text.specs.FunctionFaults.{ended_fault, function_fault, function_missing}
use Rattle.tac_text.specs.StatementLines.{MayStand}
use Rattle.tac_text.specs.StatementSpelling.{words_of_line}
use Rattle.tac_text.proofs.BodySteps.{body_steps, front_step, front_whole, ends, build}
use Rattle.tac_text.proofs.FaultlessWords.{line_of_words}
use Rattle.tac_text.proofs.HeaderWords.{header_fault-header_words, header_of_words, one_header, AreFine-header_words}
use Rattle.tac_text.proofs.StatementWords.{IsSpelledLine-MayStand, statement_fault-words_of_line, words_of_line-some, words_of_one_line, AreFine-words_of_line}
use Rattle.text_lines.proofs.CanonicalLines.{AreLineWords-fine}
use Rattle.text_lines.proofs.Faultless.{some_length}
use Rattle.text_lines.specs.TextLines.{HasWords, lines_of, trimmed}
use Rattle.text_lines.specs.declared.lines.TextFault.TheVariants.{At}
use Rattle.text_lines.proofs.WordReading.{IsLine-unique}
use Rattle.text_lines.proofs.TextLines.{one_place}
use Rattle.text_lines.specs.declared.faults.NotRead.{NotRead}
use Rattle.text_lines.specs.declared.faults.NotRead.TheVariants.{Fault, Memory}

-- ---- where lines of a body lead

pub after_inside-inside : (l : Line) (blocks : List Block) (o : OpenData) → IsInside l blocks → after_inside l blocks o ≡ reading (with_build o (built_on o.build l))
after_inside-inside close [] o h = absurd h
after_inside-inside l blocks o h = refl

pub at_own_end : (blocks : List Block) (o : OpenData) → blocks ≡ [] → after_inside close blocks o ≡ whole (function_of o)
at_own_end [] o e = refl
at_own_end (block ∷ blocks) o e = absurd cc

abbrev pub lines_of_function : List ℕ → Kind → ℕ → List Line → List FunctionLine
lines_of_function name kind keys lines = header name kind keys ∷ (map inside lines ++ inside close ∷ [])

pub words_of_inside : (lines : List Line) → map words_of_function_line (map inside lines ++ inside close ∷ []) ≡ map words_of_line lines ++ words_of_line close ∷ []
words_of_inside [] = refl
words_of_inside (l ∷ lines) = ap (λ (x : List (List LineWord)). words_of_line l ∷ x) (words_of_inside lines)

module _ (registers : Bool) where
  -- ---- a line that may follow has words of its own

  some_follow : (s : FunctionState) (l : FunctionLine) → MayFollow registers s l → words_of_function_line l ≢ []
  some_follow waiting (header name kind keys) h e = absurd cc
  some_follow (reading o) (inside l) h e = words_of_line-some (lists_in o.build.blocks) l (IsSpelledLine-MayStand (place_of registers o.build) l h) e
  some_follow s l h e = h

  unique_follow : (s : FunctionState) (l m : FunctionLine) → MayFollow registers s l → MayFollow registers s m → words_of_function_line l ≡ words_of_function_line m → l ≡ m
  unique_follow waiting (header a j m) (header b k n) h i e = one_header a b j k m n h i e
  unique_follow (reading o) (inside l) (inside m) h i e = ap inside (words_of_one_line (place_of registers o.build) (place_of registers o.build) l m h i e)
  unique_follow waiting (header a j m) l h i e = absurd i
  unique_follow (reading o) (inside l) m h i e = absurd i
  unique_follow s l m h i e = absurd h

  pub function_sayings : AreSayings words_of_function_line (MayFollow registers)
  function_sayings = record { some = some_follow; unique = unique_follow }

  -- ---- these words have no fault

  fault_none : (s : FunctionState) → function_fault (place_at registers s) [] ≡ None
  fault_none waiting = refl
  fault_none (reading o) = refl
  fault_none (whole f) = refl

  fault_sound : (s : FunctionState) (l : FunctionLine) → MayFollow registers s l → function_fault (place_at registers s) (words_of_function_line l) ≡ None
  fault_sound waiting (header name kind keys) h = header_fault-header_words name kind keys h
  fault_sound (reading o) (inside l) h = statement_fault-words_of_line (place_of registers o.build) l h
  fault_sound s l h = absurd h

  not_ended : (words : List LineWord) → words ≢ [] → ended_fault words ≡ None → ⊥
  not_ended [] some e = some refl
  not_ended (word ∷ words) some e = cc

  fault_complete : (s : FunctionState) (ws : List LineWord) → ws ≢ [] → AreLineWords ws → function_fault (place_at registers s) ws ≡ None → (l : FunctionLine) × (ws ≡ words_of_function_line l) × MayFollow registers s l
  fault_complete waiting ws some good e = let h = header_of_words ws some good e in (header h.0 h.1 h.2, h.3, h.4)
  fault_complete (reading o) ws some good e = let l = line_of_words (place_of registers o.build) ws (some_length ws some) good e in (inside l.0, l.1, l.2)
  fault_complete (whole f) ws some good e = absurd (not_ended ws some e)

  pub function_faults : TellsFaults words_of_function_line (MayFollow registers) (λ s. function_fault (place_at registers s))
  function_faults = record { none = fault_none; sound = fault_sound; complete = fault_complete }

  -- ---- a function's lines may follow each other

  -- Words that an open function takes lead to the next state.
  pub LeadsOn-TakesWords : (ended : Bool) (words : List LineWord) (old now : OpenData) → TakesWords registers ended words old now → LeadsOn registers ended words (Some old) (Some now)
  LeadsOn-TakesWords true words old now (e, none, same) = (old, refl, none, e, ap Some same)
  LeadsOn-TakesWords false words old now (l, e, may, same) = (inside l, e, may.0, ap reading same ∙ sym (after_inside-inside l old.build.blocks old may.1))

  pub LeadsOn-header : (words : List LineWord) (now : OpenData) → words ≡ header_words now.name now.kind now.keys → IsHeader now.name now.kind now.keys → now.build ≡ build_start → LeadsOn registers false words None (Some now)
  LeadsOn-header words now e h start = (header now.name now.kind now.keys, e, h, ap (λ (b : Build). reading (with_build now b)) start)

  abbrev StepsTo : FunctionState → List FunctionLine → FunctionState → Type 0
  StepsTo s ls t = Steps (MayFollow registers) after s ls t

  inside_steps : (o : OpenData) (lines : List Line) (t : Build) → Steps (MayInside registers) built_on o.build lines t → StepsTo (reading o) (map inside lines) (reading (with_build o t))
  inside_steps o [] t p = ap (λ (b : Build). reading (with_build o b)) p
  inside_steps o (l ∷ lines) t p =
      let rest = inside_steps (with_build o (built_on o.build l)) lines t p.1 in
      (p.0.0, subst (λ (s : FunctionState). StepsTo s (map inside lines) (reading (with_build o t))) (sym (after_inside-inside l o.build.blocks o p.0.1)) rest)

  -- the lines of a body, and `end`
  ended_steps : (o : OpenData) (lines : List Line) (c : Code) → Steps (MayInside registers) built_on o.build lines (build [] c) → StepsTo (reading o) (map inside lines ++ inside close ∷ []) (whole (function_of (with_build o (build [] c))))
  ended_steps o lines c p =
      Steps-append (MayFollow registers) after (reading o) (reading (with_build o (build [] c))) (whole (function_of (with_build o (build [] c)))) (map inside lines) (inside close ∷ []) (inside_steps o lines (build [] c) p) (tt, refl)

  pub function_steps : (f : Function) (lines : List Line) → SpellsBody f.body lines → IsWritable f → Takes registers f.body → StepsTo waiting (lines_of_function f.name f.kind f.keys lines) (whole f)
  function_steps f lines spelled h takes =
      let body = body_steps registers f.body lines build_start spelled h.0.body takes (omega (arith, h.1)) in
      ((h.0.name, h.0.keys), ended_steps (begun f.name f.kind f.keys) lines f.body body)

  pub Leads-FunctionText : (f : Function) (text : List (List ℕ)) → FunctionText registers f text → Leads registers waiting text (whole f)
  Leads-FunctionText f text t =
      let lines = t.spelled.0 in
      let same = t.spelled.2 ∙ ap (λ (x : List (List LineWord)). header_words f.name f.kind f.keys ∷ x) (sym (words_of_inside lines)) in
      Runs-said words_of_function_line (MayFollow registers) after waiting (whole f) text t.said (lines_of_function f.name f.kind f.keys lines) t.says same (function_steps f lines t.spelled.1 t.writable t.takes)

  -- ---- lines that may follow each other are those of a function

  -- the lines that led to a state
  abbrev pub LedBy : FunctionState → List FunctionLine → Type 0
  LedBy waiting ls = ls ≡ []
  LedBy (reading o) ls = (lines : List Line) × (ls ≡ header o.name o.kind o.keys ∷ map inside lines) × IsHeader o.name o.kind o.keys × Front o.build lines × FitsBuild registers o.build
  LedBy (whole f) ls = (lines : List Line) × (ls ≡ lines_of_function f.name f.kind f.keys lines) × SpellsBody f.body lines × IsWritable f × Takes registers f.body

  led_inside : (o : OpenData) (l : Line) (ls : List FunctionLine) → LedBy (reading o) ls → MayInside registers o.build l → LedBy (reading (with_build o (built_on o.build l))) (ls ++ inside l ∷ [])
  led_inside o l ls (lines, e, head, front, fits) may =
      let step = front_step registers o.build l lines front fits may in
      let all : ls ++ inside l ∷ [] ≡ header o.name o.kind o.keys ∷ map inside (lines ++ l ∷ []) =
      ap (λ (x : List FunctionLine). x ++ inside l ∷ []) e ∙ ap (λ (x : List FunctionLine). header o.name o.kind o.keys ∷ x) (sym (map-append inside lines (l ∷ []))) in
      (lines ++ l ∷ [], all, head, step.0, step.1)

  led_whole : (o : OpenData) (ls : List FunctionLine) → LedBy (reading o) ls → o.build.blocks ≡ [] → LedBy (whole (function_of o)) (ls ++ inside close ∷ [])
  led_whole o ls (lines, e, head, front, fits) none =
      let body = front_whole registers o.build.blocks o.build.body lines none front fits in
      (lines, ap (λ (x : List FunctionLine). x ++ inside close ∷ []) e, body.0, (record { name = head.0; keys = head.1; body = body.1 }, body.2), body.3)

  led_on : (l : Line) (blocks : List Block) (o : OpenData) (ls : List FunctionLine) → o.build.blocks ≡ blocks → LedBy (reading o) ls → MayStand (place_of registers o.build) l → LedBy (after_inside l blocks o) (ls ++ inside l ∷ [])
  led_on close [] o ls e led may = led_whole o ls led e
  led_on l blocks o ls e led may = led_inside o l ls led (may, subst (IsInside l) (sym e) tt)

  pub led_step : (s : FunctionState) (l : FunctionLine) (ls : List FunctionLine) → LedBy s ls → MayFollow registers s l → LedBy (after s l) (ls ++ l ∷ [])
  led_step waiting (header name kind keys) ls led may = ([], ap (λ (x : List FunctionLine). x ++ header name kind keys ∷ []) led, may, ([], [], refl, refl, refl), (tt, (tt, omega arith, tt)))
  led_step (reading o) (inside l) ls led may = led_on l o.build.blocks o ls refl led may
  led_step s l ls led may = absurd may

  led_steps : (t : FunctionState) (ls : List FunctionLine) → StepsTo waiting ls t → LedBy t ls
  led_steps t ls p = Steps-kept (MayFollow registers) after LedBy led_step waiting t [] ls refl p

  pub FunctionText-Leads : (f : Function) (text : List (List ℕ)) → Leads registers waiting text (whole f) → FunctionText registers f text
  FunctionText-Leads f text run =
      let said = said_by_run words_of_function_line (MayFollow registers) after function_sayings waiting (whole f) text run in
      let led : LedBy (whole f) said.0 = led_steps (whole f) said.0 said.2 in
      let words = ap (map words_of_function_line) led.1 ∙ ap (λ (x : List (List LineWord)). header_words f.name f.kind f.keys ∷ x) (words_of_inside led.0) in
      record { said = map words_of_function_line said.0; says = said.1; spelled = (led.0, led.2, words); writable = led.3; takes = led.4 }

  -- ---- what was read can always go on to a whole function

  -- some function has no lines but its header and its `end`
  shortest : StepsTo waiting (header (97 ∷ []) Map 0 ∷ inside close ∷ []) (whole (function_of (begun (97 ∷ []) Map 0)))
  shortest = ((refl, refl), (tt, refl))

  pub finished : (s : FunctionState) (ls : List FunctionLine) → LedBy s ls → (more : List FunctionLine) × (f : Function) × StepsTo s more (whole f)
  finished waiting ls led = (header (97 ∷ []) Map 0 ∷ inside close ∷ [], function_of (begun (97 ∷ []) Map 0), shortest)
  finished (reading o) ls (lines, e, head, front, fits) =
      let rest = ends registers o.build.blocks o.build.body fits in
      (map inside rest.0 ++ inside close ∷ [], function_of (with_build o (build [] rest.1)), ended_steps o rest.0 rest.1 rest.2)
  finished (whole f) ls led = ([], f, refl)

  pub follow_words : (s : FunctionState) (l : FunctionLine) → MayFollow registers s l → AreLineWords (words_of_function_line l)
  follow_words waiting (header name kind keys) h = AreLineWords-fine (header_words name kind keys) (AreFine-header_words name kind keys h)
  follow_words (reading o) (inside l) h =
      AreLineWords-fine (words_of_line l) (AreFine-words_of_line (place_of registers o.build).lists l (IsSpelledLine-MayStand (place_of registers o.build) l h))
  follow_words s l h = absurd h

  begins : (front : List (List ℕ)) (s : FunctionState) → Leads registers waiting front s → IsStart (IsFunctionText registers) front
  begins front s run = IsStart-run (IsFunctionText registers) words_of_function_line (MayFollow registers) after waiting function_sayings follow_words (λ t ls steps.
      let rest = finished t ls (led_steps t ls steps) in (rest.0, whole rest.1, rest.2, λ text all. (rest.1, FunctionText-Leads rest.1 text all))) front s run

  pub reads_functions : Reads (IsFunctionText registers) words_of_function_line (MayFollow registers) after waiting
  reads_functions = record { whole = λ text t. (whole t.0, Leads-FunctionText t.0 text t.1); begins = begins }

  -- ---- runs of functions

  leads_append : (s t u : FunctionState) (a b : List (List ℕ)) → Leads registers s a t → Leads registers t b u → Leads registers s (a ++ b) u
  leads_append s t u a b p q = Runs-append words_of_function_line (MayFollow registers) after s t u a b p q

  leads_parts : (s u : FunctionState) (a b : List (List ℕ)) → Leads registers s (a ++ b) u → (t : FunctionState) × Leads registers s a t × Leads registers t b u
  leads_parts s u a b p = Runs-parts words_of_function_line (MayFollow registers) after s u a b p

  leads_unique : (s t u : FunctionState) (lines : List (List ℕ)) → Leads registers s lines t → Leads registers s lines u → t ≡ u
  leads_unique s t u lines p q = Runs-unique words_of_function_line (MayFollow registers) after function_sayings s t u lines p q

  -- After the end only lines without words follow.
  whole_stays : (f : Function) (lines : List (List ℕ)) (t : FunctionState) → Leads registers (whole f) lines t → t ≡ whole f
  whole_stays f [] t p = sym p
  whole_stays f (line ∷ lines) t (inl p) = whole_stays f lines t p.1
  whole_stays f (line ∷ lines) t (inr p) = absurd p.2

  whole_last : (f : Function) (front : List (List ℕ)) (last : List ℕ) (t : FunctionState) → Leads registers (whole f) (front ++ last ∷ []) t → HasWords last []
  whole_last f [] last t (inl p) = p.0
  whole_last f [] last t (inr p) = absurd p.2
  whole_last f (line ∷ front) last t (inl p) = whole_last f front last t p.1
  whole_last f (line ∷ front) last t (inr p) = absurd p.2

  -- ---- the text of one function begins at a place

  common_front : {A : Type 0} (a b p q : List A) → a ++ p ≡ b ++ q → ((c : List A) × (b ≡ a ++ c) × (p ≡ c ++ q)) ⊎ ((c : List A) × (a ≡ b ++ c) × (q ≡ c ++ p))
  common_front [] b p q e = inl (b, refl, e)
  common_front (x ∷ a) [] p q e = inr (x ∷ a, refl, sym e)
  common_front (x ∷ a) (y ∷ b) p q e =
      let first : x ≡ y = cc in
      let rest : a ++ p ≡ b ++ q = cc in
      elim (common_front a b p q rest) [
        | inl h ↦ inl (h.0, (λ i. sym first i ∷ h.1 i), h.2)
        | inr h ↦ inr (h.0, (λ i. first i ∷ h.1 i), h.2)
      ]

  none_behind : (a b : List (List ℕ)) → a ++ b ≡ [] → b ≢ [] → ⊥
  none_behind [] b e h = h e
  none_behind (x ∷ a) b e h = cc

  -- the lines after a text's prefix, up to its last line
  last_behind : (front c others : List (List ℕ)) (last : List ℕ) (f : Function) (t : FunctionState) → front ++ c ≡ others ++ last ∷ [] → c ≢ [] → Leads registers (whole f) c t → HasWords last []
  last_behind [] c others last f t e some p = whole_last f others last t (subst (λ (x : List (List ℕ)). Leads registers (whole f) x t) e p)
  last_behind (line ∷ front) c [] last f t e some p = let rest : front ++ c ≡ [] = cc in absurd (none_behind front c rest some)
  last_behind (line ∷ front) c (other ∷ others) last f t e some p = last_behind front c others last f t (let rest : front ++ c ≡ others ++ last ∷ [] = cc in rest) some p

  no_end : (last : List ℕ) → HasWords last (words_of_line close) → ¬ HasWords last []
  no_end last h k = let same = IsLine-unique (trimmed last) (words_of_line close) [] h k in cc

  -- A function's text that ends with its `end` has no function's text as a proper prefix.
  nothing_behind : (f g : Function) (front c text : List (List ℕ)) → text ≡ front ++ c → FunctionText registers f front → FunctionText registers g text → EndsWithEnd text → (c ≡ []) × (f ≡ g)
  nothing_behind f g front [] text e p q end =
      let same : whole f ≡ whole g = leads_unique waiting (whole f) (whole g) text (subst (λ (x : List (List ℕ)). Leads registers waiting x (whole f)) (sym (e ∙ append-nil front)) (Leads-FunctionText f front p)) (Leads-FunctionText g text q) in
      (refl, cc)
  nothing_behind f g front (line ∷ c) text e p q (others, last, ends, words) =
      let all = leads_parts waiting (whole g) front (line ∷ c) (subst (λ (x : List (List ℕ)). Leads registers waiting x (whole g)) e (Leads-FunctionText g text q)) in
      let same = leads_unique waiting all.0 (whole f) front all.1 (Leads-FunctionText f front p) in
      let behind = subst (λ (s : FunctionState). Leads registers s (line ∷ c) (whole g)) same all.2 in
      absurd (no_end last words (last_behind front (line ∷ c) others last f (whole g) (sym e ∙ ends) (λ none. absurd cc) behind))

  pub FunctionAt-unique : (f g : Function) (text : List ℕ) (at b c : ℕ) → FunctionAt registers f text at b → FunctionAt registers g text at c → (f ≡ g) × (b ≡ c)
  FunctionAt-unique f g text at b c (x, from_b, within_b, lines_b, text_b, end_b) (y, from_c, within_c, lines_c, text_c, end_c) =
      elim (common_front x y (lines_of (drop b text)) (lines_of (drop c text)) (sym lines_b ∙ lines_c)) [
        | inl h ↦
            let none = nothing_behind f g x h.0 y h.1 text_b text_c end_c in
            (none.1, one_place text b c within_b within_c (h.2 ∙ ap (λ (z : List (List ℕ)). z ++ lines_of (drop c text)) none.0))
        | inr h ↦
            let none = nothing_behind g f y h.0 x h.1 text_c text_b end_b in
            (sym none.1, sym (one_place text c b within_c within_b (h.2 ∙ ap (λ (z : List (List ℕ)). z ++ lines_of (drop b text)) none.0)))
      ]

  -- ---- what was read

  pub record HasRead (text : List ℕ) (start : ℕ) (begun : Option OpenData) (at number : ℕ) : Type 0 where
    pub front : List (List ℕ)
    pub lines : lines_of (drop start text) ≡ front ++ lines_of (drop at text)
    pub run : Leads registers waiting front (state_of begun)
    pub counted : number ≡ length front
    pub further : start ≤ at
    pub within : at ≤ length text
    pub few : number ≤ at

  -- the lines that were read, with one more
  one_more_line : (text : List ℕ) (start at next : ℕ) (front : List (List ℕ)) (line : List ℕ) → lines_of (drop start text) ≡ front ++ lines_of (drop at text) → lines_of (drop at text) ≡ line ∷ lines_of (drop next text)
      → lines_of (drop start text) ≡ (front ++ line ∷ []) ++ lines_of (drop next text)
  one_more_line text start at next front line e h = e ∙ ap (λ (x : List (List ℕ)). front ++ x) h ∙ sym (append_assoc front (line ∷ []) (lines_of (drop next text)))

  pub HasRead-line : (text : List ℕ) (start at next number : ℕ) (line : List ℕ) (old now : Option OpenData) → HasRead text start old at number → lines_of (drop at text) ≡ line ∷ lines_of (drop next text) → at < next → next ≤ length text
      → LeadsLine registers false line old now → HasRead text start now next (number + 1)
  HasRead-line text start at next number line old now h lines further within leads = record {
    front = h.front ++ line ∷ [];
    lines = one_more_line text start at next h.front line h.lines lines;
    run = leads_append waiting (state_of old) (state_of now) h.front (line ∷ []) h.run leads;
    counted = omega (arith, h.counted, length-append h.front (line ∷ []));
    further = omega (arith, h.further, further);
    within = within;
    few = omega (arith, h.few, further);
  }

  -- ---- the function's end

  pub FunctionAt-read : (text : List ℕ) (start at next number : ℕ) (line : List ℕ) (old now : Option OpenData) (f : Function) → HasRead text start old at number → lines_of (drop at text) ≡ line ∷ lines_of (drop next text) → at < next → next ≤ length text
      → LeadsLine registers true line old now → ((o : OpenData) → now ≡ Some o → f ≡ function_of o) → FunctionAt registers f text start next
  FunctionAt-read text start at next number line old now f h lines further within (words, has, (o, begun, none, said, same)) read =
      let it : f ≡ function_of o = read o (same ∙ begun) in
      let end : HasWords line (words_of_line close) = subst (HasWords line) said has in
      let run = subst (λ (b : Option OpenData). Leads registers waiting h.front (state_of b)) begun h.run in
      let last : Leads registers (reading o) (line ∷ []) (whole f) = inr (inside close, end, tt, at_own_end o.build.blocks o none ∙ ap whole (sym it)) in
      let all = leads_append waiting (reading o) (whole f) h.front (line ∷ []) run last in
      (h.front ++ line ∷ [], omega (arith, h.further, further), within, one_more_line text start at next h.front line h.lines lines, FunctionText-Leads f (h.front ++ line ∷ []) all, (h.front, line, refl, end))

  -- ---- a fault

  not_whole : (begun : Option OpenData) (f : Function) → state_of begun ≢ whole f
  not_whole None f e = cc
  not_whole (Some o) f e = cc

  -- No function's text begins these lines if the reader hasn't come to an end and can't go on.
  no_function : (all front rest : List (List ℕ)) (s : FunctionState) → all ≡ front ++ rest → Leads registers waiting front s → ((f : Function) → s ≢ whole f)
      → ((first later : List (List ℕ)) (t : FunctionState) → rest ≡ first ++ later → Leads registers s first t → first ≡ [])
      → (f : Function) (x r : List (List ℕ)) → FunctionText registers f x → all ≡ x ++ r → ⊥
  no_function all front rest s e run going stuck f x r text whole_text = elim (common_front x front r rest (sym whole_text ∙ e)) [
    | inl h ↦
        let parts = leads_parts waiting s x h.0 (subst (λ (l : List (List ℕ)). Leads registers waiting l s) h.1 run) in
        let same = leads_unique waiting parts.0 (whole f) x parts.1 (Leads-FunctionText f x text) in
        going f (whole_stays f h.0 s (subst (λ (t : FunctionState). Leads registers t h.0 s) same parts.2))
    | inr h ↦
        let parts = leads_parts waiting (whole f) front h.0 (subst (λ (l : List (List ℕ)). Leads registers waiting l (whole f)) h.1 (Leads-FunctionText f x text)) in
        let same = leads_unique waiting parts.0 s front parts.1 run in
        let on = subst (λ (t : FunctionState). Leads registers t h.0 (whole f)) same parts.2 in
        let none = stuck h.0 r (whole f) h.2 on in
        going f (subst (λ (l : List (List ℕ)). Leads registers s l (whole f)) none on)
  ]

  stuck_at : (s : FunctionState) (line : List ℕ) (later : List (List ℕ)) (what : ℕ) → HasFault (function_fault (place_at registers s)) line what
      → (first others : List (List ℕ)) (t : FunctionState) → line ∷ later ≡ first ++ others → Leads registers s first t → first ≡ []
  stuck_at s line later what h [] others t e p = refl
  stuck_at s line later what h (other ∷ first) others t e p =
      let same : other ≡ line = cc in
      let faultless = one_line words_of_function_line (MayFollow registers) after (λ x. function_fault (place_at registers x)) function_faults s t other first p in
      absurd (¬HasFault-IsFaultless (function_fault (place_at registers s)) other what (subst (λ (l : List ℕ). HasFault (function_fault (place_at registers s)) l what) (sym same) h) faultless)

  stuck_at_end : (s : FunctionState) (first others : List (List ℕ)) (t : FunctionState) → [] ≡ first ++ others → Leads registers s first t → first ≡ []
  stuck_at_end s [] others t e p = refl
  stuck_at_end s (line ∷ first) others t e p = absurd cc

  -- the lines, split at the faulty one
  parted : (text : List ℕ) (start at next : ℕ) (front : List (List ℕ)) (line : List ℕ) → lines_of (drop start text) ≡ front ++ lines_of (drop at text) → lines_of (drop at text) ≡ line ∷ lines_of (drop next text)
      → lines_of (drop start text) ≡ front ++ line ∷ lines_of (drop next text)
  parted text start at next front line e h = e ∙ ap (λ (x : List (List ℕ)). front ++ x) h

  pub IsFunctionFault-read : (text : List ℕ) (start at next number : ℕ) (line : List ℕ) (begun : Option OpenData) (why : NotRead) → HasRead text start begun at number → lines_of (drop at text) ≡ line ∷ lines_of (drop next text)
      → IsLineFault (function_fault (place_at registers (state_of begun))) why line → IsFunctionFault registers (told_at (number + 1) why) (lines_of (drop start text))
  IsFunctionFault-read text start at next number line begun why h lines cause =
      TellsFirst-line (IsFunctionText registers) words_of_function_line (MayFollow registers) after waiting (place_at registers) function_fault function_missing function_sayings function_faults reads_functions
      (lines_of (drop start text)) h.front (lines_of (drop next text)) line (number + 1) (state_of begun) why h.run (parted text start at next h.front line h.lines lines) (ap (λ (n : ℕ). n + 1) h.counted) cause

  pub GivesFunction-fault : (text : List ℕ) (start at next number : ℕ) (line : List ℕ) (begun : Option OpenData) (why : NotRead) → HasRead text start begun at number → lines_of (drop at text) ≡ line ∷ lines_of (drop next text)
      → IsLineFault (function_fault (place_at registers (state_of begun))) why line → (f : Function) (behind : ℕ) → FunctionAt registers f text start behind → GivesFunction (Err (told_at (number + 1) why)) f behind
  GivesFunction-fault text start at next number line begun (Fault what) h lines cause f behind (x, from, within, whole_lines, function, end) =
      no_function (lines_of (drop start text)) h.front (line ∷ lines_of (drop next text)) (state_of begun) (parted text start at next h.front line h.lines lines) h.run (not_whole begun) (stuck_at (state_of begun) line (lines_of (drop next text)) what cause)
      f x (lines_of (drop behind text)) function whole_lines
  GivesFunction-fault text start at next number line begun Memory h lines cause f behind p = tt

  -- ---- the text's end

  all_lines : (text : List ℕ) (start at : ℕ) (front : List (List ℕ)) → length text ≤ at → lines_of (drop start text) ≡ front ++ lines_of (drop at text) → lines_of (drop start text) ≡ front
  all_lines text start at front h e = e ∙ ap (λ (x : List ℕ). front ++ lines_of x) (drop_all at text h) ∙ append-nil front

  unfinished : (text : List ℕ) (start at number : ℕ) (begun : Option OpenData) → HasRead text start begun at number → length text ≤ at → (f : Function) (x r : List (List ℕ)) → FunctionText registers f x → lines_of (drop start text) ≡ x ++ r → ⊥
  unfinished text start at number begun h end f x r function e =
      no_function (lines_of (drop start text)) h.front [] (state_of begun) (all_lines text start at h.front end h.lines ∙ sym (append-nil h.front)) h.run (not_whole begun) (stuck_at_end (state_of begun)) f x r function e

  missing : (begun : Option OpenData) → function_missing (place_at registers (state_of begun)) ≡ Some 10
  missing None = refl
  missing (Some o) = refl

  pub IsFunctionFault-end : (text : List ℕ) (start at number : ℕ) (begun : Option OpenData) → HasRead text start begun at number → length text ≤ at → IsFunctionFault registers (At (max number 1) 10) (lines_of (drop start text))
  IsFunctionFault-end text start at number begun h end =
      let lines = all_lines text start at h.front end h.lines in
      let run = subst (λ (x : List (List ℕ)). Leads registers waiting x (state_of begun)) (sym lines) h.run in
      let not = λ (t : IsFunctionText registers (lines_of (drop start text))). unfinished text start at number begun h end t.0 (lines_of (drop start text)) [] t.1 (sym (append-nil (lines_of (drop start text)))) in
      let count = ap length lines in
      inr (EndsEarly-run (IsFunctionText registers) words_of_function_line (MayFollow registers) after waiting (place_at registers) function_fault function_missing function_sayings function_faults reads_functions
      (lines_of (drop start text)) (max number 1) 10 (state_of begun) run not (omega (arith, h.counted, count)) (missing begun))

  pub GivesFunction-end : (text : List ℕ) (start at number : ℕ) (begun : Option OpenData) → HasRead text start begun at number → length text ≤ at → (f : Function) (behind : ℕ) → ¬ FunctionAt registers f text start behind
  GivesFunction-end text start at number begun h end f behind (x, from, within, lines, function, last) = unfinished text start at number begun h end f x (lines_of (drop behind text)) function lines
