-- What trying adds to a list of what is expected, and that what was listed stays listed.
use Rattle.std.proofs.Common.{◌≡◌, ◌<◌, ◌+◌, ◌++◌, ◌∷◌, [], ℕ, zero, suc, Bool, true, false, List, Bor, Some, codes, inl, inr, refl, sym, ap, subst, ◌∙◌, arith, map, take, nat_lt, get_or, length, ⊎_elim}
use Rattle.std.proofs.Math.Dec.{leb}
use Rattle.std.proofs.Math.Seq.{take-suc}
use Rattle.std.proofs.lemmas.Bool.{OnTrue_from, cases_lt, leb-true}
use Rattle.std.proofs.lemmas.List.{append-nil, append_assoc, map-append}
use Rattle.std.specs.Bool.{OnTrue}
use Rattle.std.specs.List.{AllByRecursion}
use Rattle.std.specs.Prelude.{decimal}
use Rattle.pact_record.proofs.Lists.{AllByRecursion-append, AllByRecursion-weaker}
use Rattle.tac_syntax.specs.Limits.{nesting_limit}
use Rattle.text_marks.specs.Expecting.{BeginsLine, Extends, HasAllWords, HasLoops, HasLoopsBelow, HasNumbers, HasWords, IsAmong, IsListed, IsListedOrRefused, IsNextLoop, IsRefused, TellsEnd, kind_words}
use Rattle.text_marks.specs.LineParts.{IsNextWord}
use Rattle.text_marks.specs.Marks.{HasFirst, IsAccepted, IsExpected, TellsAccepted, is_later}
use Rattle.text_marks.specs.Samples.{sample_of}
use Rattle.text_marks.specs.TextParts.{AreBounds, cut_text, line_number}
use Rattle.text_marks.specs.declared.expected.Expected.{Expected}
use Rattle.text_marks.specs.declared.marks.Mark.{Mark}
use Rattle.text_marks.specs.declared.trials.Fault.{Fault}
use Rattle.text_marks.specs.Vocabulary.{IsFixedWord, IsWordIn, fixed_words}

among_left : (item : Expected) (xs ys : List Expected) → IsAmong item xs → IsAmong item (xs ++ ys)
among_left item [] ys h = absurd h
among_left item (x ∷ xs) ys (inl e) = inl e
among_left item (x ∷ xs) ys (inr h) = inr (among_left item xs ys h)

among_last : (item : Expected) (xs : List Expected) → IsAmong item (xs ++ item ∷ [])
among_last item [] = inl refl
among_last item (x ∷ xs) = inr (among_last item xs)

pub pushed_among : (item : Expected) (old new : List Expected) → new ≡ old ++ item ∷ [] → IsAmong item new
pushed_among item old new e = subst (IsAmong item) (sym e) (among_last item old)

pub pushed_listed : (item : Expected) (old new : List Expected) → new ≡ old ++ item ∷ [] → IsListed new (sample_of item)
pushed_listed item old new e = (item, pushed_among item old new e, refl)

-- what a reference to a word lends
abbrev pub now_of : Bor (List ℕ) → List ℕ
now_of word = word.now

-- each of these words is one of them
all_in : (words : List (List ℕ)) → AllByRecursion (IsWordIn words) words
all_in [] = tt
all_in (word ∷ words) = (inl refl, AllByRecursion-weaker (IsWordIn words) (IsWordIn (word ∷ words)) words (λ other h. inr h) (all_in words))

pub all_fixed : AllByRecursion IsFixedWord fixed_words
all_fixed = all_in fixed_words

pub item_fixed : (words : List (Bor (List ℕ))) (n : ℕ) (d : Bor (List ℕ)) → n < length words → AllByRecursion IsFixedWord (map now_of words) → IsFixedWord (now_of (get_or words n d))
item_fixed [] n d lt h = absurd (omega (arith, lt))
item_fixed (word ∷ words) zero d lt h = h.0
item_fixed (word ∷ words) (suc n) d lt h = item_fixed words n d (omega (arith, lt)) h.1

module _ {from to : ℕ} {text : List ℕ} where
  pub none_more : (items : List Expected) → Extends from to text items items
  none_more items = record { more = []; appended = sym (append-nil items); expected = tt }

  pub pushed_more : (item : Expected) (old new : List Expected) → new ≡ old ++ item ∷ [] → IsExpected from to text item → Extends from to text old new
  pushed_more item old new e h = record { more = item ∷ []; appended = e; expected = (h, tt) }

  pub joined : {a b c : List Expected} → Extends from to text a b → Extends from to text b c → Extends from to text a c
  joined {a} {b} {c} h k = record {
    more = h.more ++ k.more;
    appended = k.appended ∙ (ap (λ (xs : List Expected). xs ++ k.more) h.appended ∙ append_assoc a h.more k.more);
    expected = AllByRecursion-append (IsExpected from to text) h.more k.more h.expected k.expected;
  }

  module _ {old new : List Expected} (e : Extends from to text old new) where
    pub later_among : (item : Expected) → IsAmong item old → IsAmong item new
    later_among item h = subst (IsAmong item) (sym e.appended) (among_left item old e.more h)

    pub later_listed : (word : List ℕ) → IsListed old word → IsListed new word
    later_listed word h = (h.0, later_among h.0 h.1, h.2)

    pub later_tried : (word : List ℕ) → IsListedOrRefused from to text old word → IsListedOrRefused from to text new word
    later_tried word (inl h) = inl (later_listed word h)
    later_tried word (inr h) = inr h

    pub later_words : (words : List (List ℕ)) → AllByRecursion (IsListedOrRefused from to text old) words → AllByRecursion (IsListedOrRefused from to text new) words
    later_words words h = AllByRecursion-weaker (IsListedOrRefused from to text old) (IsListedOrRefused from to text new) words later_tried h

    later_below : (end : ℕ) → HasLoopsBelow from to text end old → HasLoopsBelow from to text end new
    later_below end h = λ n l b. later_tried (codes "x" ++ decimal n) (h n l b)

    pub later_loops : HasLoops from to text old → HasLoops from to text new
    later_loops (inl (next, is, inl (record_here, h))) = inl (next, is, inl (record_here, later_below next h))
    later_loops (inl (next, is, inr h)) = inl (next, is, inr (later_below (next + 1) h))
    later_loops (inr h) = inr (later_below (nesting_limit + 1) h)

    pub later_numbers : HasNumbers from to text old → HasNumbers from to text new
    later_numbers (inl h) = inl (later_listed (codes "-1") h)
    later_numbers (inr (r, inl h)) = inr (r, inl (later_listed (decimal 0) h))
    later_numbers (inr (r, inr (z, h))) = inr (r, inr (z, later_tried (decimal 1) h))

    pub later_all : HasAllWords from to text old → HasAllWords from to text new
    later_all h = record { fixed = later_words fixed_words h.fixed; kinds = later_words kind_words h.kinds; loops = later_loops h.loops; numbers = later_numbers h.numbers }

    pub later_any : HasWords from to text old → HasWords from to text new
    later_any (inl h) = inl (later_listed (codes "a/b") h)
    later_any (inr (inl h)) = inr (inl (later_listed (codes "zz") h))
    later_any (inr (inr h)) = inr (inr (later_all h))

    -- ---- loops that try one word after another

    pub words_next : (words : List (Bor (List ℕ))) (n : ℕ) (d : Bor (List ℕ)) → n < length words → AllByRecursion (IsListedOrRefused from to text old) (map now_of (take n words))
        → IsListedOrRefused from to text new (now_of (get_or words n d)) → AllByRecursion (IsListedOrRefused from to text new) (map now_of (take (n + 1) words))
    words_next words n d lt h k =
        let word = get_or words n d in
        let one : suc n ≡ n + 1 = omega arith in
        let parts = subst (λ (m : ℕ). take m words ≡ take n words ++ word ∷ []) one (take-suc words n d lt) in
        subst (λ (ws : List (List ℕ)). AllByRecursion (IsListedOrRefused from to text new) ws) (sym (ap (map now_of) parts ∙ map-append now_of (take n words) (word ∷ [])))
        (AllByRecursion-append (IsListedOrRefused from to text new) (map now_of (take n words)) (now_of word ∷ []) (later_words (map now_of (take n words)) h) (k, tt))

    pub loops_next : (number : ℕ) → HasLoopsBelow from to text number old → IsListedOrRefused from to text new (codes "x" ++ decimal number) → HasLoopsBelow from to text (number + 1) new
    loops_next number h k n l b = ⊎_elim
        (λ below. later_tried (codes "x" ++ decimal n) (h n l below))
        (λ above. let at : number ≡ n = omega (arith, above, b) in subst (λ (m : ℕ). IsListedOrRefused from to text new (codes "x" ++ decimal m)) at k)
        (cases_lt n number)

-- ---- what a line's end needs

tells_of : (from : ℕ) (text : List ℕ) (fault : Fault) (may : Bool) → may ≡ is_later (line_number from text) (Some fault) → HasFirst (cut_text from text) (Some fault) → TellsEnd from text may
tells_of from text fault true e h = (Some fault, h, sym e)
tells_of from text fault false e h = inr (fault, h, sym e)

pub tells_end : (from : ℕ) (text : List ℕ) (fault : Fault) (line : ℕ) → line ≡ line_number from text → HasFirst (cut_text from text) (Some fault) → TellsEnd from text (nat_lt line fault.line)
tells_end from text fault line e h = tells_of from text fault (nat_lt line fault.line) (ap (λ (l : ℕ). nat_lt l fault.line) e) h

pub next_loop_at : (at line from end number : ℕ) (text words : List ℕ) (b : Bool) → line ≡ line_number at text → AreBounds text line from end
    → words ≡ codes "each " ++ (codes "x" ++ decimal number) → TellsAccepted from from words text b → b ≡ true → IsNextLoop at text number
next_loop_at at line from end number text words b e bounds w h k = (
  from,
  end,
  subst (λ (l : ℕ). AreBounds text l from end) e bounds,
  subst (λ (ws : List ℕ). TellsAccepted from from ws text true) w (subst (TellsAccepted from from words text) k h),
)

pub begins_before : (at line from end : ℕ) (text : List ℕ) (word : Mark) → line ≡ line_number at text → AreBounds text line from end → IsNextWord text line from end word
    → OnTrue (leb at word.from) (BeginsLine at text)
begins_before at line from end text word e b w =
    let bounds = subst (λ (l : ℕ). AreBounds text l from end) e b in
    let next = subst (λ (l : ℕ). IsNextWord text l from end word) e w in
    OnTrue_from (leb at word.from) (BeginsLine at text) (λ le. inr (from, end, bounds, inr (word, next, leb-true at word.from le)))

-- ---- tests of a trial

pub if_accepted : (from to : ℕ) (word text : List ℕ) (b : Bool) → b ≡ true → TellsAccepted from to word text b → IsAccepted from to word text
if_accepted from to word text b e h = subst (TellsAccepted from to word text) e h

pub if_refused : (from to : ℕ) (word text : List ℕ) (b : Bool) → b ≡ false → TellsAccepted from to word text b → IsRefused from to text word
if_refused from to word text b e h = subst (TellsAccepted from to word text) e h
