-- What follows if no fault is reported, and what a test of a word implies.
use Rattle.std.proofs.Common.{◌≡◌, ◌≢◌, ◌<◌, ◌+◌, ℕ, Bool, true, false, if◌then◌else◌, List, [], ◌∷◌, length, get_or, drop, is_some, Option, Some, None, Result, Ok, Err, bytes_eq, refl, ap, ◌∙◌, arith}
use Rattle.std.proofs.lemmas.List.{at_drop_more}
use Rattle.std.proofs.lemmas.Slice.Eq.{bytes_eq-Decides}
use Rattle.std.specs.List.{AllByRecursion}
use Rattle.std.specs.Prelude.{IfErr, IfOk}
use Rattle.text_lines.specs.declared.faults.NotRead.{NotRead}
use Rattle.text_lines.specs.declared.faults.NotRead.TheVariants.{Fault, Memory}
use Rattle.text_lines.specs.LineReading.{Gives, IsFaultOf, TellsFault}
use Rattle.text_lines.specs.OperandWords.{named_in}
use Rattle.text_lines.specs.Digits.{told_unless, or_else}
use Rattle.text_lines.specs.LineGrammar.{LineWord, plain_word, literal_word, is_plain}

pub by_cases : {A C : Type 0} (b : Bool) (x y : A) {v : A} → (b ≡ true → x ≡ v → C) → (b ≡ false → y ≡ v → C) → (if b then x else y) ≡ v → C
by_cases true x y f g h = f refl h
by_cases false x y f g h = g refl h

-- `by_cases`, for a choice that is passed to a function
pub by_cases_of : {A B C : Type 0} (f : A → B) (b : Bool) (x y : A) {v : B} → (b ≡ true → f x ≡ v → C) → (b ≡ false → f y ≡ v → C) → f (if b then x else y) ≡ v → C
by_cases_of f true x y g k h = g refl h
by_cases_of f false x y g k h = k refl h

pub told_unless-none : (b : Bool) (what : ℕ) → told_unless b what ≡ None → b ≡ true
told_unless-none true what h = refl
told_unless-none false what h = absurd cc

pub or_else-none : (a b : Option ℕ) → or_else a b ≡ None → (a ≡ None) × (b ≡ None)
or_else-none None b h = (refl, h)
or_else-none (Some what) b h = absurd cc

pub same_word : (w v : List ℕ) → bytes_eq w v ≡ true → w ≡ v
same_word w v h = (bytes_eq-Decides w v).0 h

-- The result of a reader of words, from what it reads and the fault that it reports.
pub Gives-read : {T : Type 0} (r : Result T NotRead) (Good Wanted : T → Type 0) (told : Option ℕ) → IfOk r Good → IfErr r (λ e. IsFaultOf e told) → told ≡ None
    → ((x : T) → Good x → Wanted x) → Gives Wanted r
Gives-read (Ok x) Good Wanted told read fault none wanted = wanted x read
Gives-read (Err (Fault what)) Good Wanted told read fault none wanted = absurd cc
Gives-read (Err Memory) Good Wanted told read fault none wanted = tt

pub TellsFault-read : {T : Type 0} (r : Result T NotRead) (Good : T → Type 0) (told : Option ℕ) → IfOk r Good → IfErr r (λ e. IsFaultOf e told) → ((x : T) → Good x → told ≡ None)
    → (what : ℕ) → told ≡ Some what → TellsFault r what
TellsFault-read (Ok x) Good told read fault sound what h = let none = sound x read in absurd cc
TellsFault-read (Err (Fault e)) Good told read fault sound what h = cc
TellsFault-read (Err Memory) Good told read fault sound what h = tt

-- A word that was found is the word of its item.
pub named_as : {X : Type 0} (name : X → List ℕ) (xs : List X) (word : List ℕ) (x : X) → named_in name xs word ≡ Some x → word ≡ name x
named_as name [] word x h = absurd cc
named_as name (y ∷ xs) word x h = by_cases (bytes_eq word (name y)) _ _
    (λ e is. let same : y ≡ x = cc in same_word word (name y) e ∙ ap name same) (λ _ k. named_as name xs word x k) h

-- The search moves past an item with another word.
pub named_in-next : {X : Type 0} (name : X → List ℕ) (xs : List X) (n : ℕ) (x : X) (word : List ℕ) → n < length xs → bytes_eq word (name (get_or xs n x)) ≡ false → named_in name (drop n xs) word ≡ named_in name (drop (n + 1) xs) word
named_in-next {X = X} name xs n x word h other = at_drop_more (λ (ys : List X). named_in name ys word) xs n x h ∙ rw other refl

-- A word that the search finds is the word of one of these.
pub named : {X : Type 0} (name : X → List ℕ) (P : X → Type 0) (xs : List X) (word : List ℕ) → AllByRecursion P xs → is_some (named_in name xs word) ≡ true → (x : X) × (word ≡ name x) × P x
named name P [] word all h = absurd cc
named {X = X} name P (x ∷ xs) word all h = by_cases_of (λ (found : Option X). is_some found) (bytes_eq word (name x)) (Some x) (named_in name xs word)
    (λ e _. (x, same_word word (name x) e, all.0)) (λ _ k. named name P xs word all.1 k) h

pub is_plain-same : (name : List ℕ) (word : LineWord) → is_plain name word ≡ true → word ≡ plain_word name
is_plain-same name (plain_word w) h = ap plain_word (same_word w name h)
is_plain-same name (literal_word w) h = absurd cc

pub some_length : {A : Type 0} (words : List A) → words ≢ [] → 0 < length words
some_length [] some = absurd (some refl)
some_length (word ∷ words) some = omega arith
