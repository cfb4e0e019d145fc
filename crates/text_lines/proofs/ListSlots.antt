-- Lists of words of one slot: what fits has no fault, and faultless words are those of a list that fits.
use Rattle.std.proofs.Common.{◌≡◌, ◌≢◌, ◌≤◌, ◌+◌, ◌-◌, ◌==◌, ℕ, suc, true, false, List, [], ◌∷◌, ◌++◌, map, length, None, refl, ap, sym, ◌∙◌, append_assoc, append-nil, arith, length-append}
use Rattle.std.specs.List.{AllByRecursion}
use Rattle.std.proofs.lemmas.Bool.Decides.{nat_tests}
use Rattle.std.proofs.lemmas.List.{map-append}
use Rattle.pact_record.proofs.Lists.{AllByRecursion-last}
use Rattle.text_lines.specs.CanonicalLines.{AreLineWords, IsLineWord}
use Rattle.text_lines.specs.LineGrammar.{LineWord}
use Rattle.text_lines.specs.Slots.{Slot, slot_fault, ListEnd, line_end, items_fault, list_fault}
use Rattle.text_lines.proofs.Faultless.{by_cases, or_else-none}

-- The list ends before these words, and nothing is wrong with the words after its end.
abbrev pub IsEnded : ListEnd → List LineWord → Type 0
IsEnded e [] = e.missing ≡ None
IsEnded e (word ∷ words) = (e.ends word ≡ true) × (e.behind words ≡ None)

-- Values of a slot that don't end a list: how they are spelled, and which fit.
pub record AreItems {X : Type 0} (slot : Slot) (e : ListEnd) (spelled : X → LineWord) (Good : X → Type 0) : Type 0 where
  pub faultless : (x : X) → Good x → slot_fault slot (spelled x) ≡ None
  pub goes_on : (x : X) → Good x → e.ends (spelled x) ≡ false
  pub fills : (word : LineWord) → IsLineWord word → slot_fault slot word ≡ None → (x : X) × (word ≡ spelled x) × Good x

no_room : (x n : ℕ) → suc x ≤ n → (n == 0) ≡ false
no_room x n h = grind (arith, nat_tests)

some_room : (n x : ℕ) → (n == 0) ≡ false → x ≤ n - 1 → suc x ≤ n
some_room n x e h = grind (arith, nat_tests)

ended_faultless : (slot : Slot) (e : ListEnd) (room : ℕ) (more : List LineWord) → IsEnded e more → items_fault slot e room more ≡ None
ended_faultless slot e room [] h = h
ended_faultless slot e room (word ∷ words) h = rw h.0 h.1

items_fit : {X : Type 0} (slot : Slot) (e : ListEnd) (spelled : X → LineWord) (Good : X → Type 0) → AreItems slot e spelled Good
    → (room : ℕ) (xs : List X) (more : List LineWord) → length xs ≤ room → AllByRecursion Good xs → IsEnded e more → items_fault slot e room (map spelled xs ++ more) ≡ None
items_fit slot e spelled Good items room [] more few good ended = ended_faultless slot e room more ended
items_fit slot e spelled Good items room (x ∷ xs) more few good ended =
    let rest = items_fit slot e spelled Good items (room - 1) xs more (omega (arith, few)) good.1 ended in
    rw (items.goes_on x good.0, items.faultless x good.0, no_room (length xs) room few, rest) refl

pub list_fits : {X : Type 0} (slot : Slot) (e : ListEnd) (spelled : X → LineWord) (Good : X → Type 0) → AreItems slot e spelled Good
    → (limit : ℕ) (xs : List X) (more : List LineWord) → 1 ≤ length xs → length xs ≤ limit → AllByRecursion Good xs → IsEnded e more → list_fault slot e limit (map spelled xs ++ more) ≡ None
list_fits slot e spelled Good items limit [] more some few good ended = absurd (omega (arith, some))
list_fits slot e spelled Good items limit (x ∷ xs) more some few good ended =
    rw (items.faultless x good.0) (items_fit slot e spelled Good items (limit - 1) xs more (omega (arith, few)) good.1 ended)

pub record SpellsList {X : Type 0} (e : ListEnd) (spelled : X → LineWord) (Good : X → Type 0) (least limit : ℕ) (words : List LineWord) : Type 0 where
  pub items : List X
  pub more : List LineWord
  pub parts : words ≡ map spelled items ++ more
  pub some : least ≤ length items
  pub few : length items ≤ limit
  pub good : AllByRecursion Good items
  pub words_good : AreLineWords more
  pub ended : IsEnded e more

spells_items : {X : Type 0} (slot : Slot) (e : ListEnd) (spelled : X → LineWord) (Good : X → Type 0) → AreItems slot e spelled Good
    → (room : ℕ) (words : List LineWord) → AreLineWords words → items_fault slot e room words ≡ None → SpellsList e spelled Good 0 room words
spells_items slot e spelled Good items room [] line h = record { items = []; more = []; parts = refl; some = omega arith; few = omega arith; good = tt; words_good = tt; ended = h }
spells_items slot e spelled Good items room (word ∷ words) line h = by_cases (e.ends word) _ _
    (λ ends told. record { items = []; more = word ∷ words; parts = refl; some = omega arith; few = omega arith; good = tt; words_good = line; ended = (ends, told) })
    (λ _ told.
    let both = or_else-none (slot_fault slot word) _ told in
    let first = items.fills word line.0 both.0 in
    by_cases (room == 0) _ _ (λ _ full. absurd cc)
    (λ more left.
    let rest = spells_items slot e spelled Good items (room - 1) words line.1 left in
    record {
      items = first.0 ∷ rest.items;
      more = rest.more;
      parts = λ i. first.1 i ∷ rest.parts i;
      some = omega arith;
      few = some_room room (length rest.items) more rest.few;
      good = (first.2, rest.good);
      words_good = rest.words_good;
      ended = rest.ended;
    }) both.1) h

pub spells_list : {X : Type 0} (slot : Slot) (e : ListEnd) (spelled : X → LineWord) (Good : X → Type 0) → AreItems slot e spelled Good
    → (limit : ℕ) (words : List LineWord) → 1 ≤ limit → AreLineWords words → list_fault slot e limit words ≡ None → SpellsList e spelled Good 1 limit words
spells_list slot e spelled Good items limit [] room line h = absurd cc
spells_list slot e spelled Good items limit (word ∷ words) room line h =
    let both = or_else-none (slot_fault slot word) _ h in
    let first = items.fills word line.0 both.0 in
    let rest = spells_items slot e spelled Good items (limit - 1) words line.1 both.1 in
    let few = rest.few in
    record {
      items = first.0 ∷ rest.items;
      more = rest.more;
      parts = λ i. first.1 i ∷ rest.parts i;
      some = omega arith;
      few = omega (arith, few, room);
      good = (first.2, rest.good);
      words_good = rest.words_good;
      ended = rest.ended;
    }

-- ---- a list up to the line's end

pub line_fits : {X : Type 0} (slot : Slot) (spelled : X → LineWord) (Good : X → Type 0) → AreItems slot line_end spelled Good
    → (limit : ℕ) (xs : List X) → 1 ≤ length xs → length xs ≤ limit → AllByRecursion Good xs → list_fault slot line_end limit (map spelled xs) ≡ None
line_fits slot spelled Good items limit xs some few good =
    ap (list_fault slot line_end limit) (sym (append-nil (map spelled xs))) ∙ list_fits slot line_end spelled Good items limit xs [] some few good refl

none_behind : (more : List LineWord) → IsEnded line_end more → more ≡ []
none_behind [] h = refl
none_behind (word ∷ words) h = let e = h.0 in absurd cc

pub spells_line : {X : Type 0} (slot : Slot) (spelled : X → LineWord) (Good : X → Type 0) → AreItems slot line_end spelled Good
    → (limit : ℕ) (words : List LineWord) → 1 ≤ limit → AreLineWords words → list_fault slot line_end limit words ≡ None
    → (xs : List X) × (words ≡ map spelled xs) × (1 ≤ length xs) × (length xs ≤ limit) × AllByRecursion Good xs
spells_line slot spelled Good items limit words room line h =
    let s = spells_list slot line_end spelled Good items limit words room line h in
    let all = s.parts ∙ ap (λ (more : List LineWord). map spelled s.items ++ more) (none_behind s.more s.ended) ∙ append-nil (map spelled s.items) in
    (s.items, all, s.some, s.few, s.good)

-- ---- a list as far as its words were read

pub record ListRead {X : Type 0} (slot : Slot) (e : ListEnd) (spelled : X → LineWord) (Good : X → Type 0) (limit : ℕ) (whole : List LineWord) (items : List X) (left : List LineWord) : Type 0 where
  pub parts : whole ≡ map spelled items ++ left
  pub some : 1 ≤ length items
  pub few : length items ≤ limit
  pub good : AllByRecursion Good items
  pub fault : list_fault slot e limit whole ≡ items_fault slot e (limit - length items) left

has_room : (n : ℕ) → 1 ≤ n → (n == 0) ≡ false
has_room n h = grind (arith, nat_tests)

pub list_goes_on : {X : Type 0} (slot : Slot) (e : ListEnd) (spelled : X → LineWord) (Good : X → Type 0) (limit : ℕ) (whole left next : List LineWord) (xs : List X) (x : X)
    → ListRead slot e spelled Good limit whole xs left → length xs ≢ limit → e.ends (spelled x) ≡ false → slot_fault slot (spelled x) ≡ None → Good x → left ≡ spelled x ∷ next
    → ListRead slot e spelled Good limit whole (xs ++ x ∷ []) next
list_goes_on slot e spelled Good limit whole left next xs x read other on fits good is =
    let few = read.few in
    let more : 1 ≤ limit - length xs = omega (arith, few, other) in
    let size : length (xs ++ x ∷ []) ≡ length xs + 1 = length-append xs (x ∷ []) in
    let rest : limit - length xs - 1 ≡ limit - length (xs ++ x ∷ []) = omega (arith, size) in
    record {
      parts = read.parts ∙ ap (λ (ws : List LineWord). map spelled xs ++ ws) is ∙ sym (append_assoc (map spelled xs) (spelled x ∷ []) next) ∙ ap (λ (ws : List LineWord). ws ++ next) (sym (map-append spelled xs (x ∷ [])));
      some = omega (arith, size);
      few = omega (arith, size, few, other);
      good = AllByRecursion-last Good xs x read.good good;
      fault = read.fault ∙ ap (items_fault slot e (limit - length xs)) is ∙ rw (on, fits, has_room (limit - length xs) more) (ap (λ (n : ℕ). items_fault slot e n next) rest);
    }
