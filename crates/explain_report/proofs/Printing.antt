-- The text below the line of a text fault, put together from its parts.
use Rattle.std.proofs.Common.{◌≡◌, ◌≤◌, ◌<◌, ◌⊎◌, inl, inr, refl, ℕ, Bool, List, ◌++◌, length, Result, Ok, Err, OnOk, ap, ◌∙◌, append_assoc}
use Rattle.explain_words.specs.Places.{column_at, line_at, place_line}
use Rattle.explain_report.specs.Printing.{IsPrinted, expected_line}
use Rattle.explain_report.specs.declared.explanations.Spot.{Spot}

-- a fact about a value that was returned
pub on_ok : {T E P Q : Type 0} (r : Result T E) → (P → Q) → OnOk r P → OnOk r Q
on_ok (Ok x) f h = f h
on_ok (Err e) f h = tt

-- a text to which two parts are appended, one after the other
pub appended : (old xs ys one two : List ℕ) → one ≡ old ++ xs → two ≡ one ++ ys → two ≡ old ++ (xs ++ ys)
appended old xs ys one two e f = f ∙ (ap (λ (t : List ℕ). t ++ ys) e ∙ append_assoc old xs ys)

regrouped : (place more between list after : List ℕ) → (((place ++ more) ++ between) ++ list) ++ after ≡ place ++ ((more ++ between) ++ (list ++ after))
regrouped place more between list after =
    append_assoc ((place ++ more) ++ between) list after
    ∙ (ap (λ (t : List ℕ). t ++ (list ++ after)) (append_assoc place more between)
    ∙ append_assoc place (more ++ between) (list ++ after))

-- of a place, known by its equals
pub its_line : (at line from from' marked marked' : ℕ) (text : List ℕ) → from ≡ from' → marked ≡ marked' → ((at ≡ from) × (at < length text) × (line ≡ marked)) ⊎ (line ≡ line_at at text)
    → ((at ≡ from') × (at < length text) × (line ≡ marked')) ⊎ (line ≡ line_at at text)
its_line at line from from' marked marked' text e f (inl h) = inl (h.0 ∙ e, h.1, h.2 ∙ f)
its_line at line from from' marked marked' text e f (inr h) = inr h

-- a place with what is shown there, some words, a list and more words
pub printed :
    (name text : List ℕ) (s : Spot) (line at : ℕ) (old place_put words_put list_put all_put more between after : List ℕ)
    → ((at ≡ s.mark.from) × (at < length text) × (line ≡ s.mark.line)) ⊎ (line ≡ line_at at text) → at ≤ s.mark.from → (s.mark.from < length text → at ≡ s.mark.from)
    → place_put ≡ old ++ (place_line name line (column_at at text) ++ more) → words_put ≡ place_put ++ between
    → ((fields : ℕ) × (is_key : Bool) × (list_put ≡ words_put ++ expected_line fields is_key s.expected)) → all_put ≡ list_put ++ after
    → (below : List ℕ) × (all_put ≡ old ++ below) × IsPrinted name text s below
printed name text s line at old place_put words_put list_put all_put more between after place_is before same put_1 put_2 put_3 put_4 =
    let place = place_line name line (column_at at text) in
    let list = expected_line put_3.0 put_3.1 s.expected in
    let two = appended old (place ++ more) between place_put words_put put_1 put_2 in
    let three = appended old ((place ++ more) ++ between) list words_put list_put two put_3.2 in
    let four = appended old (((place ++ more) ++ between) ++ list) after list_put all_put three put_4 in (
      place ++ ((more ++ between) ++ (list ++ after)),
      four ∙ ap (λ (t : List ℕ). old ++ t) (regrouped place more between list after),
      record {
        at = at;
        before = before;
        same = same;
        line = line;
        its_line = place_is;
        fields = put_3.0;
        is_key = put_3.1;
        between = more ++ between;
        after = after;
        printed = refl;
      },
    )
