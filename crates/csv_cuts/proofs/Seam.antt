-- After an unquoted line feed, records are read as at the beginning of a text.
use Rattle.std.proofs.Common.{◌≡◌, ◌+◌, ◌++◌, ◌==◌, Bool, ℕ, List, [], ◌∷◌, length, true, false, true≢false, refl, sym, subst, ◌∙◌, ap, ap₂, arith}
use Rattle.std.specs.Prelude.{◌||◌, if◌then◌else◌, ⊤}
use Rattle.std.proofs.lemmas.Bool.{eqb-true}
use Rattle.csv.specs.Machine.{is_end, step, fields_after, field_after, in_field, start_field, start_record}
use Rattle.csv.specs.Reading.{default_config, records}
use Rattle.csv.specs.declared.parser.State.{State}
use Rattle.csv.specs.declared.parser.State.TheVariants as st
use Rattle.csv.specs.declared.parser.Action.{Action}
use Rattle.csv.specs.declared.parser.Action.TheVariants as act
use Rattle.csv_cuts.specs.declared.cuts.Place.{Place}
use Rattle.csv_cuts.specs.declared.cuts.Place.TheVariants.{FieldStart, InField, InQuotes, AfterQuote}
use Rattle.csv_cuts.specs.Places.{is_quoted, next_place, place_after, after_unquoted}
use Rattle.csv_cuts.proofs.OneRecursion.{all_from, as_records}

-- the states that csv's machine can be in at a place; between two records no field has begun
abbrev Fits : Place → State → List (List ℕ) → List ℕ → Type 0
Fits FieldStart st.StartRecord fields field = (fields ≡ []) × (field ≡ [])
Fits FieldStart st.AfterCr fields field = (fields ≡ []) × (field ≡ [])
Fits FieldStart st.StartField fields field = ⊤
Fits InField st.InField fields field = ⊤
Fits InQuotes st.InQuoted fields field = ⊤
Fits AfterQuote st.AfterQuote fields field = ⊤
Fits place s fields field = ⊥

-- a step leads to a state that fits this place
abbrev Leads : List (List ℕ) → List ℕ → ℕ → Place → State × Action → Type 0
Leads fields field c place p =
    (is_end p.1 ≡ true → Fits place p.0 [] []) × (is_end p.1 ≡ false → Fits place p.0 (fields_after p.1 fields field) (field_after p.1 c field))

both : (fields : List (List ℕ)) (field : List ℕ) (c : ℕ) (b : Bool) (x y : Place) (p q : State × Action) → Leads fields field c x p → Leads fields field c y q → Leads fields field c (if b then x else y) (if b then p else q)
both fields field c true x y p q h k = h
both fields field c false x y p q h k = k

ended : (fields : List (List ℕ)) (field : List ℕ) (c : ℕ) (b : Bool) → Leads fields field c FieldStart (if b then st.AfterCr else st.StartRecord, act.EndRecord)
ended fields field c true = (λ e. (refl, refl), λ e. absurd (true≢false e))
ended fields field c false = (λ e. (refl, refl), λ e. absurd (true≢false e))

in_field_leads : (fields : List (List ℕ)) (field : List ℕ) (c : ℕ) → Leads fields field c (after_unquoted c) (in_field default_config c)
in_field_leads fields field c =
    both fields field c (c == 44) _ _ _ _ (λ e. absurd (true≢false (sym e)), λ e. tt)
    (both fields field c ((c == 13) || (c == 10)) FieldStart InField (if c == 13 then st.AfterCr else st.StartRecord, act.EndRecord) (st.InField, act.Copy) (ended fields field c (c == 13)) (λ e. absurd (true≢false (sym e)), λ e. tt))

start_field_leads : (fields : List (List ℕ)) (field : List ℕ) (c : ℕ) → Leads fields field c (next_place FieldStart c) (start_field default_config c)
start_field_leads fields field c = both fields field c (c == 34) InQuotes (after_unquoted c) (st.InQuoted, act.Skip) (in_field default_config c) (λ e. absurd (true≢false (sym e)), λ e. tt) (in_field_leads fields field c)

-- a line's end leads to the start of a field
ends_line : (c : ℕ) (cr lf : Bool) → (c == 13) ≡ cr → (c == 10) ≡ lf → (cr || lf) ≡ true → next_place FieldStart c ≡ FieldStart
ends_line c true lf e f h = let is : c ≡ 13 = eqb-true c 13 e in rw is refl
ends_line c false true e f h = let is : c ≡ 10 = eqb-true c 10 f in rw is refl
ends_line c false false e f h = absurd (true≢false (sym h))

start_record_leads : (fields : List (List ℕ)) (field : List ℕ) (c : ℕ) → Fits FieldStart st.StartRecord fields field → Leads fields field c (next_place FieldStart c) (start_record default_config c)
start_record_leads fields field c h = by ((c == 13) || (c == 10)) (ends_line c (c == 13) (c == 10) refl refl)
  where
    by : (b : Bool) → (b ≡ true → next_place FieldStart c ≡ FieldStart) → Leads fields field c (next_place FieldStart c) (if b then (st.StartRecord, act.Skip) else start_field default_config c)
    by true e = subst (λ (x : Place). Leads fields field c x (st.StartRecord, act.Skip)) (sym (e refl)) (λ k. (refl, refl), λ k. h)
    by false e = start_field_leads fields field c

after_cr_leads : (fields : List (List ℕ)) (field : List ℕ) (c : ℕ) → Fits FieldStart st.StartRecord fields field → Leads fields field c (next_place FieldStart c) (step default_config st.AfterCr c)
after_cr_leads fields field c h = by (c == 10) refl
  where
    by : (b : Bool) → (c == 10) ≡ b → Leads fields field c (next_place FieldStart c) (if b then (st.StartRecord, act.Skip) else start_record default_config c)
    by true e =
        let is : c ≡ 10 = eqb-true c 10 e in
        let prefix : next_place FieldStart c ≡ FieldStart = rw is refl in
        subst (λ (x : Place). Leads fields field c x (st.StartRecord, act.Skip)) (sym prefix) (λ k. (refl, refl), λ k. h)
    by false e = start_record_leads fields field c h

leads : (place : Place) (s : State) (fields : List (List ℕ)) (field : List ℕ) (c : ℕ) → Fits place s fields field → Leads fields field c (next_place place c) (step default_config s c)
leads FieldStart st.StartRecord fields field c h = start_record_leads fields field c h
leads FieldStart st.AfterCr fields field c h = after_cr_leads fields field c h
leads FieldStart st.StartField fields field c h = start_field_leads fields field c
leads InField st.InField fields field c h = in_field_leads fields field c
leads InQuotes st.InQuoted fields field c h =
    both fields field c (c == 34) AfterQuote InQuotes (st.AfterQuote, act.Skip) (st.InQuoted, act.Copy) (λ e. absurd (true≢false (sym e)), λ e. tt) (λ e. absurd (true≢false (sym e)), λ e. tt)
leads AfterQuote st.AfterQuote fields field c h =
    both fields field c (c == 34) InQuotes (after_unquoted c) (st.InQuoted, act.Copy) (in_field default_config c) (λ e. absurd (true≢false (sym e)), λ e. tt) (in_field_leads fields field c)
leads place s fields field c h = absurd h

-- the records of a text with a line feed in it, and those of its two parts
abbrev SplitsFrom : State → List (List ℕ) → List ℕ → List ℕ → List ℕ → Type 0
SplitsFrom s fields field prefix rest = all_from s fields field (prefix ++ 10 ∷ rest) ≡ all_from s fields field (prefix ++ 10 ∷ []) ++ all_from st.StartRecord [] [] rest

-- the line feed itself
line_feed_alone : (place : Place) (s : State) (fields : List (List ℕ)) (field rest : List ℕ) → Fits place s fields field → is_quoted place ≡ false → SplitsFrom s fields field [] rest
unfolding all_from
line_feed_alone FieldStart st.StartRecord fields field rest h q = ap₂ (λ (f : List (List ℕ)) (p : List ℕ). all_from st.StartRecord f p rest) h.0 h.1
line_feed_alone FieldStart st.AfterCr fields field rest h q = ap₂ (λ (f : List (List ℕ)) (p : List ℕ). all_from st.StartRecord f p rest) h.0 h.1
line_feed_alone FieldStart st.StartField fields field rest h q = refl
line_feed_alone InField st.InField fields field rest h q = refl
line_feed_alone AfterQuote st.AfterQuote fields field rest h q = refl
line_feed_alone InQuotes s fields field rest h q = absurd (true≢false q)
line_feed_alone place s fields field rest h q = absurd h

-- a prefix that ends with an unquoted line feed
pub after_line : (place : Place) (s : State) (fields : List (List ℕ)) (field prefix rest : List ℕ) → Fits place s fields field → is_quoted (place_after place prefix) ≡ false → SplitsFrom s fields field prefix rest
unfolding all_from
after_line place s fields field [] rest h q = line_feed_alone place s fields field rest h q
after_line place s fields field (c ∷ prefix) rest h q =
    by (is_end (step default_config s c).1) (leads place s fields field c h)
    (λ f p g. after_line (next_place place c) (step default_config s c).0 f p prefix rest g q)
  where
    by : (b : Bool)
        → (b ≡ true → Fits (next_place place c) (step default_config s c).0 [] []) × (b ≡ false → Fits (next_place place c) (step default_config s c).0 (fields_after (step default_config s c).1 fields field) (field_after (step default_config s c).1 c field))
        → ((f : List (List ℕ)) (p : List ℕ) → Fits (next_place place c) (step default_config s c).0 f p → SplitsFrom (step default_config s c).0 f p prefix rest)
        → (if b then fields_after (step default_config s c).1 fields field ∷ all_from (step default_config s c).0 [] [] (prefix ++ 10 ∷ rest) else all_from (step default_config s c).0 (fields_after (step default_config s c).1 fields field) (field_after (step default_config s c).1 c field) (prefix ++ 10 ∷ rest))
        ≡ (if b then fields_after (step default_config s c).1 fields field ∷ all_from (step default_config s c).0 [] [] (prefix ++ 10 ∷ []) else all_from (step default_config s c).0 (fields_after (step default_config s c).1 fields field) (field_after (step default_config s c).1 c field) (prefix ++ 10 ∷ [])) ++ all_from st.StartRecord [] [] rest
    by true g again = ap (λ (rs : List (List (List ℕ))). fields_after (step default_config s c).1 fields field ∷ rs) (again [] [] (g.0 refl))
    by false g again = again _ _ (g.1 refl)

-- the records of a text are those of such a prefix followed by those of the rest
pub cut_records : (prefix rest : List ℕ) → is_quoted (place_after FieldStart prefix) ≡ false → records default_config (prefix ++ 10 ∷ rest) ≡ records default_config (prefix ++ 10 ∷ []) ++ records default_config rest
cut_records prefix rest q =
    as_records (length (prefix ++ 10 ∷ rest) + 1) st.StartRecord (prefix ++ 10 ∷ rest) refl (omega arith)
    ∙ (after_line FieldStart st.StartRecord [] [] prefix rest (refl, refl) q
    ∙ sym (ap₂ (λ (a b : List (List (List ℕ))). a ++ b) (as_records (length (prefix ++ 10 ∷ []) + 1) st.StartRecord (prefix ++ 10 ∷ []) refl (omega arith)) (as_records (length rest + 1) st.StartRecord rest refl (omega arith))))

-- ---- prefixes without a quote

-- no byte is a quote
abbrev pub NoQuote : List ℕ → Type 0
NoQuote [] = ⊤
NoQuote (c ∷ cs) = ((c == 34) ≡ false) × NoQuote cs

after_unquoted-open : (c : ℕ) → is_quoted (after_unquoted c) ≡ false
after_unquoted-open c = by (c == 44) ((c == 13) || (c == 10))
  where
    by : (a b : Bool) → is_quoted (if a then FieldStart else if b then FieldStart else InField) ≡ false
    by true b = refl
    by false true = refl
    by false false = refl

next_open : (place : Place) (c : ℕ) → (c == 34) ≡ false → is_quoted place ≡ false → is_quoted (next_place place c) ≡ false
next_open FieldStart c n q = rw n (after_unquoted-open c)
next_open InField c n q = after_unquoted-open c
next_open InQuotes c n q = absurd (true≢false q)
next_open AfterQuote c n q = rw n (after_unquoted-open c)

pub stays_open : (place : Place) (text : List ℕ) → NoQuote text → is_quoted place ≡ false → is_quoted (place_after place text) ≡ false
stays_open place [] n q = q
stays_open place (c ∷ cs) n q = stays_open (next_place place c) cs n.1 (next_open place c n.0 q)

-- one more byte
pub place_after-more : (place : Place) (text : List ℕ) (c : ℕ) → place_after place (text ++ c ∷ []) ≡ next_place (place_after place text) c
place_after-more place [] c = refl
place_after-more place (x ∷ xs) c = place_after-more (next_place place x) xs c
