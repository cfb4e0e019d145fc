-- Rows by their numbers.
use Rattle.std.proofs.Common.{◌≡◌, ◌==◌, ◌≤◌, ◌<◌, ◌+◌, ◌-◌, ◌++◌, ℕ, zero, suc, Bool, List, [], ◌∷◌, length, drop, get_or, slice_get, Some, true, false, true≢false, refl, sym, ap, ◌∙◌, subst, arith}
use Rattle.std.specs.Prelude.{◌||◌, if◌then◌else◌}
use Rattle.std.proofs.lemmas.List.{drop_all, drop_more, length-drop}
use Rattle.csv.specs.Machine.{next_record, is_end, step, fields_after, field_after, ends_at_end}
use Rattle.csv.specs.Reading.{default_config, is_bom, records_from, records_next, strip_bom}
use Rattle.csv.specs.declared.parser.State.{State as MachineState}
use Rattle.csv.specs.declared.parser.State.TheVariants as machine
use Rattle.csv.specs.declared.parser.Action.{Action}
use Rattle.csv.specs.declared.parser.Action.TheVariants as act
use Rattle.csv_source.specs.CsvRows.{column_number, records_of}
use Rattle.csv_places.specs.Scanning.{BeginsRow, EndsRow, IsAfterRows, is_line_end}
use Rattle.csv_places.proofs.RowsScanned.{next_step}

-- ---- line ends between rows

skip_step : (s : MachineState) (c : ℕ) → ends_at_end s ≡ false → is_line_end c ≡ true → step default_config s c ≡ (machine.StartRecord, act.Skip)
skip_step machine.StartRecord c e h = rw h refl
skip_step machine.AfterCr c e h = by (c == 10)
  where
    by : (b : Bool) → (if b then (machine.StartRecord, act.Skip) else step default_config machine.StartRecord c) ≡ (machine.StartRecord, act.Skip)
    by true = refl
    by false = rw h refl
skip_step machine.StartField c e h = absurd (true≢false e)
skip_step machine.InField c e h = absurd (true≢false e)
skip_step machine.InQuoted c e h = absurd (true≢false e)
skip_step machine.AfterQuote c e h = absurd (true≢false e)
skip_step machine.InEscape c e h = absurd (true≢false e)
skip_step machine.InComment c e h = absurd (true≢false e)

skip_next : (s : MachineState) (c : ℕ) (rest : List ℕ) → ends_at_end s ≡ false → is_line_end c ≡ true
    → next_record default_config s [] [] (c ∷ rest) ≡ next_record default_config machine.StartRecord [] [] rest
skip_next s c rest e h =
    let stepped = skip_step s c e h in
    next_step s [] [] c rest (ap (λ (p : MachineState × Action). is_end p.1) stepped)
    ∙ ap (λ (p : MachineState × Action). next_record default_config p.0 (fields_after p.1 [] []) (field_after p.1 c []) rest) stepped

skip_records : (n : ℕ) (s : MachineState) (c : ℕ) (rest : List ℕ) → ends_at_end s ≡ false → is_line_end c ≡ true → 0 < n
    → records_from default_config n s (c ∷ rest) ≡ records_from default_config n machine.StartRecord rest
unfolding records_from
skip_records zero s c rest e h l = absurd (omega arith)
skip_records (suc n) s c rest e h l = ap (records_next (records_from default_config n)) (skip_next s c rest e h)

pub skips : (text : List ℕ) (at index : ℕ) → at < length text → is_line_end (get_or text at 0) ≡ true → IsAfterRows text at index → IsAfterRows text (at + 1) index
skips text at index lt e h =
    let more = drop_more text at 0 lt in
    record {
      before = h.before;
      state = machine.StartRecord;
      turns = h.turns;
      between = refl;
      enough = omega (arith, ap length more, h.enough);
      records = h.records ∙ ap (λ (xs : List ℕ). h.before ++ records_from default_config h.turns h.state xs) more
          ∙ ap (λ (rs : List (List (List ℕ))). h.before ++ rs) (skip_records h.turns h.state (get_or text at 0) (drop (at + 1) text) h.between e (omega (arith, h.enough)));
      counted = h.counted;
    }

-- ---- rows

after_return : {A : Type 0} (a b : Bool) (x z w : A) → (a || b) ≡ false → (if b then x else (if a || b then z else w)) ≡ w
after_return true b x z w e = absurd (true≢false e)
after_return false true x z w e = absurd (true≢false e)
after_return false false x z w e = refl

row_step : (s : MachineState) (c : ℕ) → ends_at_end s ≡ false → is_line_end c ≡ false → step default_config s c ≡ step default_config machine.StartField c
row_step machine.StartRecord c e h = rw h refl
row_step machine.AfterCr c e h = after_return (c == 13) (c == 10) _ _ _ h
row_step machine.StartField c e h = absurd (true≢false e)
row_step machine.InField c e h = absurd (true≢false e)
row_step machine.InQuoted c e h = absurd (true≢false e)
row_step machine.AfterQuote c e h = absurd (true≢false e)
row_step machine.InEscape c e h = absurd (true≢false e)
row_step machine.InComment c e h = absurd (true≢false e)

row_next : (s : MachineState) (c : ℕ) (rest : List ℕ) → ends_at_end s ≡ false → is_line_end c ≡ false
    → next_record default_config s [] [] (c ∷ rest) ≡ next_record default_config machine.StartField [] [] (c ∷ rest)
unfolding next_record
row_next s c rest e h = ap
    (λ (p : MachineState × Action). if is_end p.1 then Some (fields_after p.1 [] [], p.0, rest) else next_record default_config p.0 (fields_after p.1 [] []) (field_after p.1 c []) rest)
    (row_step s c e h)

row_records : (n : ℕ) (s next : MachineState) (xs rest : List ℕ) (fields : List (List ℕ)) → next_record default_config s [] [] xs ≡ Some (fields, next, rest)
    → records_from default_config (suc n) s xs ≡ fields ∷ records_from default_config n next rest
unfolding records_from
row_records n s next xs rest fields e = ap (records_next (records_from default_config n)) e

regroup : {A : Type 0} (xs : List A) (y : A) (ys : List A) → xs ++ y ∷ ys ≡ (xs ++ y ∷ []) ++ ys
regroup [] y ys = refl
regroup (x ∷ xs) y ys = ap (λ zs. x ∷ zs) (regroup xs y ys)

length-more : {A : Type 0} (xs : List A) (y : A) → length (xs ++ y ∷ []) ≡ length xs + 1
length-more [] y = refl
length-more (x ∷ xs) y = omega (arith, length-more xs y)

get_middle : {A : Type 0} (xs : List A) (y : A) (ys : List A) → slice_get (xs ++ y ∷ ys) (length xs) ≡ Some y
get_middle [] y ys = refl
get_middle (x ∷ xs) y ys = get_middle xs y ys

shorter : (text : List ℕ) (from to : ℕ) → from < length text → from ≤ to → length (drop (to + 1) text) < length (drop from text)
shorter text from to lt le = omega (arith, length-drop (to + 1) text, length-drop from text, lt, le)

-- the records that are left begin with the row's
left_records : (text : List ℕ) (at to count index turns : ℕ) (b : BeginsRow text at index) (e : EndsRow text at to count) → b.after.turns ≡ suc turns
    → records_of text ≡ b.after.before ++ e.fields ∷ records_from default_config turns e.state (drop (to + 1) text)
left_records text at to count index turns b e t =
    let h = b.after in
    let more = drop_more text at 0 b.inside in
    let reads = ap (next_record default_config h.state [] []) more ∙ row_next h.state (get_or text at 0) (drop (at + 1) text) h.between b.byte
    ∙ ap (next_record default_config machine.StartField [] []) (sym more) ∙ e.reads in
    h.records ∙ ap (λ (n : ℕ). h.before ++ records_from default_config n h.state (drop at text)) t
    ∙ ap (λ (rs : List (List (List ℕ))). h.before ++ rs) (row_records turns h.state e.state (drop at text) (drop (to + 1) text) e.fields reads)

some_turn : (n m : ℕ) → m < n → (k : ℕ) × (n ≡ suc k)
some_turn zero m l = absurd (omega arith)
some_turn (suc n) m l = (n, refl)

pub row_passed : (text : List ℕ) (at to count index : ℕ) → at ≤ to → BeginsRow text at index → EndsRow text at to count → IsAfterRows text (to + 1) (index + 1)
row_passed text at to count index le b e =
    let h = b.after in
    let t = some_turn h.turns (length (drop at text)) h.enough in
    record {
      before = h.before ++ e.fields ∷ [];
      state = e.state;
      turns = t.0;
      between = e.between;
      enough = omega (arith, t.1, h.enough, shorter text at to b.inside le);
      records = left_records text at to count index t.0 b e t.1 ∙ regroup h.before e.fields (records_from default_config t.0 e.state (drop (to + 1) text));
      counted = length-more h.before e.fields ∙ ap (λ (n : ℕ). n + 1) h.counted;
    }

pub row_found : (text : List ℕ) (at to count index : ℕ) (b : BeginsRow text at index) (e : EndsRow text at to count) → slice_get (records_of text) index ≡ Some e.fields
row_found text at to count index b e =
    let h = b.after in
    let t = some_turn h.turns (length (drop at text)) h.enough in
    ap (λ (rs : List (List (List ℕ))). slice_get rs index) (left_records text at to count index t.0 b e t.1)
    ∙ ap (slice_get (h.before ++ e.fields ∷ records_from default_config t.0 e.state (drop (to + 1) text))) (sym h.counted)
    ∙ get_middle h.before e.fields (records_from default_config t.0 e.state (drop (to + 1) text))

-- ---- the start of a text

marked : (text : List ℕ) → 3 ≤ length text → is_bom (get_or text 0 0) (get_or text 1 0) (get_or text 2 0) ≡ true → strip_bom text ≡ drop 3 text
unfolding strip_bom
marked [] l e = absurd (omega arith)
marked (a ∷ []) l e = absurd (omega arith)
marked (a ∷ b ∷ []) l e = absurd (omega arith)
marked (a ∷ b ∷ c ∷ rest) l e = ap (λ (x : Bool). if x then rest else a ∷ b ∷ c ∷ rest) e

unmarked : (text : List ℕ) → 3 ≤ length text → is_bom (get_or text 0 0) (get_or text 1 0) (get_or text 2 0) ≡ false → strip_bom text ≡ text
unfolding strip_bom
unmarked [] l e = absurd (omega arith)
unmarked (a ∷ []) l e = absurd (omega arith)
unmarked (a ∷ b ∷ []) l e = absurd (omega arith)
unmarked (a ∷ b ∷ c ∷ rest) l e = ap (λ (x : Bool). if x then rest else a ∷ b ∷ c ∷ rest) e

short : (text : List ℕ) → length text < 3 → strip_bom text ≡ text
unfolding strip_bom
short [] l = refl
short (a ∷ []) l = refl
short (a ∷ b ∷ []) l = refl
short (a ∷ b ∷ c ∷ rest) l = absurd (omega arith)

starts_at : (text : List ℕ) (at : ℕ) → strip_bom text ≡ drop at text → IsAfterRows text at 0
starts_at text at e = record {
  before = [];
  state = machine.StartRecord;
  turns = length (strip_bom text) + 1;
  between = refl;
  enough = omega (arith, ap length e);
  records = ap (records_from default_config (length (strip_bom text) + 1) machine.StartRecord) e;
  counted = refl;
}

pub starts_marked : (text : List ℕ) → 3 ≤ length text → is_bom (get_or text 0 0) (get_or text 1 0) (get_or text 2 0) ≡ true → IsAfterRows text 3 0
starts_marked text l e = starts_at text 3 (marked text l e)

pub starts_unmarked : (text : List ℕ) → 3 ≤ length text → is_bom (get_or text 0 0) (get_or text 1 0) (get_or text 2 0) ≡ false → IsAfterRows text 0 0
starts_unmarked text l e = starts_at text 0 (unmarked text l e)

pub starts_short : (text : List ℕ) → length text < 3 → IsAfterRows text 0 0
starts_short text l = starts_at text 0 (short text l)

-- ---- for answers

pub at_end : (text : List ℕ) (n index : ℕ) → length text ≤ n → IsAfterRows text (n + 1) index → IsAfterRows text n index
at_end text n index past h =
    let same = drop_all (n + 1) text (omega arith) ∙ sym (drop_all n text past) in
    record {
      before = h.before;
      state = h.state;
      turns = h.turns;
      between = h.between;
      enough = omega (arith, ap length same, h.enough);
      records = h.records ∙ ap (λ (xs : List ℕ). h.before ++ records_from default_config h.turns h.state xs) same;
      counted = h.counted;
    }

pub one_on : (text : List ℕ) (at n : ℕ) → 1 ≤ n → IsAfterRows text at (n - 1 + 1) → IsAfterRows text at (n + 1 - 1)
one_on text at n l h = let e : n - 1 + 1 ≡ n + 1 - 1 = omega (arith, l) in subst (IsAfterRows text at) e h

pub begins : (text : List ℕ) (at index : ℕ) → at < length text → IsAfterRows text at index × (at < length text → is_line_end (get_or text at 0) ≡ false) → BeginsRow text at index
begins text at index lt h = record { after = h.0; inside = lt; byte = h.1 lt }

pub has_fields : (text : List ℕ) (at to index count told : ℕ) → BeginsRow text at index → EndsRow text at to count → told ≡ column_number count
    → (fields : List (List ℕ)) × (slice_get (records_of text) index ≡ Some fields) × (told ≡ column_number (length fields))
has_fields text at to index count told b e t = (e.fields, row_found text at to count index b e, t ∙ ap column_number (sym e.counted))
