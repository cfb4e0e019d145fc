-- The records of a text as one recursion on its bytes, without the bound on their number that csv's own definition has.
use Rattle.std.proofs.Common.{◌≡◌, ◌≤◌, ◌<◌, ◌-◌, ◌++◌, ◌==◌, Bool, ℕ, zero, suc, List, [], ◌∷◌, length, Option, Some, None, true, false, true≢false, refl, sym, ◌∙◌, ap, arith}
use Rattle.std.specs.Prelude.{◌&&◌, if◌then◌else◌, IfSome}
use Rattle.csv.specs.Machine.{Read, next_record, ends_at_end, is_end, step, fields_after, field_after, in_field, start_field, start_record, ends_with, after_end, is_byte}
use Rattle.csv.specs.Reading.{default_config, records_from, records_next}
use Rattle.csv.specs.declared.parser.Config.{Config}
use Rattle.csv.specs.declared.parser.State.{State}
use Rattle.csv.specs.declared.parser.State.TheVariants as st
use Rattle.csv.specs.declared.parser.Action.{Action}
use Rattle.csv.specs.declared.parser.Terminator.{Terminator}
use Rattle.csv.specs.declared.parser.Terminator.TheVariants as term

-- ---- what a read leaves

-- if this byte ends a record, the text's end right after it doesn't end another one
abbrev LeavesNone : State × Action → Type 0
LeavesNone p = is_end p.1 ≡ true → ends_at_end p.0 ≡ false

goes_on : {X : Type 0} → false ≡ true → X
goes_on e = absurd (true≢false (sym e))

chosen : (b : Bool) (p q : State × Action) → LeavesNone p → LeavesNone q → LeavesNone (if b then p else q)
chosen true p q h k = h
chosen false p q h k = k

after_end_none : (t : Terminator) (c : ℕ) → ends_at_end (after_end t c) ≡ false
after_end_none (term.Any t) c = refl
after_end_none term.CRLF c = by (c == 13)
  where
    by : (b : Bool) → ends_at_end (if b then st.AfterCr else st.StartRecord) ≡ false
    by true = refl
    by false = refl

in_field_none : (cfg : Config) (c : ℕ) → LeavesNone (in_field cfg c)
in_field_none cfg c = chosen (c == cfg.delimiter) _ _ goes_on (chosen (ends_with cfg.terminator c) _ _ (λ _. after_end_none cfg.terminator c) goes_on)

start_field_none : (cfg : Config) (c : ℕ) → LeavesNone (start_field cfg c)
start_field_none cfg c = chosen (cfg.quoting && (c == cfg.quote)) _ _ goes_on (in_field_none cfg c)

start_record_none : (cfg : Config) (c : ℕ) → LeavesNone (start_record cfg c)
start_record_none cfg c = chosen (ends_with cfg.terminator c) _ _ goes_on (chosen (is_byte cfg.comment c) _ _ goes_on (start_field_none cfg c))

step_none : (cfg : Config) (s : State) (c : ℕ) → LeavesNone (step cfg s c)
step_none cfg st.StartRecord c = start_record_none cfg c
step_none cfg st.StartField c = start_field_none cfg c
step_none cfg st.InField c = in_field_none cfg c
step_none cfg st.InQuoted c = chosen (cfg.quoting && (c == cfg.quote)) _ _ goes_on (chosen (cfg.quoting && is_byte cfg.escape c) _ _ goes_on goes_on)
step_none cfg st.InEscape c = goes_on
step_none cfg st.AfterQuote c = chosen (cfg.quoting && cfg.double_quote && (c == cfg.quote)) _ _ goes_on (in_field_none cfg c)
step_none cfg st.InComment c = chosen (c == 10) _ _ goes_on goes_on
step_none cfg st.AfterCr c = chosen (c == 10) _ _ goes_on (start_record_none cfg c)

-- a read leaves the machine between two records, and less of the text
abbrev Leaves : List ℕ → Read → Type 0
Leaves xs p = (ends_at_end p.1 ≡ false) × (length p.2 ≤ length xs - 1)

leaves : (cfg : Config) (s : State) (fields : List (List ℕ)) (field xs : List ℕ) → IfSome (next_record cfg s fields field xs) (Leaves xs)
unfolding next_record
leaves cfg s fields field [] = by (ends_at_end s)
  where
    by : (b : Bool) → IfSome (if b then Some (fields ++ (field ∷ []), st.StartRecord, []) else None) (Leaves [])
    by true = (refl, omega arith)
    by false = tt
leaves cfg s fields field (c ∷ rest) = by (is_end (step cfg s c).1) (step_none cfg s c) (next_record cfg (step cfg s c).0 _ _ rest) (leaves cfg (step cfg s c).0 _ _ rest)
  where
    less : (more : Option Read) → IfSome more (Leaves rest) → IfSome more (Leaves (c ∷ rest))
    less None h = tt
    less (Some p) h = (h.0, omega arith)

    by : (b : Bool) → (b ≡ true → ends_at_end (step cfg s c).0 ≡ false) → (more : Option Read) → IfSome more (Leaves rest)
        → IfSome (if b then Some (fields_after (step cfg s c).1 fields field, (step cfg s c).0, rest) else more) (Leaves (c ∷ rest))
    by true e more h = (e refl, omega arith)
    by false e more h = less more h

-- ---- one recursion

-- the records of a text from a state, with the fields and the bytes of the field at hand
unfoldable pub all_from : State → List (List ℕ) → List ℕ → List ℕ → List (List (List ℕ))
all_from s fields field [] = if ends_at_end s then (fields ++ (field ∷ [])) ∷ [] else []
all_from s fields field (c ∷ rest) =
    if is_end (step default_config s c).1 then fields_after (step default_config s c).1 fields field ∷ all_from (step default_config s c).0 [] [] rest
    else all_from (step default_config s c).0 (fields_after (step default_config s c).1 fields field) (field_after (step default_config s c).1 c field) rest

abbrev then_all : Option Read → List (List (List ℕ))
then_all None = []
then_all (Some p) = p.0 ∷ all_from p.1 [] [] p.2

by_reads : (s : State) (fields : List (List ℕ)) (field xs : List ℕ) → all_from s fields field xs ≡ then_all (next_record default_config s fields field xs)
unfolding all_from next_record
by_reads s fields field [] = by (ends_at_end s)
  where
    by : (b : Bool) → (if b then (fields ++ (field ∷ [])) ∷ [] else []) ≡ then_all (if b then Some (fields ++ (field ∷ []), st.StartRecord, []) else None)
    by true = refl
    by false = refl
by_reads s fields field (c ∷ rest) = by (is_end (step default_config s c).1) _ _ (by_reads (step default_config s c).0 _ _ rest)
  where
    by : (b : Bool) (all : List (List (List ℕ))) (more : Option Read) → all ≡ then_all more
        → (if b then fields_after (step default_config s c).1 fields field ∷ all_from (step default_config s c).0 [] [] rest else all)
        ≡ then_all (if b then Some (fields_after (step default_config s c).1 fields field, (step default_config s c).0, rest) else more)
    by true all more h = refl
    by false all more h = h

-- csv's definition with enough turns yields these records
pub as_records : (n : ℕ) (s : State) (xs : List ℕ) → ends_at_end s ≡ false → length xs < n → records_from default_config n s xs ≡ all_from s [] [] xs
unfolding records_from next_record
as_records zero s xs b l = absurd (omega arith)
as_records (suc n) s [] b l = rw b (sym (by_reads s [] [] [] ∙ rw b refl))
as_records (suc n) s (x ∷ xs) b l =
    by (next_record default_config s [] [] (x ∷ xs)) (leaves default_config s [] [] (x ∷ xs)) (λ to rest. as_records n to rest) ∙ sym (by_reads s [] [] (x ∷ xs))
  where
    by : (more : Option Read) → IfSome more (Leaves (x ∷ xs)) → ((to : State) (rest : List ℕ) → ends_at_end to ≡ false → length rest < n → records_from default_config n to rest ≡ all_from to [] [] rest)
        → records_next (records_from default_config n) more ≡ then_all more
    by None h again = refl
    by (Some p) h again = ap (λ (rs : List (List (List ℕ))). p.0 ∷ rs) (again p.1 p.2 h.0 (omega arith))
