-- Rows as csv's own machine reads them.
use Rattle.std.proofs.Common.{◌≡◌, ◌==◌, ◌≤◌, ◌<◌, ◌+◌, ◌++◌, ℕ, Bool, List, [], ◌∷◌, length, drop, get_or, Some, true, false, true≢false, refl, sym, ap, ◌∙◌, arith}
use Rattle.std.specs.Prelude.{if◌then◌else◌}
use Rattle.std.proofs.lemmas.List.{drop_all, drop_more}
use Rattle.csv.specs.Machine.{next_record, is_end, step, fields_after, field_after, ends_at_end, in_field, ends_with, after_end}
use Rattle.csv.specs.Reading.{default_config}
use Rattle.csv.specs.declared.parser.State.{State as MachineState}
use Rattle.csv.specs.declared.parser.State.TheVariants as machine
use Rattle.csv.specs.declared.parser.Terminator.TheVariants as term
use Rattle.csv.specs.declared.parser.Action.{Action}
use Rattle.csv.specs.declared.parser.Action.TheVariants as act
use Rattle.csv_places.specs.declared.scanning.State.{State}
use Rattle.csv_places.specs.declared.scanning.State.TheVariants.{Start, Plain, Quoted, Closing}
use Rattle.csv_places.specs.Scanning.{action_at, ended_fields, machine_state, state_after, EndsRow}

-- if this byte ends a record, the text's end right after it doesn't end another one
abbrev LeavesNone : MachineState × Action → Type 0
LeavesNone p = is_end p.1 ≡ true → ends_at_end p.0 ≡ false

inside : {X : Type 0} → false ≡ true → X
inside e = absurd (true≢false (sym e))

chosen : (b : Bool) (p q : MachineState × Action) → LeavesNone p → LeavesNone q → LeavesNone (if b then p else q)
chosen true p q h k = h
chosen false p q h k = k

after_end_none : (c : ℕ) → ends_at_end (after_end term.CRLF c) ≡ false
after_end_none c = by (c == 13)
  where
    by : (b : Bool) → ends_at_end (if b then machine.AfterCr else machine.StartRecord) ≡ false
    by true = refl
    by false = refl

in_field_none : (c : ℕ) → LeavesNone (in_field default_config c)
in_field_none c = chosen (c == 44) _ _ inside (chosen (ends_with term.CRLF c) _ _ (λ _. after_end_none c) inside)

step_none : (s : State) (c : ℕ) → LeavesNone (step default_config (machine_state s) c)
step_none Start c = chosen (c == 34) _ _ inside (in_field_none c)
step_none Plain c = in_field_none c
step_none Quoted c = chosen (c == 34) _ _ inside inside
step_none Closing c = chosen (c == 34) _ _ inside (in_field_none c)

-- The fields that are finished, and the one that is under way, at a place of a row that began at `from`.
pub record IsUnderWay (text : List ℕ) (from at : ℕ) (state : State) (count : ℕ) : Type 0 where
  pub fields : List (List ℕ)
  pub field : List ℕ
  pub rest : next_record default_config machine.StartField [] [] (drop from text) ≡ next_record default_config (machine_state state) fields field (drop at text)
  pub counted : length fields + 1 ≡ count
  pub few : count + from ≤ at + 1

pub starts : (text : List ℕ) (from : ℕ) → IsUnderWay text from from Start 1
starts text from = record { fields = []; field = []; rest = refl; counted = refl; few = omega arith }

pub one_more : (fields : List (List ℕ)) (field : List ℕ) → length (fields ++ field ∷ []) ≡ length fields + 1
one_more [] field = refl
one_more (f ∷ fields) field = omega (arith, one_more fields field)

ended : (a : Action) (fields : List (List ℕ)) (field : List ℕ) → is_end a ≡ false → length (fields_after a fields field) ≡ length fields + ended_fields a
ended act.EndField fields field e = one_more fields field
ended act.Copy fields field e = omega arith
ended act.Skip fields field e = omega arith
ended act.EndRecord fields field e = absurd (true≢false e)

pub next_step : (s : MachineState) (fields : List (List ℕ)) (field : List ℕ) (c : ℕ) (rest : List ℕ) → is_end (step default_config s c).1 ≡ false
    → next_record default_config s fields field (c ∷ rest)
    ≡ next_record default_config (step default_config s c).0 (fields_after (step default_config s c).1 fields field) (field_after (step default_config s c).1 c field) rest
unfolding next_record
next_step s fields field c rest e = ap (λ (b : Bool). if b then Some (fields_after (step default_config s c).1 fields field, (step default_config s c).0, rest)
    else next_record default_config (step default_config s c).0 (fields_after (step default_config s c).1 fields field) (field_after (step default_config s c).1 c field) rest) e

next_end : (s : MachineState) (fields : List (List ℕ)) (field : List ℕ) (c : ℕ) (rest : List ℕ) → is_end (step default_config s c).1 ≡ true
    → next_record default_config s fields field (c ∷ rest) ≡ Some (fields_after (step default_config s c).1 fields field, (step default_config s c).0, rest)
unfolding next_record
next_end s fields field c rest e = ap (λ (b : Bool). if b then Some (fields_after (step default_config s c).1 fields field, (step default_config s c).0, rest)
    else next_record default_config (step default_config s c).0 (fields_after (step default_config s c).1 fields field) (field_after (step default_config s c).1 c field) rest) e

pub goes_on : (text : List ℕ) (from at count more : ℕ) (state next : State) → at < length text → is_end (action_at state (get_or text at 0)) ≡ false
    → machine_state next ≡ state_after state (get_or text at 0) → more ≡ ended_fields (action_at state (get_or text at 0)) → IsUnderWay text from at state count → IsUnderWay text from (at + 1) next (count + more)
goes_on text from at count more state next lt going moved ended_here h = record {
  fields = fields_after (action_at state (get_or text at 0)) h.fields h.field;
  field = field_after (action_at state (get_or text at 0)) (get_or text at 0) h.field;
  rest = h.rest ∙ ap (next_record default_config (machine_state state) h.fields h.field) (drop_more text at 0 lt)
      ∙ next_step (machine_state state) h.fields h.field (get_or text at 0) (drop (at + 1) text) going
      ∙ ap (λ (s : MachineState). next_record default_config s (fields_after (action_at state (get_or text at 0)) h.fields h.field) (field_after (action_at state (get_or text at 0)) (get_or text at 0) h.field) (drop (at + 1) text)) (sym moved);
  counted = omega (arith, ended (action_at state (get_or text at 0)) h.fields h.field going, h.counted, ended_here);
  few = omega (arith, h.few, ended_here, few_ended (action_at state (get_or text at 0)));
}
  where
    few_ended : (a : Action) → ended_fields a ≤ 1
    few_ended act.EndField = omega arith
    few_ended act.Copy = omega arith
    few_ended act.Skip = omega arith
    few_ended act.EndRecord = omega arith

is_record_end : (a : Action) (fields : List (List ℕ)) (field : List ℕ) → is_end a ≡ true → length (fields_after a fields field) ≡ length fields + 1
is_record_end act.EndRecord fields field e = one_more fields field
is_record_end act.EndField fields field e = absurd (true≢false (sym e))
is_record_end act.Copy fields field e = absurd (true≢false (sym e))
is_record_end act.Skip fields field e = absurd (true≢false (sym e))

pub ends : (text : List ℕ) (from at count : ℕ) (state : State) → at < length text → is_end (action_at state (get_or text at 0)) ≡ true
    → IsUnderWay text from at state count → EndsRow text from at count
ends text from at count state lt stop h = record {
  fields = fields_after (action_at state (get_or text at 0)) h.fields h.field;
  state = state_after state (get_or text at 0);
  reads = h.rest ∙ ap (next_record default_config (machine_state state) h.fields h.field) (drop_more text at 0 lt)
      ∙ next_end (machine_state state) h.fields h.field (get_or text at 0) (drop (at + 1) text) stop;
  counted = is_record_end (action_at state (get_or text at 0)) h.fields h.field stop ∙ h.counted;
  between = step_none state (get_or text at 0) stop;
}

next_stop : (s : State) (fields : List (List ℕ)) (field : List ℕ) → next_record default_config (machine_state s) fields field [] ≡ Some (fields ++ (field ∷ []), machine.StartRecord, [])
unfolding next_record
next_stop Start fields field = refl
next_stop Plain fields field = refl
next_stop Quoted fields field = refl
next_stop Closing fields field = refl

pub ends_text : (text : List ℕ) (from at count : ℕ) (state : State) → length text ≤ at → IsUnderWay text from at state count → EndsRow text from (length text) count
ends_text text from at count state past h = record {
  fields = h.fields ++ (h.field ∷ []);
  state = machine.StartRecord;
  reads = h.rest ∙ ap (next_record default_config (machine_state state) h.fields h.field) (drop_all at text past) ∙ next_stop state h.fields h.field
      ∙ ap (λ (xs : List ℕ). Some (h.fields ++ (h.field ∷ []), machine.StartRecord, xs)) (sym (drop_all (length text + 1) text (omega arith)));
  counted = one_more h.fields h.field ∙ h.counted;
  between = refl;
}
