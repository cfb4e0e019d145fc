-- What a call emitted in all, both if the input's record passes and if it doesn't.
use Rattle.std.proofs.Common.{◌≡◌, ◌++◌, ◌∷◌, ℕ, [], Bool, true, false, None, List, length, refl, sym, ap, ◌∙◌, subst, append_assoc}
use Rattle.std.specs.List.{AllByRecursion}
use Rattle.pact_record.specs.declared.values.Value.{Value}
use Rattle.pact_record.specs.Widths.{AreWide}
use Rattle.pact_record.proofs.Lists.{AllByRecursion-append, AllByRecursion-left, AllByRecursion-weaker}
use Rattle.tac_syntax.specs.declared.functions.Function.{Function}
use Rattle.tac_syntax.specs.Call.{CallInput, Out, Store, input_record, start_store}
use Rattle.tac_syntax.specs.CallInputs.{IsOfRecord}
use Rattle.tac_syntax.specs.Exec.{exec}
use Rattle.tac_syntax.proofs.StepsAsRecursion.{Out-exec, input-exec}
use Rattle.tac_interp.specs.declared.inputs.Input.{Input}
use Rattle.tac_interp.specs.declared.inputs.Input.TheVariants.{Record, Pair, Group, Groups}
use Rattle.tac_interp.specs.Machine.{AreEmitted, input_of, record_of}
use Rattle.tac_interp.proofs.Starts.{emitted-exec}

-- what the whole body emits, from the steps of a call
pub AreEmitted-exec : (f g : Function) (fields : ℕ) (input : CallInput) (start : Store) (passes : Bool) (emitted now : List (List Value)) → emitted ≡ now
    → AreEmitted passes (exec g.body start).input now (exec g.body start).emitted → g ≡ f → start ≡ start_store fields input → AreEmitted passes input emitted (Out fields f.body input)
AreEmitted-exec f g fields input start passes emitted now n h e s =
    let same = input-exec g.body start ∙ ap (λ (x : Store). x.input) s in
    let all = emitted-exec f g fields input start (exec g.body start).emitted refl e s ∙ sym (Out-exec fields f.body input) in
    subst (λ (i : CallInput). AreEmitted passes i emitted (Out fields f.body input)) same
    (subst (λ (rows : List (List Value)). AreEmitted passes (exec g.body start).input rows (Out fields f.body input)) (sym n)
    (subst (AreEmitted passes (exec g.body start).input now) all h))

pub AreWide-emitted : (fields : ℕ) (passes : Bool) (input : CallInput) (emitted all : List (List Value)) → AreEmitted passes input emitted all → AreWide fields all → AreWide fields emitted
AreWide-emitted fields false input emitted all h w = subst (AreWide fields) (sym h) w
AreWide-emitted fields true input emitted all h w =
    AllByRecursion-left (λ (row : List Value). length row ≡ fields) emitted (input_record input ∷ []) (subst (AreWide fields) (sym h.1) w)

lends : (input : Input) → record_of input ≡ None → IsOfRecord (input_of input) → ⊥
lends (Record row) e h = cc
lends (Pair left right) e h = h
lends (Group keys one group) e h = h
lends (Groups keys one left right) e h = h

-- an input that lends no record
pub all-emitted : (passes : Bool) (input : Input) (emitted all : List (List Value)) → record_of input ≡ None → AreEmitted passes (input_of input) emitted all → emitted ≡ all
all-emitted false input emitted all none h = h
all-emitted true input emitted all none h = absurd (lends input none h.0)

pub none-passes : (passes : Bool) (input : CallInput) (emitted all : List (List Value)) → passes ≡ false → AreEmitted passes input emitted all → emitted ≡ all
none-passes passes input emitted all e h = subst (λ (b : Bool). AreEmitted b input emitted all) e h

pub one-passes : (passes : Bool) (input : CallInput) (emitted all : List (List Value)) → passes ≡ true → AreEmitted passes input emitted all → emitted ++ input_record input ∷ [] ≡ all
one-passes passes input emitted all e h = (subst (λ (b : Bool). AreEmitted b input emitted all) e h).1

-- ---- after what was emitted before

pub all-behind : (before now emitted all : List (List Value)) → now ≡ before ++ emitted → emitted ≡ all → now ≡ before ++ all
all-behind before now emitted all n e = n ∙ ap (λ (l : List (List Value)). before ++ l) e

pub one-behind : (before now last emitted all : List (List Value)) (row : List Value) → now ≡ before ++ emitted → last ≡ now ++ row ∷ [] → emitted ++ row ∷ [] ≡ all → last ≡ before ++ all
one-behind before now last emitted all row n l e =
    l ∙ ap (λ (rows : List (List Value)). rows ++ row ∷ []) n ∙ append_assoc before emitted (row ∷ []) ∙ ap (λ (rows : List (List Value)). before ++ rows) e

pub AreWide-behind : (fields : ℕ) (before now emitted : List (List Value)) → now ≡ before ++ emitted → AreWide fields before → AreWide fields emitted → AreWide fields now
AreWide-behind fields before now emitted n h w =
    subst (AreWide fields) (sym n) (AllByRecursion-append (λ (row : List Value). length row ≡ fields) before emitted h w)

-- all rows are as wide as a row that follows them
pub one_width : (fields : ℕ) (row : List Value) (rows : List (List Value)) → length row ≡ fields → AreWide fields rows → AllByRecursion (λ held. length held ≡ length row) rows
one_width fields row rows e h = AllByRecursion-weaker (λ (held : List Value). length held ≡ fields) (λ (held : List Value). length held ≡ length row) rows (λ held w. w ∙ sym e) h
