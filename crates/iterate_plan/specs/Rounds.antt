-- Rounds of an iteration: a program runs repeatedly, and from the second round on one source has the records of the
-- round before, cut to its columns.
use Rattle.std.specs.Prelude.{◌≡◌, ◌≤◌, ◌⊎◌, ◌+◌, ◌==◌, ◌++◌, ℕ, Bool, true, false, cond, List, [], ◌∷◌}
use Rattle.std.specs.Prelude.{length, map, get_or, slice_set, slice_get, Some}
use Rattle.std.specs.List.{list_any}
use Rattle.std.specs.List.Sorted.{IsPermutation}
use Rattle.pact_record.specs.declared.columns.Column.{Column}
use Rattle.pact_record.specs.declared.values.Value.{Value}
use Rattle.pact_record.specs.declared.values.Value.TheVariants.{Null}
use Rattle.pact_operators.specs.declared.operators.Op.{Op}
use Rattle.pact_operators.specs.Allowed.{Allows, Bag}
use Rattle.pact_operators.specs.PlanOps.{plan_ops, sources_of}
use Rattle.pact_operators.specs.Programs.{ProgramData}

-- ---- cut to the columns of a source

-- some column goes to the field
abbrev pub is_column : List Column → ℕ → Bool
is_column columns k = list_any (λ c. c.field == k) columns

-- the values of a record from this field on, with Null in each field to which no column goes
abbrev pub cut_from : List Column → ℕ → List Value → List Value
cut_from columns k [] = []
cut_from columns k (value ∷ values) = cond (is_column columns k) value Null ∷ cut_from columns (k + 1) values

-- a bag with Null in each field to which no column goes
abbrev pub cut_to : List Column → Bag → Bag
cut_to columns bag = map (cut_from columns 0) bag

-- ---- rounds

-- the plan as written allows the bag on these rows of the sources
abbrev pub AllowsOn : ProgramData → List Bag → Bag → Type 0
AllowsOn p inputs bag = Allows (plan_ops p inputs) p.plan bag

-- the rows of the sources, with these for the source at this place
abbrev pub with_rows : List Bag → ℕ → Bag → List Bag
with_rows inputs at rows = slice_set inputs at rows

-- Bags of one round after the other. The first round's bag is allowed on what the sources have now. Each other bag is
-- allowed if the source at this place has the bag before it, cut to its columns, and each other source has the rows
-- that it began with.
abbrev pub AreRounds : ProgramData → List Bag → ℕ → List Column → (now : List Bag) → List Bag → Type 0
AreRounds p inputs at columns now [] = Unit {0}
AreRounds p inputs at columns now (bag ∷ bags) =
    AllowsOn p now bag × AreRounds p inputs at columns (with_rows inputs at (cut_to columns bag)) bags

-- the round's bag, cut, has the rows that the source had in it, up to order
abbrev pub IsStable : List Column → Bag → Bag → Type 0
IsStable columns rows bag = IsPermutation rows (cut_to columns bag)

-- none of these rounds is stable, if the source had these rows in the first of them
abbrev pub NoneStable : List Column → Bag → List Bag → Type 0
NoneStable columns rows [] = Unit {0}
NoneStable columns rows (bag ∷ bags) = (IsStable columns rows bag → ⊥) × NoneStable columns (cut_to columns bag) bags

-- the rows that the source has after these rounds
abbrev pub rows_behind : List Column → Bag → List Bag → Bag
rows_behind columns rows [] = rows
rows_behind columns rows (bag ∷ bags) = rows_behind columns (cut_to columns bag) bags

-- the rows of the source at this place
abbrev pub rows_at : List Bag → ℕ → Bag
rows_at inputs at = get_or inputs at []

-- ---- an iteration

-- An iteration is over if it has as many bags as asked for. If it may end early, none of the bags before the last is
-- stable, and it has as many bags as asked for or the last one is stable.
abbrev pub IsOver : List Column → Bag → (rounds : ℕ) → (stable : Bool) → List Bag → Bag → ℕ → Type 0
IsOver columns rows rounds false front last count = count ≡ rounds
IsOver columns rows rounds true front last count =
    NoneStable columns rows front × ((count ≡ rounds) ⊎ IsStable columns (rows_behind columns rows front) last)

-- The result of an iteration of at most `rounds` rounds: the last bag, and the number of bags, including those before
-- it.
pub record IsIterated (p : ProgramData) (inputs : List Bag) (at : ℕ) (columns : List Column) (rounds : ℕ) (stable : Bool)
    (last : Bag) (count : ℕ) : Type 0 where
  pub front : List Bag
  pub are_rounds : AreRounds p inputs at columns inputs (front ++ last ∷ [])
  pub count_is : count ≡ length front + 1
  pub most : count ≤ rounds
  pub over : IsOver columns (rows_at inputs at) rounds stable front last count

-- the source at this place among the sources has these columns
abbrev pub IsSourceAt : ProgramData → ℕ → List Column → Type 0
IsSourceAt p at columns = (source : Op) × (slice_get (sources_of p.ops) at ≡ Some source) × (source.columns ≡ columns)

-- for any rows of its sources, the program allows only one bag, up to order
abbrev pub AllowsOne : ProgramData → Type 0
AllowsOne p = (inputs : List Bag) (bag other : Bag) → AllowsOn p inputs bag → AllowsOn p inputs other → IsPermutation bag other
