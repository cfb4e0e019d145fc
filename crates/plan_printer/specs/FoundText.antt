-- The findings for an operator, as text.
use Rattle.std.specs.Prelude.{◌++◌, ◌==◌, ℕ, zero, suc, Bool, true, false, cond, List, [], ◌∷◌, codes, decimal}
use Rattle.pact_record.specs.declared.records.TheConstants.{MAX_FIELDS}
use Rattle.pact_record.specs.FieldSets.{has_field}
use Rattle.tac_syntax.specs.EmitBounds.{many}
use Rattle.reorder_pair.specs.declared.finding.Found.{Found}

-- the fields of a set below a number, rising
unfoldable pub rising_fields : ℕ → ℕ → List ℕ
rising_fields set zero = []
rising_fields set (suc n) = rising_fields set n ++ cond (has_field set n) (n ∷ []) []

-- numbers, each after a comma
abbrev pub behind_commas : List ℕ → List ℕ
behind_commas [] = []
behind_commas (n ∷ numbers) = codes "," ++ (decimal n ++ behind_commas numbers)

-- numbers with a comma between each two
abbrev pub with_commas : List ℕ → List ℕ
with_commas [] = []
with_commas (n ∷ numbers) = decimal n ++ behind_commas numbers

-- a set as its fields between braces: `{}`, `{0,1}`
abbrev pub set_text : ℕ → List ℕ
set_text set = codes "{" ++ (with_commas (rising_fields set MAX_FIELDS) ++ codes "}")

-- The bound on the number of records that a call emits. The number at which counting stops isn't a bound, and is
-- printed as `many`.
abbrev pub bound_text : ℕ → List ℕ
bound_text n = cond (n == many) (codes "many") (decimal n)

-- on which sides a CoGroup is anchored
abbrev pub anchor_word : Bool → Bool → List ℕ
anchor_word true true = codes "both"
anchor_word true false = codes "left"
anchor_word false true = codes "right"
anchor_word false false = codes "none"

abbrev pub bounds_text : Found → List ℕ
bounds_text f = codes " emit " ++ (bound_text f.lo ++ (codes ".." ++ bound_text f.hi))

abbrev pub found_text : Found → List ℕ
found_text f =
    codes "reads " ++ (set_text f.sets.reads ++ (codes " writes " ++ (set_text f.sets.writes ++ (codes " control " ++ (set_text f.sets.control ++ (codes " touched " ++ (set_text f.sets.touched
    ++ (bounds_text f ++ (codes " anchor " ++ anchor_word f.sets.anchor_left f.sets.anchor_right)))))))))
