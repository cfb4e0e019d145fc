-- Empty tables, and tables of which one place has changed.
use Rattle.std.proofs.Common.{◌≡◌, ◌<◌, ℕ, zero, suc, Option, None, Some, List, [], ◌∷◌, get_or, length, replicate, set, refl, ap, sym, ◌∙◌, subst, arith}
use Rattle.std.specs.List.{AllByRecursion}
use Rattle.std.proofs.lemmas.Bool.{cases_eq, cases_lt}
use Rattle.std.proofs.lemmas.List.{get_or-set_other, get_or-set_same, length-set, get_or_past}
use Rattle.std.proofs.Common.{inl, inr}
use Rattle.flow_run.specs.Tables.{HasPlace, IsBlank, AreBlankCells, IsBlankTable, IsShaped, cell}

module _ {T : Type 0} where
  abbrev blank : Option T
  blank = None

  no_items : (n c : ℕ) → get_or (replicate n blank) c None ≡ None
  no_items zero c = get_or_past [] c None (omega arith)
  no_items (suc n) zero = refl
  no_items (suc n) (suc c) = no_items n c

  many : (n : ℕ) (x : Option T) → length (replicate n x) ≡ n
  many zero x = refl
  many (suc n) x = ap suc (many n x)

  pub blank_cells : (columns n : ℕ) (row : List (Option T)) → row ≡ replicate n None → n ≡ columns → AreBlankCells columns row
  blank_cells columns n row is same = record {
    long = ap length is ∙ many n blank ∙ same;
    none = λ c. ap (λ (r : List (Option T)). get_or r c None) is ∙ no_items n c;
  }

  row_none : (columns : ℕ) (table : List (List (Option T))) (b c : ℕ) → AllByRecursion (AreBlankCells columns) table → cell table b c ≡ None
  row_none columns [] b c h = ap (λ (r : List (Option T)). get_or r c None) (get_or_past [] b [] (omega arith)) ∙ get_or_past [] c None (omega arith)
  row_none columns (row ∷ table) zero c h = h.0.none c
  row_none columns (row ∷ table) (suc b) c h = row_none columns table b c h.1

  row_long : (columns : ℕ) (table : List (List (Option T))) (b : ℕ) → AllByRecursion (AreBlankCells columns) table → b < length table → length (get_or table b []) ≡ columns
  row_long columns [] b h less = absurd (omega (arith, less))
  row_long columns (row ∷ table) zero h less = h.0.long
  row_long columns (row ∷ table) (suc b) h less = row_long columns table b h.1 (omega (arith, less))

  pub tables_none : (rows columns : ℕ) (all : List (List (List (Option T)))) → AllByRecursion (IsBlankTable rows columns) all → IsBlank all
  tables_none rows columns [] h a b c =
      ap (λ (t : List (List (Option T))). cell t b c) (get_or_past [] a [] (omega arith)) ∙ row_none columns [] b c tt
  tables_none rows columns (table ∷ all) h zero b c = row_none columns table b c h.0.none
  tables_none rows columns (table ∷ all) h (suc a) b c = tables_none rows columns all h.1 a b c

  place_there : (rows columns : ℕ) (all : List (List (List (Option T)))) (a b c : ℕ) → AllByRecursion (IsBlankTable rows columns) all → a < length all → b < rows → c < columns → HasPlace (get_or all a []) b c
  place_there rows columns [] a b c h less row column = absurd (omega (arith, less))
  place_there rows columns (table ∷ all) zero b c h less row column = record {
    row = omega (arith, row, h.0.long);
    column = let there : b < length table = omega (arith, row, h.0.long) in omega (arith, column, row_long columns table b h.0.none there);
  }
  place_there rows columns (table ∷ all) (suc a) b c h less row column = place_there rows columns all a b c h.1 (omega (arith, less)) row column

  pub tables_shaped : (tables rows columns : ℕ) (all : List (List (List (Option T)))) → AllByRecursion (IsBlankTable rows columns) all → length all ≡ tables → IsShaped tables rows columns all
  tables_shaped tables rows columns all h same a b c less row column =
      let there : a < length all = omega (arith, less, same) in
      record { table = there; place = place_there rows columns all a b c h there row column }

  -- ---- another table at one place

  pub still_shaped : (m n o : ℕ) (all : List (List (List (Option T)))) (a : ℕ) (table : List (List (Option T))) → a < length all → ((b c : ℕ) → HasPlace (get_or all a []) b c → HasPlace table b c)
      → IsShaped m n o all → IsShaped m n o (set all a table)
  still_shaped m n o all a table less keeps h i j k table_less row column =
      let p = h i j k table_less row column in
      let long : length (set all a table) ≡ length all = length-set all a table in
      record {
        table = omega (arith, p.table, long);
        place = elim (cases_eq i a) as (λ _. HasPlace (get_or (set all a table) i []) j k) [
          | inl e ↦
              subst (λ (t : List (List (Option T))). HasPlace t j k) (sym (ap (λ (x : ℕ). get_or (set all a table) x []) e ∙ get_or-set_same all a table [] less))
              (keeps j k (subst (λ (x : ℕ). HasPlace (get_or all x []) j k) e p.place))
          | inr other ↦ subst (λ (t : List (List (Option T))). HasPlace t j k) (sym (get_or-set_other all a i table [] other)) p.place
        ];
      }

  -- a table has each place that isn't empty
  pub there_by : (rows : List (List (Option T))) (a b : ℕ) (x : T) → cell rows a b ≡ Some x → HasPlace rows a b
  there_by rows a b x e = elim (cases_lt a (length rows)) as (λ _. HasPlace rows a b) [
    | inr past ↦
        let none : cell rows a b ≡ None = ap (λ (r : List (Option T)). get_or r b None) (get_or_past rows a [] past) ∙ get_or_past [] b None (omega arith) in
        absurd (let bad : None ≡ Some x = sym none ∙ e in cc)
    | inl row ↦ elim (cases_lt b (length (get_or rows a []))) as (λ _. HasPlace rows a b) [
      | inl column ↦ record { row = row; column = column }
      | inr past ↦ absurd (let bad : None ≡ Some x = sym (get_or_past (get_or rows a []) b None past) ∙ e in cc)
    ]
  ]
