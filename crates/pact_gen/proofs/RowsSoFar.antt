-- The rows made so far, and the number from which the next one goes on.
use Rattle.std.proofs.Common.{◌≡◌, ◌+◌, ◌++◌, ℕ, zero, suc, List, [], ◌∷◌, length, refl, sym, ap, subst, ◌∙◌, arith}
use Rattle.std.specs.List.{AllByRecursion}
use Rattle.pact_record.specs.declared.values.Value.{Value}
use Rattle.pact_gen.specs.Generated.{behind_row, generated, row_behind}

-- the number after `n` rows
abbrev pub behind_rows : ℕ → ℕ → ℕ
behind_rows x zero = x
behind_rows x (suc n) = behind_rows (behind_row x) n

behind_rows-last : (x n : ℕ) → behind_rows x (suc n) ≡ behind_row (behind_rows x n)
behind_rows-last x zero = refl
behind_rows-last x (suc n) = behind_rows-last (behind_row x) n

generated-last : (x n : ℕ) → generated x (suc n) ≡ generated x n ++ row_behind (behind_rows x n) ∷ []
generated-last x zero = refl
generated-last x (suc n) = ap (λ (rows : List (List Value)). row_behind x ∷ rows) (generated-last (behind_row x) n)

-- ---- one more row

pub behind-next : (seed n x next : ℕ) → x ≡ behind_rows seed n → next ≡ behind_row x → next ≡ behind_rows seed (n + 1)
behind-next seed n x next e f =
    subst (λ (m : ℕ). next ≡ behind_rows seed m) {x = suc n} {y = n + 1} (omega arith) (f ∙ ap behind_row e ∙ sym (behind_rows-last seed n))

pub made-next : (seed n x : ℕ) (made now : List (List Value)) (row : List Value) → made ≡ generated seed n → x ≡ behind_rows seed n → row ≡ row_behind x → now ≡ made ++ row ∷ [] → now ≡ generated seed (n + 1)
made-next seed n x made now row e f g h =
    let whole : made ++ row ∷ [] ≡ generated seed n ++ row_behind (behind_rows seed n) ∷ [] = λ i. e i ++ (g ∙ ap row_behind f) i ∷ [] in
    subst (λ (m : ℕ). now ≡ generated seed m) {x = suc n} {y = n + 1} (omega arith) (h ∙ whole ∙ sym (generated-last seed n))

-- ---- widths

generated-widths : (x n : ℕ) → AllByRecursion (λ row. length row ≡ 4) (generated x n)
generated-widths x zero = tt
generated-widths x (suc n) = (refl, generated-widths (behind_row x) n)

pub as_wide : (seed n x : ℕ) (made : List (List Value)) (row : List Value) → made ≡ generated seed n → row ≡ row_behind x → AllByRecursion (λ held. length held ≡ length row) made
as_wide seed n x made row e f =
    let four : 4 ≡ length row = sym (ap length f) in
    subst (λ (m : ℕ). AllByRecursion (λ (held : List Value). length held ≡ m) made) four
    (subst (λ (rows : List (List Value)). AllByRecursion (λ (held : List Value). length held ≡ 4) rows) (sym e) (generated-widths seed n))
