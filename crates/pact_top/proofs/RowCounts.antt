-- How many rows each source has, from one source or operator to the next.
use Rattle.std.proofs.Common.{◌≡◌, ◌<◌, ◌+◌, ℕ, Bool, true, false, cond, List, [], ◌∷◌, ◌++◌, drop, get_or, length, refl, ap, sym, subst, ◌∙◌, arith, append_assoc}
use Rattle.std.proofs.lemmas.List.{drop_more, length-drop}
use Rattle.pact_operators.specs.declared.operators.Op.{Op}
use Rattle.pact_operators.specs.Allowed.{Bag}
use Rattle.pact_operators.specs.Inputs.{HaveRows}
use Rattle.pact_operators.specs.PlanOps.{is_source_kind, sources_of}
use Rattle.pact_top.specs.CommandTexts.{row_counts}

-- the counts so far, and those to come: the counts of the remaining sources and operators, over the rows of the
-- remaining sources
pub record AreCounted (fields : ℕ) (ops : List Op) (inputs : List Bag) (n k : ℕ) (counts : List ℕ) : Type 0 where
  pub rows : HaveRows fields (sources_of (drop n ops)) (drop k inputs)
  pub all : row_counts ops inputs ≡ counts ++ row_counts (drop n ops) (drop k inputs)

-- a source has rows
some_rows : (fields : ℕ) (op : Op) (sources : List Op) (inputs : List Bag) → HaveRows fields (op ∷ sources) inputs → (0 < length inputs) × HaveRows fields sources (drop 1 inputs)
some_rows fields op sources [] h = absurd h
some_rows fields op sources (rows ∷ inputs) h = (omega arith, h.1)

module _ (fields : ℕ) (ops : List Op) (inputs : List Bag) (n k : ℕ) (counts : List ℕ) (op : Op) (less : n < length ops) (there : op ≡ get_or ops n op) (h : AreCounted fields ops inputs n k counts) where
  left : drop n ops ≡ op ∷ drop (n + 1) ops
  left = drop_more ops n op less ∙ ap (λ (x : Op). x ∷ drop (n + 1) ops) (sym there)

  by_kind : (b : Bool) → is_source_kind op.kind ≡ b → HaveRows fields (cond b (op ∷ sources_of (drop (n + 1) ops)) (sources_of (drop (n + 1) ops))) (drop k inputs)
  by_kind b e = subst (λ (t : Bool). HaveRows fields (cond t (op ∷ sources_of (drop (n + 1) ops)) (sources_of (drop (n + 1) ops))) (drop k inputs)) e
      (subst (λ (l : List Op). HaveRows fields (sources_of l) (drop k inputs)) left h.rows)

  counts_by : (b : Bool) → is_source_kind op.kind ≡ b → row_counts ops inputs
      ≡ counts ++ cond b (length (get_or (drop k inputs) 0 []) ∷ row_counts (drop (n + 1) ops) (drop 1 (drop k inputs))) (0 ∷ row_counts (drop (n + 1) ops) (drop k inputs))
  counts_by b e =
      h.all ∙ ap (λ (l : List Op). counts ++ row_counts l (drop k inputs)) left
      ∙ ap (λ (t : Bool). counts ++ cond t (length (get_or (drop k inputs) 0 []) ∷ row_counts (drop (n + 1) ops) (drop 1 (drop k inputs))) (0 ∷ row_counts (drop (n + 1) ops) (drop k inputs))) e

  pub source_within : is_source_kind op.kind ≡ true → k < length inputs
  source_within e =
      let some = (some_rows fields op (sources_of (drop (n + 1) ops)) (drop k inputs) (by_kind true e)).0 in
      let size = length-drop k inputs in
      omega (arith, some, size)

  counted : (b : Bool) → is_source_kind op.kind ≡ b → AreCounted fields ops inputs (n + 1) (cond b (k + 1) k) (counts ++ cond b (length (get_or inputs k [])) 0 ∷ [])
  counted true e =
      let these : drop k inputs ≡ get_or inputs k [] ∷ drop (k + 1) inputs = drop_more inputs k [] (source_within e) in
      record {
        rows = subst (HaveRows fields (sources_of (drop (n + 1) ops))) (ap (drop 1) these) (some_rows fields op (sources_of (drop (n + 1) ops)) (drop k inputs) (by_kind true e)).1;
        all =
            counts_by true e ∙ ap (λ (l : List Bag). counts ++ length (get_or l 0 []) ∷ row_counts (drop (n + 1) ops) (drop 1 l)) these
            ∙ sym (append_assoc counts (length (get_or inputs k []) ∷ []) (row_counts (drop (n + 1) ops) (drop (k + 1) inputs)));
      }
  counted false e = record {
    rows = by_kind false e;
    all = counts_by false e ∙ sym (append_assoc counts (0 ∷ []) (row_counts (drop (n + 1) ops) (drop k inputs)));
  }

  pub one_counted : (rows next : ℕ) → rows ≡ cond (is_source_kind op.kind) (length (get_or inputs k [])) 0 → next ≡ cond (is_source_kind op.kind) (k + 1) k
      → AreCounted fields ops inputs (n + 1) next (counts ++ rows ∷ [])
  one_counted rows next e g =
      subst (λ (r : ℕ). AreCounted fields ops inputs (n + 1) next (counts ++ r ∷ [])) (sym e)
      (subst (λ (m : ℕ). AreCounted fields ops inputs (n + 1) m (counts ++ cond (is_source_kind op.kind) (length (get_or inputs k [])) 0 ∷ [])) (sym g) (counted (is_source_kind op.kind) refl))
