-- The rows of a source, by its number.
use Rattle.std.proofs.Common.{◌≡◌, ◌<◌, ◌+◌, ℕ, zero, suc, Bool, true, false, cond, List, [], ◌∷◌, ◌++◌, get_or, length, take, refl, ap, sym, ◌∙◌, arith}
use Rattle.std.specs.List.{AllByRecursion}
use Rattle.std.proofs.lemmas.List.{take_more}
use Rattle.std.proofs.lemmas.List.Elements.{filter-append}
use Rattle.pact_bag.specs.SourceRows.{AreSourceRows, IsSourceRow}
use Rattle.pact_record.specs.declared.columns.Column.{Column}
use Rattle.tac_syntax.specs.declared.declarations.OpKind.TheVariants.{Source}
use Rattle.pact_operators.specs.declared.operators.Op.{Op}
use Rattle.pact_operators.specs.Inputs.{HaveRows}
use Rattle.pact_operators.specs.PlanOps.{is_source_kind, kind_at, source_place, sources_of}
use Rattle.pact_record.specs.declared.values.Value.{Value}
use Rattle.pact_record.specs.Widths.{AreWide}
use Rattle.pact_record.proofs.Lists.{AllByRecursion-weaker}

-- ---- the place of a source

fewer : (b : Bool) (op : Op) (xs ys : List Op) → length xs < length ys → length (cond b (op ∷ xs) xs) < length (cond b (op ∷ ys) ys)
fewer true op xs ys h = omega arith
fewer false op xs ys h = h

first_kept : (b : Bool) (op : Op) (ys : List Op) → b ≡ true → 0 < length (cond b (op ∷ ys) ys)
first_kept true op ys h = omega arith
first_kept false op ys h = cc

place_among_sources : (ops : List Op) (n : ℕ) → n < length ops → kind_at ops n ≡ Source → source_place ops n < length (sources_of ops)
place_among_sources [] n h k = absurd (omega arith)
place_among_sources (op ∷ ops) zero h k = first_kept (is_source_kind op.kind) op (sources_of ops) (ap is_source_kind k)
place_among_sources (op ∷ ops) (suc n) h k = fewer (is_source_kind op.kind) op (sources_of (take n ops)) (sources_of ops) (place_among_sources ops n (omega arith) k)

-- the sources, if one more operator is taken into account
pub sources_of-next : (ops : List Op) (n : ℕ) (op : Op) → n < length ops → op ≡ get_or ops n op → sources_of (take (n + 1) ops) ≡ sources_of (take n ops) ++ cond (is_source_kind op.kind) (op ∷ []) []
sources_of-next ops n op less is =
    ap sources_of (take_more ops n op less ∙ ap (λ (o : Op). take n ops ++ o ∷ []) (sym is)) ∙ filter-append (λ (o : Op). is_source_kind o.kind) (take n ops) (op ∷ [])

length-inputs : (fields : ℕ) (sources : List Op) (inputs : List (List (List Value))) → HaveRows fields sources inputs → length inputs ≡ length sources
length-inputs fields [] [] h = refl
length-inputs fields [] (rows ∷ inputs) h = absurd h
length-inputs fields (source ∷ sources) [] h = absurd h
length-inputs fields (source ∷ sources) (rows ∷ inputs) h = ap suc (length-inputs fields sources inputs h.1)

pub place_below : (fields : ℕ) (ops : List Op) (inputs : List (List (List Value))) (n : ℕ) → HaveRows fields (sources_of ops) inputs → n < length ops → kind_at ops n ≡ Source → source_place ops n < length inputs
place_below fields ops inputs n h below k =
    let place = place_among_sources ops n below k in
    omega (arith, place, length-inputs fields (sources_of ops) inputs h)

-- ---- its rows

row_widths : (fields : ℕ) (columns : List Column) (rows : List (List Value)) → AreSourceRows fields columns rows → AreWide fields rows
row_widths fields columns rows h = AllByRecursion-weaker (IsSourceRow fields columns) (λ row. length row ≡ fields) rows (λ row s. s.width) h

pub input_widths : (fields : ℕ) (sources : List Op) (inputs : List (List (List Value))) → HaveRows fields sources inputs → AllByRecursion (AreWide fields) inputs
input_widths fields [] [] h = tt
input_widths fields [] (rows ∷ inputs) h = absurd h
input_widths fields (source ∷ sources) [] h = absurd h
input_widths fields (source ∷ sources) (rows ∷ inputs) h = (row_widths fields source.columns rows h.0, input_widths fields sources inputs h.1)
