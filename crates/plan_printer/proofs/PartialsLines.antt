-- One more line of partial groups.
use Rattle.std.proofs.Common.{◌≡◌, ◌<◌, ◌+◌, ◌++◌, ℕ, List, drop, get_or, length, slice_get, sym, ap, ◌∙◌, append_assoc}
use Rattle.std.proofs.lemmas.List.{drop_more}
use Rattle.pact_operators.specs.Programs.{ProgramData}
use Rattle.plan_printer.specs.CountsText.{partials_line, partials_text}

pub next_partials : (p : ProgramData) (counts : List ℕ) (pairs : List (ℕ × ℕ)) (i : ℕ) (d : ℕ × ℕ) (text next front : List ℕ) → i < length pairs
    → next ≡ text ++ partials_line counts (get_or pairs i d).0 (slice_get p.ops (get_or pairs i d).1) → text ++ partials_text p counts (drop i pairs) ≡ front
    → next ++ partials_text p counts (drop (i + 1) pairs) ≡ front
next_partials p counts pairs i d text next front within put so_far =
    let pair = get_or pairs i d in
    let rest = partials_text p counts (drop (i + 1) pairs) in
    let line = partials_line counts pair.0 (slice_get p.ops pair.1) in
    let more : partials_text p counts (drop i pairs) ≡ line ++ rest = ap (partials_text p counts) (drop_more pairs i d within) in
    ap (λ (x : List ℕ). x ++ rest) put
    ∙ append_assoc text line rest
    ∙ ap (λ (x : List ℕ). text ++ x) (sym more)
    ∙ so_far
