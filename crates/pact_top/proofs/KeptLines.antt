-- One more line of fields that were kept.
use Rattle.std.proofs.Common.{◌≡◌, ◌<◌, ◌+◌, ◌++◌, ℕ, List, drop, get_or, length, sym, ap, ◌∙◌, append_assoc}
use Rattle.std.proofs.lemmas.List.{drop_more}
use Rattle.pact_operators.specs.Programs.{ProgramData}
use Rattle.plan_printer.specs.CountsText.{keeps_line_at}
use Rattle.prune_fields.specs.declared.pruning.Kept.{Kept}
use Rattle.pact_top.specs.CommandTexts.{keeps_text}

pub next_kept : (p : ProgramData) (kept : List Kept) (i : ℕ) (one : Kept) (text next front : List ℕ) → i < length kept → one ≡ get_or kept i one
    → next ≡ text ++ keeps_line_at p one.at one.fields → text ++ keeps_text p (drop i kept) ≡ front → next ++ keeps_text p (drop (i + 1) kept) ≡ front
next_kept p kept i one text next front within there put so_far =
    let rest = keeps_text p (drop (i + 1) kept) in
    let line = keeps_line_at p one.at one.fields in
    let more : keeps_text p (drop i kept) ≡ line ++ rest =
    ap (keeps_text p) (drop_more kept i one within) ∙ ap (λ (k : Kept). keeps_line_at p k.at k.fields ++ rest) (sym there) in
    ap (λ (x : List ℕ). x ++ rest) put ∙ append_assoc text line rest ∙ ap (λ (x : List ℕ). text ++ x) (sym more) ∙ so_far
