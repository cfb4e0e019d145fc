-- The stored state of a loop, if it equals another state in the code.
use Rattle.std.proofs.Common.{◌≡◌, ◌<◌, ◌≤◌, ◌+◌, ℕ, zero, suc, Bool, true, false, Option, Some, List, [], ◌∷◌, length, get_or, refl, sym, ap, ◌∙◌, arith}
use Rattle.std.proofs.lemmas.Bool.{true≢false}
use Rattle.tac_flow.specs.declared.facts.Facts.{Facts}
use Rattle.tac_flow.specs.Views.{state_of}
use Rattle.tac_flow.specs.Memos.{place, memo_at, kept_of, memos_of}

any_default : (ms : List (Option Facts)) (n : ℕ) (d e : Option Facts) → n < length ms → get_or ms n d ≡ get_or ms n e
any_default [] n d e lt = absurd (omega (arith, lt))
any_default (x ∷ xs) zero d e lt = refl
any_default (x ∷ xs) (suc n) d e lt = any_default xs n d e (omega (arith, lt))

pub same_kept : (large : Bool) (ms : List (Option Facts)) (n : ℕ) (d : Option Facts) (memo f : Facts) → large ≡ true → n + place large ≤ length ms → get_or ms n d ≡ Some memo → f ≡ memo → memo_at large (memos_of ms) n ≡ Some (state_of f)
same_kept true ms n d memo f large le is e = ap kept_of (any_default ms n _ d (omega (arith, le)) ∙ is) ∙ ap (λ (g : Facts). Some (state_of g)) (sym e)
same_kept false ms n d memo f large le is e = absurd (true≢false (sym large))
