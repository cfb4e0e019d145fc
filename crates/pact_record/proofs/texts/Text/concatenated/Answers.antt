-- Two texts in a row are UTF-8, and the test has shown that they aren't too long.
use Rattle.std.proofs.Common.{◌≡◌, ◌∙◌, ◌≤◌, ◌++◌, IsUtf8, ap, subst, sym, arith, length}
use Rattle.std.proofs.lemmas.List.{length-append}
use Rattle.std.proofs.lemmas.Str.{IsUtf8-append}
use Rattle.pact_record.specs.TextStorage.{stored_bytes}
use Rattle.pact_record.specs.Limits.{text_limit}
use Rattle.pact_record.proofs.texts.Text.concatenated.Goals as goal

pub invariant_of-result : goal.invariant_of-result
invariant_of-result c =
    let s = c.args.self.now in
    let t = c.args.other.now in
    let joined : stored_bytes c.in_ok-storage.storage ≡ s ++ t = c.in_ok-storage.ensures ∙ (λ i. c.bytes-3.ensures.text i ++ c.bytes-4.ensures.text i) in
    let short : length (stored_bytes c.in_ok-storage.storage) ≤ text_limit = omega (arith, ap length joined, length-append s t, ap length c.bytes.ensures.text, ap length c.bytes-2.ensures.text, c.if-bytes-gt-MAX_TEXT.false) in
    (short, subst IsUtf8 (sym joined) (IsUtf8-append s t c.bytes.ensures.utf8 c.bytes-2.ensures.utf8))
