use Rattle.std.proofs.Common.{rules, ◌≡◌, ◌++◌, codes, decimal}
use Rattle.pact_gen.proofs.TextsOfNumbers.{text_is_utf8}
use Rattle.pact_gen.proofs.generating.text_bytes.Goals as goal

pub returns-clause-utf8 : goal.returns-clause-utf8
returns-clause-utf8 c =
    let e : c.extend_from_slice.new.self.items ≡ codes "t" ++ decimal c.args.number = search rules in
    text_is_utf8 c.extend_from_slice.new.self.items c.args.number c.requires e
