-- Which lines of statements are allowed at a place.
use Rattle.std.specs.Prelude.{◌≡◌, ◌<◌, ℕ, Bool, true}
use Rattle.tac_syntax.specs.Code.{Simple, get_at, set_at, Line, simple, test, turns, over, otherwise, close}
use Rattle.tac_syntax.specs.Limits.{nesting_limit}
use Rattle.tac_syntax.specs.Grammar.{IsSpelledSimple, IsSpelledLine}

-- How many blocks are open, how many of them are `each`, whether the innermost is the first body of an `if`, and
-- whether registers may name fields.
pub record LinePlace : Type 0 where
  pub blocks : ℕ
  pub lists : ℕ
  pub may_part : Bool
  pub registers : Bool

abbrev pub MayStandSimple : Bool → Simple → Type 0
MayStandSimple registers (get_at to from at) = IsSpelledSimple (get_at to from at) × (registers ≡ true)
MayStandSimple registers (set_at to at value) = IsSpelledSimple (set_at to at value) × (registers ≡ true)
MayStandSimple registers s = IsSpelledSimple s

-- A block is inside fewer than 64 others, and `else` ends the first body of an `if`.
abbrev pub MayStand : LinePlace → Line → Type 0
MayStand p (simple s) = MayStandSimple p.registers s
MayStand p (test on) = (p.blocks < nesting_limit) × IsSpelledLine p.lists (test on)
MayStand p (turns count) = (p.blocks < nesting_limit) × IsSpelledLine p.lists (turns count)
MayStand p (over name list) = (p.blocks < nesting_limit) × IsSpelledLine p.lists (over name list)
MayStand p otherwise = p.may_part ≡ true
MayStand p close = Unit {0}
