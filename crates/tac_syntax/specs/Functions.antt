-- Functions that a text can spell.
use Rattle.std.specs.Prelude.{◌≡◌, ◌≤◌, ℕ, IsTrue}
pub use Rattle.pact_record.specs.Keys.{key_limit}
use Rattle.tac_syntax.specs.declared.functions.Kind.{Kind}
use Rattle.tac_syntax.specs.declared.functions.Kind.TheVariants.{Map, Match, Cross, Reduce, CoGroup}
use Rattle.tac_syntax.specs.declared.functions.Function.{Function}
use Rattle.tac_syntax.specs.Grammar.{IsSpelled}
use Rattle.tac_syntax.specs.Names.{is_name}

-- a Reduce and a CoGroup have 1 to 8 keys, the other kinds none
abbrev pub HasKeys : Kind → ℕ → Type 0
HasKeys Map keys = keys ≡ 0
HasKeys Match keys = keys ≡ 0
HasKeys Cross keys = keys ≡ 0
HasKeys Reduce keys = (1 ≤ keys) × (keys ≤ key_limit)
HasKeys CoGroup keys = (1 ≤ keys) × (keys ≤ key_limit)

pub record IsSpelledFunction (f : Function) : Type 0 where
  pub name : IsTrue (is_name f.name)
  pub keys : HasKeys f.kind f.keys
  pub body : IsSpelled 0 f.body
