-- What is known of the operators of a plan.
use Rattle.std.specs.Prelude.{ℕ, Bool, List}
use Rattle.tac_syntax.specs.Contexts.{FieldSet}
use Rattle.tac_syntax.specs.declared.declarations.OpKind.{OpKind}

-- The kind and keys, the attributes of the inputs, what the function writes in this place, and the sides on which a CoGroup is anchored.
pub record NodeFacts : Type 0 where
  pub kind : OpKind
  pub left_keys : List ℕ
  pub right_keys : List ℕ
  pub left : FieldSet
  pub right : FieldSet
  pub writes : FieldSet
  pub anchor_left : Bool
  pub anchor_right : Bool

-- the facts of each operator, by its number
abbrev pub Facts : Type 0
Facts = ℕ → NodeFacts
