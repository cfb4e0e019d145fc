-- The statements of a function in text order, and the place of each.
use Rattle.std.specs.Prelude.{ℕ, ◌+◌, ◌*◌, List, [], ◌∷◌, ◌++◌}
use Rattle.tac_syntax.specs.declared.functions.Kind.{Kind}
use Rattle.tac_syntax.specs.declared.functions.Function.{Function}
use Rattle.tac_syntax.specs.Code.{Code, stop, plain, branch, again, each, Line, simple, test, turns, over}

-- Where a statement is. `kind`, `keys` and `fields` are those of its function. `ifs`, `loops` and `lists` count the
-- `if`, the loops of either kind and the `each` around it. `repeats` is the product of the counts of the `repeat`
-- around it.
pub record Place : Type 0 where
  pub kind : Kind
  pub keys : ℕ
  pub fields : ℕ
  pub ifs : ℕ
  pub loops : ℕ
  pub lists : ℕ
  pub repeats : ℕ

-- the place of a function's own statements
abbrev pub top_place : Function → ℕ → Place
top_place f fields = record { kind = f.kind; keys = f.keys; fields = fields; ifs = 0; loops = 0; lists = 0; repeats = 1 }

abbrev pub in_if : Place → Place
in_if p = record p { ifs = p.ifs + 1 }

abbrev pub in_repeat : ℕ → Place → Place
in_repeat count p = record p { loops = p.loops + 1; repeats = p.repeats * count }

abbrev pub in_each : Place → Place
in_each p = record p { loops = p.loops + 1; lists = p.lists + 1 }

-- a statement with its place; a block is given by its first line
pub record Placed : Type 0 where
  pub place : Place
  pub line : Line

abbrev pub at_place : Place → Line → Placed
at_place p l = record { place = p; line = l }

abbrev pub placed : Place → Code → List Placed
placed p stop = []
placed p (plain s next) = at_place p (simple s) ∷ placed p next
placed p (branch on body other next) = at_place p (test on) ∷ (placed (in_if p) body ++ (placed (in_if p) other ++ placed p next))
placed p (again count body next) = at_place p (turns count) ∷ (placed (in_repeat count p) body ++ placed p next)
placed p (each name list body next) = at_place p (over name list) ∷ (placed (in_each p) body ++ placed p next)
