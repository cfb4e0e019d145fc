-- Bodies that take a field's number from a register only if that is allowed.
use Rattle.std.specs.Prelude.{◌≡◌, ◌==◌, ℕ, Bool, true}
use Rattle.tac_syntax.specs.Code.{Simple, get_at, set_at, Code, stop, plain, branch, again, each}

abbrev pub TakesSimple : Bool → Simple → Type 0
TakesSimple registers (get_at to from at) = registers ≡ true
TakesSimple registers (set_at to at value) = registers ≡ true
TakesSimple registers s = Unit {0}

abbrev pub Takes : Bool → Code → Type 0
Takes registers stop = Unit {0}
Takes registers (plain s next) = TakesSimple registers s × Takes registers next
Takes registers (branch on body other next) = Takes registers body × Takes registers other × Takes registers next
Takes registers (again count body next) = Takes registers body × Takes registers next
Takes registers (each name list body next) = Takes registers body × Takes registers next

-- Version 2 allows it.
abbrev pub has_registers : ℕ → Bool
has_registers version = version == 2
