-- Bodies whose statements name only what their kind and place have, except that any key position is allowed.
use Rattle.std.specs.Prelude.{◌≡◌, ◌≤◌, ◌<◌, ◌+◌, ℕ, true}
use Rattle.tac_syntax.specs.declared.functions.Kind.{Kind}
use Rattle.tac_syntax.specs.declared.statements.Rec.{Rec}
use Rattle.tac_syntax.specs.declared.statements.Rec.TheVariants.{Reg, Loop, Input, Left, Right, Join, First}
use Rattle.tac_syntax.specs.declared.statements.LoopList.{LoopList}
use Rattle.tac_syntax.specs.declared.statements.LoopList.TheVariants.{Group, Left as LeftGroup, Right as RightGroup}
use Rattle.tac_syntax.specs.Limits.{value_registers, record_registers, loop_limit}
use Rattle.tac_syntax.specs.Rules.{is_map, is_pairing, is_reduce, is_cogroup}
use Rattle.tac_syntax.specs.Code.{Simple, Code, stop, plain, branch, again, each}
use Rattle.tac_syntax.specs.NamedThings.{NamesOnly}

-- a loop's name that is bound inside `depth` loops over lists
abbrev pub InScope : ℕ → ℕ → Type 0
InScope depth name = (1 ≤ name) × (name ≤ depth)

-- a record other than a register's or a loop's
abbrev pub IsGiven : Kind → Rec → Type 0
IsGiven kind Input = is_map kind ≡ true
IsGiven kind Left = is_pairing kind ≡ true
IsGiven kind Right = is_pairing kind ≡ true
IsGiven kind Join = is_pairing kind ≡ true
IsGiven kind First = is_reduce kind ≡ true
IsGiven kind from = ⊥

abbrev pub CanRead : Kind → ℕ → Rec → Type 0
CanRead kind depth (Reg k) = k < record_registers
CanRead kind depth (Loop name) = InScope depth name
CanRead kind depth from = IsGiven kind from

abbrev pub HasList : Kind → LoopList → Type 0
HasList kind Group = is_reduce kind ≡ true
HasList kind LeftGroup = is_cogroup kind ≡ true
HasList kind RightGroup = is_cogroup kind ≡ true

abbrev pub IsWellFormedSimple : Kind → ℕ → ℕ → Simple → Type 0
IsWellFormedSimple kind fields depth statement = NamesOnly fields (CanRead kind depth) (λ at. Unit {0}) statement

-- a body inside `depth` loops over lists
abbrev pub IsWellFormed : Kind → ℕ → ℕ → Code → Type 0
IsWellFormed kind fields depth stop = Unit {0}
IsWellFormed kind fields depth (plain a next) = IsWellFormedSimple kind fields depth a × IsWellFormed kind fields depth next
IsWellFormed kind fields depth (branch on body other next) = IsWellFormed kind fields depth body × IsWellFormed kind fields depth other × IsWellFormed kind fields depth next × (on < value_registers)
IsWellFormed kind fields depth (again count body next) = (0 < count) × IsWellFormed kind fields depth body × IsWellFormed kind fields depth next
IsWellFormed kind fields depth (each name list body next) =
    (name ≡ depth + 1) × HasList kind list × IsWellFormed kind fields (depth + 1) body × IsWellFormed kind fields depth next × (depth < loop_limit)
