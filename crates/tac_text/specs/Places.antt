-- A body built from its lines, one after another: the place of each line, and what the lines before it have built.
use Rattle.std.specs.Prelude.{◌≡◌, nat_le, Bool, true, false, if◌then◌else◌, Option, Some, None, List, [], ◌∷◌, ◌≤◌, ◌<◌, ◌+◌, ℕ, ◌++◌, length}
use Rattle.tac_syntax.specs.Code.{Code, stop, plain, branch, again, each, Line, simple, test, turns, over, otherwise, close, joined, nesting}
use Rattle.tac_syntax.specs.Limits.{nesting_limit}
use Rattle.tac_text.specs.declared.building.Block.{Block}
use Rattle.tac_text.specs.declared.building.Block.TheVariants.{If, Else, Repeat, Each}
use Rattle.tac_syntax.specs.Grammar.{IsSpelled, IsSpelledLine}
use Rattle.tac_syntax.specs.FieldRegisters.{Takes}
use Rattle.tac_text.specs.FunctionLines.{SpellsBody}
use Rattle.tac_text.specs.StatementLines.{LinePlace, MayStand}

-- the open blocks, innermost first, and the innermost body as read so far
pub record Build : Type 0 where
  pub blocks : List Block
  pub body : Code

abbrev pub build_start : Build
build_start = record { blocks = []; body = stop }

-- one more statement, unless it is nested too deep
abbrev pub with_statement : List Block → Code → Code → Option Build
with_statement blocks body statement = if nat_le (nesting statement) nesting_limit then Some (record { blocks = blocks; body = joined body statement }) else None

abbrev pub opened : Build → Block → Option Build
opened b block = Some (record { blocks = block ∷ b.blocks; body = stop })

-- `else` after the first body of an `if`
abbrev pub parted : List Block → Code → Option Build
parted (If on before ∷ blocks) body = Some (record { blocks = Else on body before ∷ blocks; body = stop })
parted blocks body = None

-- The innermost block ends and becomes a statement of the body around it.
abbrev pub closed : List Block → Code → Option Build
closed [] body = None
closed (If on before ∷ blocks) body = with_statement blocks before (branch on body stop stop)
closed (Else on first before ∷ blocks) body = with_statement blocks before (branch on first body stop)
closed (Repeat count before ∷ blocks) body = with_statement blocks before (again count body stop)
closed (Each name list before ∷ blocks) body = with_statement blocks before (each name list body stop)

abbrev pub built : Build → Line → Option Build
built b (simple s) = with_statement b.blocks b.body (plain s stop)
built b (test on) = opened b (If on b.body)
built b (turns count) = opened b (Repeat count b.body)
built b (over name list) = opened b (Each name list b.body)
built b otherwise = parted b.blocks b.body
built b close = closed b.blocks b.body

-- The body is whole if every block was ended.
abbrev pub whole_body : List Block → Code → Option Code
whole_body [] body = Some body
whole_body (block ∷ blocks) body = None

abbrev pub finished : Build → Option Code
finished b = whole_body b.blocks b.body

-- the result of a step: the line is taken exactly if a next build is due, and then the build is that one
abbrev pub IsBuilt : Option Build → Bool → Build → Type 0
IsBuilt None taken now = taken ≡ false
IsBuilt (Some due) taken now = (taken ≡ true) × (now ≡ due)

-- ---- places

-- how many of the open blocks are `each`
abbrev pub lists_in : List Block → ℕ
lists_in [] = 0
lists_in (Each name list before ∷ blocks) = lists_in blocks + 1
lists_in (block ∷ blocks) = lists_in blocks

-- `else` may follow if the innermost block is the first body of an `if`.
abbrev pub may_part : List Block → Bool
may_part (If on before ∷ blocks) = true
may_part blocks = false

-- the place of the next line; `registers` says whether registers may name fields there
abbrev pub place_of : Bool → Build → LinePlace
place_of registers b = record { blocks = length b.blocks; lists = lists_in b.blocks; may_part = may_part b.blocks; registers = registers }

-- An `end` with no block open ends what the body belongs to, and isn't a line of the body.
abbrev pub IsInside : Line → List Block → Type 0
IsInside close [] = ⊥
IsInside l blocks = Unit {0}

-- a line that the body may go on with
abbrev pub MayInside : Bool → Build → Line → Type 0
MayInside registers b l = MayStand (place_of registers b) l × IsInside l b.blocks

abbrev pub built_or : Build → Option Build → Build
built_or b None = b
built_or b (Some next) = next

-- the build after a line; a line that can't follow leaves it as it is
abbrev pub built_on : Build → Line → Build
built_on b l = built_or b (built b l)

-- ---- what was read

-- the line that opened a block
abbrev pub opening : Block → Line
opening (If on before) = test on
opening (Else on first before) = test on
opening (Repeat count before) = turns count
opening (Each name list before) = over name list

-- the statements before a block in the body around it
abbrev pub before_block : Block → Code
before_block (If on before) = before
before_block (Else on first before) = before
before_block (Repeat count before) = before
before_block (Each name list before) = before

-- A body fits inside `blocks` blocks, `lists` of which are `each`: it can be spelled there, none of its blocks is too
-- deep, and registers name its fields only if they may.
abbrev pub FitsBody : Bool → (blocks lists : ℕ) → Code → Type 0
FitsBody registers blocks lists body = IsSpelled lists body × (blocks + nesting body ≤ nesting_limit) × Takes registers body

-- the first body of an `if` whose second is open
abbrev pub FitsFirst : Bool → List Block → Block → Type 0
FitsFirst registers around (Else on first before) = FitsBody registers (length around + 1) (lists_in around) first
FitsFirst registers around block = Unit {0}

-- Each open block is allowed at its place, and what was read before it and in it fits there.
abbrev pub FitsBlocks : Bool → List Block → Type 0
FitsBlocks registers [] = Unit {0}
FitsBlocks registers (block ∷ around) =
    FitsBlocks registers around × (length around < nesting_limit) × IsSpelledLine (lists_in around) (opening block) × FitsBody registers (length around) (lists_in around) (before_block block) × FitsFirst registers around block

-- What was built fits, so it can always be ended.
abbrev pub FitsBuild : Bool → Build → Type 0
FitsBuild registers b = FitsBlocks registers b.blocks × FitsBody registers (length b.blocks) (lists_in b.blocks) b.body

-- The lines of a block that were read, without those of its open body: its first line and, for the second body of an
-- `if`, the lines of the first body and `else`.
abbrev pub BeginsBlock : Block → List Line → Type 0
BeginsBlock (If on before) lines = lines ≡ test on ∷ []
BeginsBlock (Else on first before) lines = (inside : List Line) × SpellsBody first inside × (lines ≡ test on ∷ (inside ++ otherwise ∷ []))
BeginsBlock (Repeat count before) lines = lines ≡ turns count ∷ []
BeginsBlock (Each name list before) lines = lines ≡ over name list ∷ []

-- the lines up to the innermost body: for each open block those before it, and those that begin it
abbrev pub FrontOfBlocks : List Block → List Line → Type 0
FrontOfBlocks [] lines = lines ≡ []
FrontOfBlocks (block ∷ around) lines =
    (outer before begun : List Line) × FrontOfBlocks around outer × SpellsBody (before_block block) before × BeginsBlock block begun × (lines ≡ outer ++ (before ++ begun))

-- the lines that were read, by what they have built
abbrev pub Front : Build → List Line → Type 0
Front b lines = (outer inside : List Line) × FrontOfBlocks b.blocks outer × SpellsBody b.body inside × (lines ≡ outer ++ inside)
