-- The rules that need only the declarations, as tests.
use Rattle.std.specs.Prelude.{◌≡◌, ◌&&◌, ◌||◌, nat_le, ℕ, zero, suc, Bool, false, List, ◌∷◌, map}
use Rattle.program_check.specs.declared.counts.Counts.{Counts}
use Rattle.tac_syntax.specs.declared.declarations.Decl.{Decl}
use Rattle.program_check.specs.declared.program_rules.ProgramRule.{ProgramRule}
use Rattle.program_check.specs.declared.program_rules.ProgramRule.TheVariants.{Undeclared, DeclaredTwice, TooMany, NotATree, OtherKind, OtherKeyCount, WrongField}
use Rattle.tac_syntax.specs.Drafts.{DraftData}
use Rattle.program_check.specs.ProgramRules.{has_other_key_count, has_other_kind, has_wrong_field, is_declared_twice, is_function, is_not_in_tree, is_operator, is_pair, is_reached, is_reader, is_undeclared, times_so, name_at}
use Rattle.pact_operators.specs.Programs.{function_limit, operator_limit, pair_limit}

-- how many declarations of each sort are among these
abbrev pub counts_of : List Decl → Counts
counts_of decls = record { functions = times_so is_function decls; operators = times_so is_operator decls; pairs = times_so is_pair decls }

-- The declaration would exceed a limit.
abbrev pub is_past_limit : Counts → Decl → Bool
is_past_limit counts decl =
    (is_function decl && nat_le function_limit counts.functions)
    || (is_operator decl && nat_le operator_limit counts.operators)
    || (is_pair decl && nat_le pair_limit counts.pairs)

-- Whether a declaration breaks the rule, after declarations of these counts. False for the rules about attributes, and
-- for the rule of one sink.
abbrev pub breaks : ProgramRule → DraftData → Counts → Decl → Bool
breaks Undeclared d counts decl = is_undeclared d decl
breaks DeclaredTwice d counts decl = is_declared_twice d decl
breaks TooMany d counts decl = is_past_limit counts decl
breaks NotATree d counts decl = is_not_in_tree d decl
breaks OtherKind d counts decl = has_other_kind d decl
breaks OtherKeyCount d counts decl = has_other_key_count d decl
breaks WrongField d counts decl = has_wrong_field d decl
breaks rule d counts decl = false

-- ---- what is reached

-- reached over fewer than n operators
abbrev pub is_reached_within : ℕ → DraftData → List ℕ → Bool
is_reached_within zero d name = false
is_reached_within (suc n) d name = is_reached n d name

-- for an operator, whether it is reached over fewer than n operators; false for other declarations
abbrev pub reached_within : ℕ → DraftData → Decl → Bool
reached_within n d decl = is_operator decl && is_reached_within n d (name_at d.functions decl)

-- the marks of all declarations say which operators are reached
abbrev pub AreReached : DraftData → List Bool → Type 0
AreReached d marks = marks ≡ map (reached_within (times_so is_operator d.decls) d) d.decls

-- One of the marked operators reads the source or operator with this name.
abbrev pub is_reached_reader : List ℕ → List Decl → List Bool → Bool
is_reached_reader name (decl ∷ decls) (mark ∷ marks) = (is_reader name decl && mark) || is_reached_reader name decls marks
is_reached_reader name decls marks = false
