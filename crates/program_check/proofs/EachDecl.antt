-- What is known of each declaration of a draft.
use Rattle.std.proofs.Common.{◌≡◌, ◌≤◌, ◌+◌, ◌++◌, ℕ, zero, suc, Some, None, List, [], ◌∷◌, length, slice_get, subst, sym, arith}
use Rattle.std.specs.List.{AllByRecursion}
use Rattle.pact_record.specs.Keys.{key_limit}
use Rattle.tac_syntax.specs.Valid.{WithFields}
use Rattle.tac_syntax.specs.declared.declarations.OpKind.{OpKind}
use Rattle.tac_syntax.specs.declared.declarations.OpKind.TheVariants.{Source as SourceKind, Map, Reduce, Match, Cross, CoGroup}
use Rattle.tac_syntax.specs.declared.declarations.Decl.{Decl}
use Rattle.tac_syntax.specs.declared.declarations.Decl.TheVariants.{Source, Function as FunctionDecl, Op as OpDecl, Sink}
use Rattle.program_check.specs.declared.program_rules.ProgramRule.{ProgramRule}
use Rattle.tac_syntax.specs.Declarations.{HasInputs, IsSpelledDecl}
use Rattle.tac_syntax.specs.Drafts.{AreDeclared, DraftData}
use Rattle.program_check.specs.ProgramRules.{Breaks, NoneBreaks}
use Rattle.program_check.specs.WrittenOps.{HasFewKeys}

-- A declaration doesn't break a rule that none breaks.
pub none-at : (rule : ProgramRule) (d : DraftData) (v : List WithFields) (front decls : List Decl) (m : ℕ) (decl : Decl) → NoneBreaks rule d v front decls → slice_get decls m ≡ Some decl
    → (before : List Decl) × (¬ Breaks rule d v before decl)
none-at rule d v front [] m decl h e = let bad : None ≡ Some decl = e in absurd cc
none-at rule d v front (x ∷ decls) zero decl h e = let same : x ≡ decl = cc in (front, subst (λ (y : Decl). ¬ Breaks rule d v front y) same h.0)
none-at rule d v front (x ∷ decls) (suc m) decl h e = none-at rule d v (front ++ x ∷ []) decls m decl h.1 e

-- A text can spell the declaration. A function is exempt, since it isn't declared by one line.
abbrev pub IsSpelledIn : ℕ → Decl → Type 0
IsSpelledIn v (Source name file columns) = IsSpelledDecl v (Source name file columns)
IsSpelledIn v (FunctionDecl number) = Unit {0}
IsSpelledIn v (OpDecl name kind function left right left_keys right_keys) = IsSpelledDecl v (OpDecl name kind function left right left_keys right_keys)
IsSpelledIn v (Sink input fields) = IsSpelledDecl v (Sink input fields)

pub spelled : (v n count : ℕ) (decls : List Decl) → AreDeclared v n count decls → AllByRecursion (IsSpelledIn v) decls
spelled v n count [] h = tt
spelled v n count (Source name file columns ∷ decls) h = (h.0, spelled v n count decls h.1)
spelled v n count (FunctionDecl number ∷ decls) h = (tt, spelled v (n + 1) count decls h.1)
spelled v n count (OpDecl name kind function left right left_keys right_keys ∷ decls) h = (h.0, spelled v n count decls h.1)
spelled v n count (Sink input fields ∷ decls) h = (h.0, spelled v n count decls h.1)

-- ---- its lists of keys are short

none_few : (keys : List ℕ) → keys ≡ [] → length keys ≤ key_limit
none_few keys e = subst (λ (ks : List ℕ). length ks ≤ key_limit) (sym e) (omega arith)

few-keys_of : (kind : OpKind) (right left_keys right_keys : List ℕ) → HasInputs kind right left_keys right_keys → (length left_keys ≤ key_limit) × (length right_keys ≤ key_limit)
few-keys_of SourceKind right left_keys right_keys h = absurd h
few-keys_of Map right left_keys right_keys h = (none_few left_keys h.1, none_few right_keys h.2)
few-keys_of Reduce right left_keys right_keys h = (h.1.few, none_few right_keys h.2)
few-keys_of Match right left_keys right_keys h = (h.1.few, h.2.few)
few-keys_of Cross right left_keys right_keys h = (none_few left_keys h.1, none_few right_keys h.2)
few-keys_of CoGroup right left_keys right_keys h = (h.1.few, h.2.few)

few-keys_in : (v : ℕ) (decl : Decl) → IsSpelledIn v decl → HasFewKeys decl
few-keys_in v (Source name file columns) h = tt
few-keys_in v (FunctionDecl number) h = tt
few-keys_in v (OpDecl name kind function left right left_keys right_keys) h = few-keys_of kind right left_keys right_keys h.3
few-keys_in v (Sink input fields) h = tt

pub few-keys : (v : ℕ) (decls : List Decl) → AllByRecursion (IsSpelledIn v) decls → AllByRecursion HasFewKeys decls
few-keys v [] h = tt
few-keys v (decl ∷ decls) h = (few-keys_in v decl h.0, few-keys v decls h.1)
