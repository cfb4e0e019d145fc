-- Programs as their text declares them.
use Rattle.std.specs.Prelude.{◌≡◌, ◌≤◌, ◌+◌, ℕ, List, [], ◌∷◌, length}
use Rattle.std.specs.List.{AllByRecursion}
use Rattle.tac_syntax.specs.declared.functions.Function.{Function}
use Rattle.tac_syntax.specs.declared.declarations.Decl.{Decl}
use Rattle.tac_syntax.specs.declared.declarations.Decl.TheVariants.{Function as FunctionDecl}
use Rattle.tac_syntax.specs.Declarations.{IsSpelledDecl}
use Rattle.tac_syntax.specs.FieldRegisters.{Takes, has_registers}
use Rattle.tac_syntax.specs.Functions.{IsSpelledFunction}
use Rattle.tac_syntax.specs.Versions.{IsVersion, field_limit}

-- the version, the number of fields, and the functions and the declarations in text order
pub record DraftData : Type 0 where
  pub version : ℕ
  pub fields : ℕ
  pub functions : List Function
  pub decls : List Decl

-- The functions from number n on are declared in their order, and every other declaration can be spelled.
abbrev pub AreDeclared : ℕ → ℕ → ℕ → List Decl → Type 0
AreDeclared version n count [] = n ≡ count
AreDeclared version n count (FunctionDecl number ∷ decls) = (number ≡ n) × AreDeclared version (n + 1) count decls
AreDeclared version n count (decl ∷ decls) = IsSpelledDecl version decl × AreDeclared version n count decls

-- Some text spells the program.
pub record IsSpelledDraft (d : DraftData) : Type 0 where
  pub version : IsVersion d.version
  pub some_field : 1 ≤ d.fields
  pub few_fields : d.fields ≤ field_limit d.version
  pub functions : AllByRecursion IsSpelledFunction d.functions
  pub registers : AllByRecursion (λ f. Takes (has_registers d.version) f.body) d.functions
  pub declared : AreDeclared d.version 0 (length d.functions) d.decls
