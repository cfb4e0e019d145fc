-- Declarations that a text can spell.
use Rattle.std.specs.Prelude.{◌≡◌, ◌≤◌, ℕ, IsTrue, List, [], length, codes}
use Rattle.std.specs.List.{AllByRecursion}
use Rattle.pact_record.specs.declared.columns.Column.{Column}
use Rattle.tac_syntax.specs.declared.declarations.OpKind.{OpKind}
use Rattle.tac_syntax.specs.declared.declarations.OpKind.TheVariants.{Source as SourceKind, Map, Reduce, Match, Cross, CoGroup}
use Rattle.tac_syntax.specs.declared.declarations.Decl.{Decl}
use Rattle.tac_syntax.specs.declared.declarations.Decl.TheVariants.{Source, Op, Sink}
use Rattle.pact_record.specs.Keys.{key_limit}
use Rattle.tac_syntax.specs.Grammar.{IsNumber}
use Rattle.tac_syntax.specs.Names.{is_name, is_file_name}
use Rattle.tac_syntax.specs.Versions.{field_limit}

-- the word that names what a source or an operator does in texts
abbrev pub kind_word : OpKind → List ℕ
kind_word SourceKind = codes "source"
kind_word Map = codes "map"
kind_word Reduce = codes "reduce"
kind_word Match = codes "match"
kind_word Cross = codes "cross"
kind_word CoGroup = codes "cogroup"

abbrev pub AreNumbers : List ℕ → Type 0
AreNumbers list = AllByRecursion IsNumber list

pub record IsKeyList (keys : List ℕ) : Type 0 where
  pub some : 1 ≤ length keys
  pub few : length keys ≤ key_limit
  pub numbers : AreNumbers keys

-- at least one column and at most `most`, all with numbers that a text can spell
pub record AreColumns (most : ℕ) (columns : List Column) : Type 0 where
  pub some : 1 ≤ length columns
  pub few : length columns ≤ most
  pub numbers : AllByRecursion (λ c. IsNumber c.field) columns

pub record AreSinkFields (most : ℕ) (fields : List ℕ) : Type 0 where
  pub some : 1 ≤ length fields
  pub few : length fields ≤ most
  pub numbers : AreNumbers fields

-- A kind's second input and its key lists; what it doesn't have is empty.
abbrev pub HasInputs : OpKind → List ℕ → List ℕ → List ℕ → Type 0
HasInputs Map right left_keys right_keys = (right ≡ []) × (left_keys ≡ []) × (right_keys ≡ [])
HasInputs Reduce right left_keys right_keys = (right ≡ []) × IsKeyList left_keys × (right_keys ≡ [])
HasInputs Match right left_keys right_keys = IsTrue (is_name right) × IsKeyList left_keys × IsKeyList right_keys
HasInputs Cross right left_keys right_keys = IsTrue (is_name right) × (left_keys ≡ []) × (right_keys ≡ [])
HasInputs CoGroup right left_keys right_keys = IsTrue (is_name right) × IsKeyList left_keys × IsKeyList right_keys
HasInputs kind right left_keys right_keys = ⊥

-- a declaration other than of a function, in a program of the version
abbrev pub IsSpelledDecl : ℕ → Decl → Type 0
IsSpelledDecl version (Source name file columns) = IsTrue (is_name name) × IsTrue (is_file_name file) × AreColumns (field_limit version) columns
IsSpelledDecl version (Op name kind function left right left_keys right_keys) =
    IsTrue (is_name name) × IsTrue (is_name function) × IsTrue (is_name left) × HasInputs kind right left_keys right_keys
IsSpelledDecl version (Sink input fields) = IsTrue (is_name input) × AreSinkFields (field_limit version) fields
IsSpelledDecl version decl = ⊥
