-- A search for the first file with a name.
use Rattle.std.proofs.Common.{◌≡◌, ◌<◌, ℕ, zero, suc, true, false, List, [], ◌∷◌, length, drop, get_or, Some, bytes_eq, refl, arith}
use Rattle.pact_outside.specs.declared.files.NamedFile.{NamedFile}
use Rattle.pact_outside.specs.Outside.{file_named}
use Rattle.pact_outside.specs.Memory.{bytes_at}

pub file_named_here : (files : List NamedFile) (place : ℕ) (file : NamedFile) (name : List ℕ)
    → place < length files → file ≡ get_or files place file → bytes_eq file.name name ≡ true
    → file_named (drop place files) name ≡ Some (bytes_at files place)
file_named_here [] place file name h e s = absurd (omega arith)
file_named_here (f ∷ files) zero file name h e s = rw (← e, s) refl
file_named_here (f ∷ files) (suc place) file name h e s = file_named_here files place file name (omega arith) e s

pub file_named_further : (files : List NamedFile) (place : ℕ) (file : NamedFile) (name : List ℕ)
    → place < length files → file ≡ get_or files place file → bytes_eq file.name name ≡ false
    → file_named (drop place files) name ≡ file_named (drop (suc place) files) name
file_named_further [] place file name h e s = absurd (omega arith)
file_named_further (f ∷ files) zero file name h e s = rw (← e, s) refl
file_named_further (f ∷ files) (suc place) file name h e s = file_named_further files place file name (omega arith) e s
