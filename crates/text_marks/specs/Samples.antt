-- A word of each kind that may be at a place.
use Rattle.std.specs.Prelude.{ℕ, List, [], ◌∷◌, ◌++◌, codes, decimal}
use Rattle.text_marks.specs.declared.expected.Expected.{Expected}
use Rattle.text_marks.specs.declared.expected.Expected.TheVariants.{Word, ValueRegister, RecordRegister, Loop, Number, Signed, Literal, Name, FileName, Column, FieldRegister, LineEnd}

abbrev pub sample_of : Expected → List ℕ
sample_of (Word word) = word.now
sample_of ValueRegister = codes "v0"
sample_of RecordRegister = codes "r0"
sample_of (Loop number) = codes "x" ++ decimal number
sample_of (Number low high) = decimal low
sample_of Signed = codes "-1"
sample_of Literal = 34 ∷ 97 ∷ 34 ∷ []
sample_of Name = codes "zz"
sample_of FileName = codes "a/b"
sample_of Column = codes "int:0"
sample_of FieldRegister = codes "@v0"
sample_of LineEnd = []
