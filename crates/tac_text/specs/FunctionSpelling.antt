-- The one canonical spelling of bodies and functions.
use Rattle.std.specs.Prelude.{ℕ, ◌+◌, Bool, if◌then◌else◌, List, [], ◌++◌}
use Rattle.tac_syntax.specs.Code.{Code, stop, plain, branch, again, each, Line, simple, test, turns, over, otherwise, close}
use Rattle.tac_syntax.specs.Coding.{is_stop}
use Rattle.tac_syntax.specs.declared.functions.Function.{Function}
use Rattle.text_lines.specs.CanonicalLines.{line_spelling}
use Rattle.tac_text.specs.StatementSpelling.{words_of_line}
use Rattle.tac_text.specs.FunctionLines.{header_words}

-- ---- bodies

-- No line is inside more blocks than this, with room for the blocks around a body.
abbrev pub deepest : ℕ
deepest = 1000

abbrev pub at_depth : ℕ → Line → List ℕ
at_depth depth l = line_spelling depth (words_of_line l)

-- the second body of an `if`, after its `else`; nothing if it is empty
abbrev pub other_text : ℕ → Bool → List ℕ → List ℕ
other_text depth empty text = if empty then [] else at_depth depth otherwise ++ text

abbrev pub body_text : ℕ → Code → List ℕ
body_text depth stop = []
body_text depth (plain s next) = at_depth depth (simple s) ++ body_text depth next
body_text depth (branch on body other next) =
    at_depth depth (test on)
    ++ (body_text (depth + 1) body ++ (other_text depth (is_stop other) (body_text (depth + 1) other) ++ (at_depth depth close ++ body_text depth next)))
body_text depth (again count body next) = at_depth depth (turns count) ++ (body_text (depth + 1) body ++ (at_depth depth close ++ body_text depth next))
body_text depth (each name list body next) = at_depth depth (over name list) ++ (body_text (depth + 1) body ++ (at_depth depth close ++ body_text depth next))

-- ---- functions

-- its header, the body inside it, and `end`
abbrev pub function_spelling : Function → List ℕ
function_spelling f = line_spelling 0 (header_words f.name f.kind f.keys) ++ (body_text 1 f.body ++ at_depth 0 close)
