-- Words of rules, names and lines of plans are UTF-8 texts within their limits.
use Rattle.std.proofs.Common.{◌≡◌, ◌≤◌, ◌<◌, ◌*◌, ◌&&◌, ℕ, true, nat_le, List, [], ◌∷◌, ◌++◌, length, Option, Some, None, slice_get, codes, IsUtf8, refl, arith, length-append}
use Rattle.std.proofs.lemmas.Bool.{and_parts}
use Rattle.std.proofs.lemmas.Bool.Decides.{nat_tests}
use Rattle.std.proofs.lemmas.Str.{IsUtf8-append, IsUtf8-from_ascii, IsUtf8-nil}
use Rattle.std.proofs.lemmas.Str.Ascii.{IsAscii-cons, IsAscii-nil}
use Rattle.std.specs.Char.{is_ascii}
use Rattle.std.specs.Str.{IsAscii}
use Rattle.pact_record.specs.Limits.{word_limit}
use Rattle.tac_syntax.specs.Names.{all_bytes, is_name, is_name_byte, is_small_letter}
use Rattle.plan_trees.specs.Plans.{PlanTree, leaf, over, both, IsPlan}
use Rattle.plan_trees.specs.Preorders.{count_of}
use Rattle.plan_trees.proofs.FewNodes.{few_nodes}
use Rattle.pact_operators.specs.declared.operators.Op.{Op}
use Rattle.reorder_pair.specs.declared.rules.Rule.{Rule}
use Rattle.reorder_pair.specs.declared.rules.Rule.TheVariants.{MapMap, MapLeft, MapLeftUp, MapRight, MapRightUp, Rotate, RotateUp, MapReduce, MapReduceUp, MapCoGroupLeft, MapCoGroupLeftUp, MapCoGroupRight, MapCoGroupRightUp, ReduceMatchLeft, ReduceMatchLeftUp, ReduceMatchRight, ReduceMatchRightUp}
use Rattle.reorder_pair.specs.Rules.{word_of}
use Rattle.pact_operators.specs.Programs.{AreNames}
use Rattle.plan_printer.specs.PlanText.{operator_name}
use Rattle.swap_certificate.specs.PlanLines.{line_of, name_at}
use Rattle.swap_certificate.specs.Shape.{IsShortText, line_limit}

-- ---- ASCII

ascii-below : (b : ℕ) → is_ascii b ≡ true → b < 128
ascii-below b h = grind (arith, nat_tests)

all_ascii-IsAscii : (bytes : List ℕ) → all_bytes is_ascii bytes ≡ true → IsAscii bytes
all_ascii-IsAscii [] h = IsAscii-nil
all_ascii-IsAscii (b ∷ bytes) h =
    let parts = and_parts (is_ascii b) (all_bytes is_ascii bytes) h in
    IsAscii-cons b bytes (ascii-below b parts.0) (all_ascii-IsAscii bytes parts.1)

pub text-IsUtf8 : (bytes : List ℕ) → all_bytes is_ascii bytes ≡ true → IsUtf8 bytes
text-IsUtf8 bytes h = IsUtf8-from_ascii bytes (all_ascii-IsAscii bytes h)

-- ---- words of rules

word_of-short : (rule : Rule) → length (word_of rule) ≤ word_limit
word_of-short MapMap = omega arith
word_of-short MapLeft = omega arith
word_of-short MapLeftUp = omega arith
word_of-short MapRight = omega arith
word_of-short MapRightUp = omega arith
word_of-short Rotate = omega arith
word_of-short RotateUp = omega arith
word_of-short MapReduce = omega arith
word_of-short MapReduceUp = omega arith
word_of-short MapCoGroupLeft = omega arith
word_of-short MapCoGroupLeftUp = omega arith
word_of-short MapCoGroupRight = omega arith
word_of-short MapCoGroupRightUp = omega arith
word_of-short ReduceMatchLeft = omega arith
word_of-short ReduceMatchLeftUp = omega arith
word_of-short ReduceMatchRight = omega arith
word_of-short ReduceMatchRightUp = omega arith

word_of-ascii : (rule : Rule) → all_bytes is_ascii (word_of rule) ≡ true
word_of-ascii MapMap = refl
word_of-ascii MapLeft = refl
word_of-ascii MapLeftUp = refl
word_of-ascii MapRight = refl
word_of-ascii MapRightUp = refl
word_of-ascii Rotate = refl
word_of-ascii RotateUp = refl
word_of-ascii MapReduce = refl
word_of-ascii MapReduceUp = refl
word_of-ascii MapCoGroupLeft = refl
word_of-ascii MapCoGroupLeftUp = refl
word_of-ascii MapCoGroupRight = refl
word_of-ascii MapCoGroupRightUp = refl
word_of-ascii ReduceMatchLeft = refl
word_of-ascii ReduceMatchLeftUp = refl
word_of-ascii ReduceMatchRight = refl
word_of-ascii ReduceMatchRightUp = refl

pub word_of-IsShortText : (rule : Rule) → IsShortText word_limit (word_of rule)
word_of-IsShortText rule = (text-IsUtf8 (word_of rule) (word_of-ascii rule), word_of-short rule)

-- ---- names

-- the most bytes of a name
abbrev name_limit : ℕ
name_limit = 32

name_byte-below : (b : ℕ) → is_name_byte b ≡ true → b < 128
name_byte-below b h = grind (arith, nat_tests)

small_letter-below : (b : ℕ) → is_small_letter b ≡ true → b < 128
small_letter-below b h = grind (arith, nat_tests)

few_bytes : (n : ℕ) → nat_le n 31 ≡ true → n ≤ 31
few_bytes n h = grind (arith, nat_tests)

name_bytes-IsAscii : (bytes : List ℕ) → all_bytes is_name_byte bytes ≡ true → IsAscii bytes
name_bytes-IsAscii [] h = IsAscii-nil
name_bytes-IsAscii (b ∷ bytes) h =
    let parts = and_parts (is_name_byte b) (all_bytes is_name_byte bytes) h in
    IsAscii-cons b bytes (name_byte-below b parts.0) (name_bytes-IsAscii bytes parts.1)

name-IsShortText : (name : List ℕ) → is_name name ≡ true → IsShortText name_limit name
name-IsShortText [] h = absurd cc
name-IsShortText (b ∷ bytes) h =
    let bounded = and_parts (is_small_letter b && all_bytes is_name_byte bytes) (nat_le (length bytes) 31) h in
    let parts = and_parts (is_small_letter b) (all_bytes is_name_byte bytes) bounded.0 in
    let few = few_bytes (length bytes) bounded.1 in
    (IsUtf8-from_ascii (b ∷ bytes) (IsAscii-cons b bytes (small_letter-below b parts.0) (name_bytes-IsAscii bytes parts.1)), omega (arith, few))

-- ---- lines

module _ (ops : List Op) (names : AreNames ops) where
  operator_name-IsShortText : (n : ℕ) (found : Option Op) → slice_get ops n ≡ found → IsShortText name_limit (operator_name found)
  operator_name-IsShortText n None e = (IsUtf8-nil, omega arith)
  operator_name-IsShortText n (Some op) e = name-IsShortText op.name (names n op e)

  name_at-IsShortText : (n : ℕ) → IsShortText name_limit (name_at ops n)
  name_at-IsShortText n = operator_name-IsShortText n (slice_get ops n) refl

  pub name_at-IsWord : (n : ℕ) → IsShortText word_limit (name_at ops n)
  name_at-IsWord n = let short = name_at-IsShortText n in (short.0, omega (arith, short.1))

  line_of-IsUtf8 : (t : PlanTree) → IsUtf8 (line_of ops t)
  line_of-IsUtf8 (leaf n) = (name_at-IsShortText n).0
  line_of-IsUtf8 (over n t) =
      IsUtf8-append (name_at ops n) _ (name_at-IsShortText n).0
      (IsUtf8-append (codes "(") _ (text-IsUtf8 (codes "(") refl) (IsUtf8-append (line_of ops t) (codes ")") (line_of-IsUtf8 t) (text-IsUtf8 (codes ")") refl)))
  line_of-IsUtf8 (both n t u) =
      IsUtf8-append (name_at ops n) _ (name_at-IsShortText n).0
      (IsUtf8-append (codes "(") _ (text-IsUtf8 (codes "(") refl)
      (IsUtf8-append (line_of ops t) _ (line_of-IsUtf8 t)
      (IsUtf8-append (codes ",") _ (text-IsUtf8 (codes ",") refl) (IsUtf8-append (line_of ops u) (codes ")") (line_of-IsUtf8 u) (text-IsUtf8 (codes ")") refl)))))

  -- at most 35 bytes for a node: its name, and the punctuation around its inputs
  length-line_of : (t : PlanTree) → length (line_of ops t) ≤ 35 * count_of t
  length-line_of (leaf n) = let short = (name_at-IsShortText n).1 in omega (arith, short)
  length-line_of (over n t) =
      let short = (name_at-IsShortText n).1 in
      let rest = length-line_of t in
      let whole = length-append (name_at ops n) (codes "(" ++ (line_of ops t ++ codes ")")) in
      let inner = length-append (line_of ops t) (codes ")") in
      omega (arith, short, rest, whole, inner)
  length-line_of (both n t u) =
      let short = (name_at-IsShortText n).1 in
      let left = length-line_of t in
      let right = length-line_of u in
      let whole = length-append (name_at ops n) (codes "(" ++ (line_of ops t ++ (codes "," ++ (line_of ops u ++ codes ")")))) in
      let inner = length-append (line_of ops t) (codes "," ++ (line_of ops u ++ codes ")")) in
      let last = length-append (line_of ops u) (codes ")") in
      omega (arith, short, left, right, whole, inner, last)

  pub line_of-IsShortText : (t : PlanTree) → IsPlan t → IsShortText line_limit (line_of ops t)
  line_of-IsShortText t plan =
      let few = few_nodes t plan in
      let long = length-line_of t in
      (line_of-IsUtf8 t, omega (arith, few, long))
