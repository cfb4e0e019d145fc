-- A certificate as a JSON value, and as text.
use Rattle.std.specs.Prelude.{◌≡◌, ◌≤◌, ◌<◌, ◌^◌, ℕ, List, Some, codes, length, map, IsUtf8}
use Rattle.std.specs.List.{AllByRecursion}
use Rattle.pact_record.specs.declared.records.TheConstants.{MAX_FIELDS}
use Rattle.pact_record.specs.Limits.{word_limit}
use Rattle.tac_syntax.specs.EmitBounds.{many}
use Rattle.tac_syntax.specs.Versions.{IsVersion, field_limit}
use Rattle.reorder_pair.specs.declared.finding.Found.{Found}
use Rattle.plan_printer.specs.FoundText.{anchor_word, rising_fields}
use Rattle.serde_json.specs.Data.{Data, number, string, array, object, no_members, member, unsigned}
use Rattle.serde_json.specs.Read.{read}
use Rattle.serde_json.specs.View.{items_of}
use Rattle.swap_certificate.specs.declared.certificates.Certificate.{Certificate}
use Rattle.swap_certificate.specs.declared.certificates.Step.{Step}

-- ---- the value: the members of an object are ordered by the bytes of their keys, as in every JSON value here

abbrev pub whole : ℕ → Data
whole n = number (unsigned n)

-- a set as its fields, strictly rising
abbrev pub set_data : ℕ → Data
set_data set = array (items_of (map whole (rising_fields set MAX_FIELDS)))

abbrev pub found_with : Data → Data → Data → Data → Data → Data → Data → Data
found_with anchor control hi lo reads touched writes =
    object (member (codes "anchor") anchor
    (member (codes "control") control
    (member (codes "hi") hi
    (member (codes "lo") lo
    (member (codes "reads") reads
    (member (codes "touched") touched
    (member (codes "writes") writes no_members)))))))

abbrev pub found_data : Found → Data
found_data f =
    found_with (string (anchor_word f.sets.anchor_left f.sets.anchor_right)) (set_data f.sets.control) (whole f.hi) (whole f.lo)
    (set_data f.sets.reads) (set_data f.sets.touched) (set_data f.sets.writes)

abbrev pub step_with : Data → Data → Data → Data → Data
step_with at lower rule upper = object (member (codes "at") at (member (codes "lower") lower (member (codes "rule") rule (member (codes "upper") upper no_members))))

abbrev pub step_data : Step → Data
step_data s = step_with (string s.at) (found_data s.lower) (string s.rule) (found_data s.upper)

abbrev pub certificate_with : Data → Data → Data → Data
certificate_with plan steps version = object (member (codes "plan") plan (member (codes "steps") steps (member (codes "version") version no_members)))

abbrev pub certificate_data : Certificate → Data
certificate_data c = certificate_with (string c.plan) (array (items_of (map step_data c.steps))) (whole c.version)

-- ---- what a certificate may state

-- a set of fields below a number
abbrev pub IsSet : ℕ → ℕ → Type 0
IsSet most set = set < 2 ^ most

pub record AreSets (most : ℕ) (f : Found) : Type 0 where
  pub reads : IsSet most f.sets.reads
  pub writes : IsSet most f.sets.writes
  pub control : IsSet most f.sets.control
  pub touched : IsSet most f.sets.touched

-- sets of fields below a number, and bounds of at most `many`, at which counting stops
pub record MayBeFound (most : ℕ) (f : Found) : Type 0 where
  pub sets : AreSets most f
  pub lo : f.lo ≤ many
  pub hi : f.hi ≤ many

-- the most bytes of a plan's line
abbrev pub line_limit : ℕ
line_limit = 4096

abbrev pub IsShortText : ℕ → List ℕ → Type 0
IsShortText limit text = IsUtf8 text × (length text ≤ limit)

pub record MayBeStep (most : ℕ) (s : Step) : Type 0 where
  pub rule : IsShortText word_limit s.rule
  pub at : IsShortText word_limit s.at
  pub upper : MayBeFound most s.upper
  pub lower : MayBeFound most s.lower

-- the version decides which fields a set may have
pub record MayBeStated (c : Certificate) : Type 0 where
  pub version : IsVersion c.version
  pub steps : AllByRecursion (MayBeStep (field_limit c.version)) c.steps
  pub plan : IsShortText line_limit c.plan

-- ---- shape and text

-- the JSON value has the shape of a certificate, and this is that certificate
pub record IsShaped (c : Certificate) (value : Data) : Type 0 where
  pub stated : MayBeStated c
  pub is : value ≡ certificate_data c

-- the text is JSON for a value of this shape
pub record IsCertificateText (text : List ℕ) (c : Certificate) : Type 0 where
  pub is_text : IsUtf8 text
  pub value : Data
  pub is_read : read text ≡ Some value
  pub shaped : IsShaped c value
