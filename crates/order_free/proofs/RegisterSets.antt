-- Conditions under which a set of registers is empty.
use Rattle.std.proofs.Common.{◌≡◌, ◌↔◌, ℕ, Bool, false, not, IsTrue, Option, Some, None, sym}
use Rattle.std.proofs.lemmas.Bool.{both_ways, not-true, not-false}
use Rattle.std.specs.Option.{IfSome, IfNone, is_some}
use Rattle.pact_record.specs.FieldSets.{has_field, IsEmpty, IsLeast}
use Rattle.order_free.specs.declared.registers.Registers.{Registers}
use Rattle.order_free.specs.Registers.{Register, value_at, record_at}
use Rattle.order_free.specs.Views.{registers_of}

-- if a set has no least number, it is empty
pub no_least : (least : Option ℕ) (s : ℕ) (is_none : Bool) → is_some least ≡ not is_none → IfSome least (IsLeast s) → IfNone least (IsEmpty s) → IsTrue is_none ↔ IsEmpty s
no_least None s is_none e some none = (λ _. none, λ _. not-false is_none (sym e))
no_least (Some k) s is_none e some none = (
  λ h. absurd (both_ways is_none (not-true is_none (sym e)) h),
  λ empty. absurd (both_ways (has_field s k) (empty k) some.has),
)

pub empty-values : (s : Registers) (is_none : Bool) → IsEmpty s.values → (IsTrue is_none ↔ IsEmpty s.records) → IsTrue is_none ↔ ((r : Register) → registers_of s r ≡ false)
empty-values s is_none values records = (all, λ empty. records.1 (λ k. empty (record_at k))) where
  all : IsTrue is_none → (r : Register) → registers_of s r ≡ false
  all h (value_at k) = values k
  all h (record_at k) = records.0 h k

pub some-values : (s : Registers) (is_none : Bool) → is_none ≡ false → (IsTrue is_none ↔ IsEmpty s.values) → IsTrue is_none ↔ ((r : Register) → registers_of s r ≡ false)
some-values s is_none e values = (
  λ h. absurd (both_ways is_none e h),
  λ empty. values.1 (λ k. empty (value_at k)),
)
